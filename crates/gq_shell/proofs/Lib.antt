mod CheckLemmas
mod InputLemmas
mod StatusLemmas
