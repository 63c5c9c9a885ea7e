pub mod NarrowLemmas
pub mod ScanLemmas
pub mod HeaderLemmas
pub mod FileLemmas
pub mod GuessLemmas
pub mod TableLemmas
pub mod WordLemmas
mod Vectors
