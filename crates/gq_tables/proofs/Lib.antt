pub mod LoadLemmas
pub mod MadeLemmas
pub mod ReasonLemmas
pub mod TableLemmas
pub mod WordLemmas
