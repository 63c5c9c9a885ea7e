pub mod Classes
pub mod Drained
pub mod Equal
pub mod Listed
pub mod Merged
pub mod Retained
