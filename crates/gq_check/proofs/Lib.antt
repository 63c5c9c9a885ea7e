mod Faults
mod NumberLemmas
mod Passed
mod Plain
pub mod Steps
