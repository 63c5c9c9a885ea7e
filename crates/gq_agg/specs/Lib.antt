pub mod Aggregates
pub mod Laws
pub mod Running
pub mod Values
pub mod Words
