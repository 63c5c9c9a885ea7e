pub mod Everywhere
pub mod Once
pub mod Overlap
pub mod Powers
pub mod Products
pub mod WordLemmas
