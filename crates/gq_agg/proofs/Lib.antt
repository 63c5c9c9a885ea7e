pub mod Chosen
pub mod Different
pub mod Kept
pub mod Unseen
mod Vectors
