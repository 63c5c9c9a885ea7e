pub mod Hashes
pub mod Inside
pub mod Order
pub mod Words
