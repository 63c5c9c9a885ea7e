-- definitions for readers
pub mod Kinds
pub mod Files
pub mod Guesses
pub mod Laws
pub mod Words
pub mod Said
pub mod Messages
-- contracts of single functions
pub mod Scanning
