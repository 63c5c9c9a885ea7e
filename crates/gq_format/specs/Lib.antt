-- definitions for readers
pub mod Formats
pub mod Refusals
pub mod Jsons
pub mod Names
pub mod Shown
pub mod Columns
pub mod Boxes
-- contracts of single functions, and laws
pub mod Laws
pub mod Tokens
pub mod Parts
