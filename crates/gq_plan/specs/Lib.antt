-- definitions for readers
pub mod Plans
pub mod Places
pub mod Kinds
pub mod Headers
-- contracts of single functions
pub mod Scopes
