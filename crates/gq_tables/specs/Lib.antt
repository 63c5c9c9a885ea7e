-- definitions for readers
pub mod Faults
pub mod Files
pub mod Made
pub mod Reasons
-- contracts of single functions
pub mod Steps
