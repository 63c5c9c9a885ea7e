-- definitions for readers
pub mod Replies
pub mod Refusals
pub mod Outcomes
-- contracts of single functions
pub mod Bare
pub mod Sending
