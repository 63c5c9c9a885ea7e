-- definitions for readers
pub mod Answers
pub mod Laws
pub mod Outcomes
pub mod Rollups
pub mod Selecting
pub mod Work
-- contracts of single functions
pub mod Cells
pub mod Frames
pub mod SortPrefixes
pub mod GroupSpans
pub mod Joining
pub mod Keeping
pub mod Sources
pub mod Spans
pub mod Spelling
pub mod Ties
