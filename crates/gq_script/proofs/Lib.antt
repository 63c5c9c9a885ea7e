mod Collected
mod Ends
pub mod Front
pub mod Gathered
pub mod LoadWord
mod Marks
mod PlainLines
