pub mod Agreeing
pub mod Reading
pub mod Within
pub mod Words
