pub mod Completing
mod Covering
pub mod EachRow
pub mod Filling
pub mod Fits
pub mod Left
pub mod Names
pub mod Numbers
pub mod Onward
pub mod Places
pub mod Spelling
pub mod Texts
pub mod Vectors
