pub mod Cells
pub mod Keys
pub mod Lists
pub mod Words
