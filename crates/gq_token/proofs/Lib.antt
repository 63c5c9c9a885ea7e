mod Bytes
mod Cut
mod Longest
mod Lookup
mod Numbers
mod Quotes
mod Spelled
pub mod Trimmed
