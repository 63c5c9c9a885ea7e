pub mod FirstWords
pub mod Gathering
pub mod Numbering
pub mod Payloads
pub mod Script
