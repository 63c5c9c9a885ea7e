pub mod Commands
pub mod Items
pub mod Lines
pub mod Reading
pub mod Readings
pub mod Script
