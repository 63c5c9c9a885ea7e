pub mod Checking
pub mod Program
pub mod Reading
pub mod Session
pub mod Sources
pub mod Statuses
pub mod Streams
