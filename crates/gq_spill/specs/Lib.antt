pub mod Fuses
pub mod Handing
pub mod Laws
pub mod Memory
pub mod Reading
pub mod Refusals
pub mod Runs
pub mod Writing
