-- definitions for readers
pub mod Databases
pub mod Staging
pub mod Steps
pub mod Runs
pub mod Headline
pub mod Orders
pub mod Repeating
pub mod Casing
pub mod Spending
pub mod Upserting
-- and what they are made of
pub mod Loading
pub mod Refusing
pub mod Engines
-- contracts of single functions
pub mod Outputs
pub mod Serving
pub mod Carrying
