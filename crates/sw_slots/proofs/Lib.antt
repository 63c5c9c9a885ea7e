pub mod Blocks
pub mod Filled
pub mod Grants
pub mod Lending
pub mod Rows
pub mod Swaps
pub mod Walks
