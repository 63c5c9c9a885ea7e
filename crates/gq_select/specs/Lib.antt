pub mod Asking
pub mod Distinct
pub mod KeySets
pub mod Laws
pub mod Matches
pub mod Truths
