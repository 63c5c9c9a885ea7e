pub mod Findings
pub mod Passing
pub mod Reports
pub mod Stepping
