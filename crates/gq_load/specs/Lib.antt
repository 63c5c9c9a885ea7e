pub mod Answers
pub mod Coming
pub mod Fields
pub mod Fitting
pub mod Headers
pub mod Laws
pub mod Numbers
pub mod Payloads
