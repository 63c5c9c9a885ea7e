pub mod Again
pub mod Agrees
pub mod Loop
pub mod Sound
pub mod Valid
pub mod Within
