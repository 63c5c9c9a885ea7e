pub mod Granted
pub mod Lends
pub mod Ownership
pub mod Place
pub mod SlotLends
pub mod Whole
