pub mod Weaker
