pub mod NumberLemmas
pub mod RemovalLemmas
