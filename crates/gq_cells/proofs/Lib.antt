pub mod TaggedCellLemmas
pub mod KeyLemmas
pub mod OrderLemmas
pub mod RowsLemmas
pub mod WordTextLemmas
