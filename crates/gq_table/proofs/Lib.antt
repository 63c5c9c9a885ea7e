pub mod ColumnStoreLemmas
pub mod KeyedLemmas
pub mod PlaceLemmas
pub mod RowStoreLemmas
pub mod SomeCellsLemmas
pub mod StagedLemmas
pub mod ValidTableLemmas
pub mod StoredLemmas
