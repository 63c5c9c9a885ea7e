pub mod ColumnLemmas
mod FoundLemmas
pub mod KindLemmas
pub mod PlanLemmas
