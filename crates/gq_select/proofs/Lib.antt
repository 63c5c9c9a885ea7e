pub mod DistinctLemmas
pub mod KeySetLemmas
pub mod ReadLemmas
pub mod TruthLemmas
