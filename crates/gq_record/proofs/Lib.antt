pub mod PutLemmas
pub mod RecordLemmas
mod Vectors
