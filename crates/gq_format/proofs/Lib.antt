mod AlignLemmas
mod CsvLemmas
mod DistinctNames
mod NameLemmas
mod ObjectLemmas
mod PushLemmas
mod Vectors
