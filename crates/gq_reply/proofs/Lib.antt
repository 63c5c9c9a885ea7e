pub mod BareLemmas
pub mod Bytes
pub mod DigitLemmas
pub mod PlainLemmas
pub mod RecordLemmas
pub mod RowsLemmas
pub mod StepLemmas
pub mod Texts
mod Vectors
