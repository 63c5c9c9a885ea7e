pub mod ReadingLemmas
pub mod WindowLemmas
