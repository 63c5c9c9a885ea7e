pub mod Lexing
pub mod Queue
pub mod Results
pub mod Spelling
pub mod Texts
pub mod Tokens
