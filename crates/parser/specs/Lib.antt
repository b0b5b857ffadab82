pub mod Records
pub mod Promises
pub mod Expecting
pub mod Pieces
pub mod Labels
pub mod Whole
pub mod Refusal
pub mod Reading
