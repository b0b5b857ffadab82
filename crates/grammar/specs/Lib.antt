pub mod Refusal
pub mod Tree
pub mod Classes
pub mod Grammar
pub mod Scripts
pub mod Parser
pub mod Examples
pub mod Meaning
