pub mod Names
pub mod Expressions
pub mod Positions
pub mod Machine
pub mod Runs
pub mod Laws
pub mod Accepted
pub mod Cases
