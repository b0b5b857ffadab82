pub mod Faults
pub mod Kinds
pub mod Range
pub mod Whole
pub mod Hundredths
pub mod Text
pub mod Amounts
pub mod Cases
