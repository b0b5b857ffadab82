pub mod SettingLines
pub mod SettingNumbers
pub mod Carets
pub mod Spelled
pub mod OutlineSteps
pub mod AsciiLetters
pub mod Writing
pub mod Reasons
