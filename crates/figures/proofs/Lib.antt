pub mod Stored
pub mod Printed
pub mod Words
