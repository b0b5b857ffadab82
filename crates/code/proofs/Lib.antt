pub mod Bytes
pub mod Passing
pub mod Places
pub mod RoundTrip
pub mod Rulings
pub mod Storing
pub mod Targets
pub mod Verdicts
