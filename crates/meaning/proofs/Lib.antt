pub mod Running
pub mod Jumping
pub mod Changing
pub mod Reaching
pub mod Keeping
pub mod Switches
pub mod Landing
pub mod Storing
