pub mod Slots
pub mod Agrees
pub mod Timely
pub mod Resting
pub mod Outside
