pub mod Sixteen
pub mod Slots
