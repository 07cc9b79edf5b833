pub mod Copies
pub mod Fills
pub mod Halves
pub mod Headers
pub mod Joins
pub mod OfSlots
pub mod Raises
