pub mod Contents
pub mod Headers
pub mod OfSlots
