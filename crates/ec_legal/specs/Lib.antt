pub mod Watches
pub mod Placed
pub mod Bounded
pub mod Ahead
pub mod Tried
pub mod Fronts
pub mod OfTranscript
