pub mod Pending
pub mod Deferred
pub mod OfOverlay
pub mod OfOutside
pub mod OfOwes
