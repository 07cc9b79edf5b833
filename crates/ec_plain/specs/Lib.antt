pub mod Walk
pub mod Plain
pub mod Reach
pub mod Bounds
pub mod BoundedCalls
