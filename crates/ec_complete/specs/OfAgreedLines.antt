pub mod Worlds
pub mod Closures
pub mod Placed
pub mod Room
pub mod Lines
pub mod Shown
pub mod Counting
pub mod Answered
