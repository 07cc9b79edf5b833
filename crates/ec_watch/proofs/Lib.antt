pub mod Parts
pub mod Watched
pub mod Remaining
