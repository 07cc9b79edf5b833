pub mod Keepers
pub mod Kept
pub mod Endings
pub mod Served
pub mod Tends
pub mod OfThreads
