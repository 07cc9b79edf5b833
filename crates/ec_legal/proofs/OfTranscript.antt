pub mod Reading
pub mod Halves
