pub mod Book
pub mod Bounds
