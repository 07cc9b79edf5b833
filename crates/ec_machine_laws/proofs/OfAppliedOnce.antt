pub mod Moves
pub mod Once
pub mod Walk
pub mod Steps
