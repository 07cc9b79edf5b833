pub mod Script
pub mod Lines
pub mod Drill
pub mod Writing
pub mod Steps
pub mod Closing
pub mod Starts
pub mod Promise
