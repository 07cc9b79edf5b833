pub mod Calls
pub mod Selecting
pub mod Sides
