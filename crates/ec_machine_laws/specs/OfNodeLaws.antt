pub mod Claims
pub mod Rooms
