pub mod Roomy
pub mod Rooms
