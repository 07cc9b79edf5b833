pub mod Rooms
pub mod DrillRooms
