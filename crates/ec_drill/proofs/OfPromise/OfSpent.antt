pub mod Few
pub mod Windows
pub mod Servers
pub mod Clerks
pub mod Messages
pub mod Worlds
pub mod Drills
