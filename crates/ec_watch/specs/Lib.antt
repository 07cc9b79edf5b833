pub mod Left
pub mod Watches
