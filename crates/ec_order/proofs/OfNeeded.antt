pub mod Maps
pub mod Needs
