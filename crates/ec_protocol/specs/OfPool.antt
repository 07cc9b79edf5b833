pub mod Goings
pub mod Insides
pub mod Pools
