pub mod Mounts
pub mod Parts
