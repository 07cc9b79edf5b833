pub mod Claims
pub mod Clerks
pub mod Parts
pub mod Waits
