pub mod Linked
pub mod Untold
pub mod Opened
pub mod Renewed
pub mod Worlds
pub mod Steps
pub mod Settling
pub mod Runs
