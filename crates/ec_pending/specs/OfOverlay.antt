pub mod Fine
pub mod Shown
