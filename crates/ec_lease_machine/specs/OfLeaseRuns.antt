pub mod Network
pub mod Crashes
pub mod Stops
