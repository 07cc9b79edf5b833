pub mod Runs
pub mod Started
pub mod Outcomes
pub mod Begun
pub mod Moved
pub mod OfKeeper
