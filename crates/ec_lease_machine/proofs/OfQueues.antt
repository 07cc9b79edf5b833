pub mod Begin
pub mod Resumed
pub mod Resumes
pub mod WaitsFirst
pub mod QueuedKeep
pub mod QueuedHold
pub mod Adds
pub mod Worlds
