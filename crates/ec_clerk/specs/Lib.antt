pub mod Prompt
pub mod OfRunning
