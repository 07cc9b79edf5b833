pub mod AtOnce
pub mod OfRunning
