pub mod Splits
pub mod Heads
pub mod Outside
pub mod LinedOnce
pub mod Lasts
pub mod OfGenerator
pub mod OfMade
