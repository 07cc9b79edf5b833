pub mod Lines
pub mod Grammar
pub mod LineFaults
pub mod Heads
pub mod Last
pub mod OfGenerator
pub mod OfMade
