pub mod Cases
pub mod Clocks
pub mod Comments
pub mod Heads
pub mod Numbers
pub mod Outside
