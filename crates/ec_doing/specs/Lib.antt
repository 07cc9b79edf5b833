pub mod Resting
pub mod Seen
pub mod OfHoldings
