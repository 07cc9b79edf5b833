pub mod Ends
pub mod Rests
pub mod Spent
pub mod Steps
pub mod OfHoldings
