pub mod Indexes
pub mod Least
pub mod Pairs
