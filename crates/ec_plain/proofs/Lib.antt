pub mod Paths
pub mod Listing
pub mod WalkLemmas
