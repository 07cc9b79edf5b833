pub mod Moments
pub mod Tallies
pub mod ServingMoments
pub mod Goings
