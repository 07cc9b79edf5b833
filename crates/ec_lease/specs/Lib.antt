pub mod Issuing
pub mod Queued
pub mod Steps
pub mod Worlds
pub mod OfDrill
