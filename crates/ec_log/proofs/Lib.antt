pub mod Choices
pub mod Fronts
pub mod Logs
pub mod Members
pub mod OfChains
