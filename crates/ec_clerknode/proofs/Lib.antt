pub mod Lists
pub mod Ends
pub mod Parts
pub mod Acts
pub mod Nodes
pub mod Turns
pub mod LaneCalls
pub mod LanePasses
