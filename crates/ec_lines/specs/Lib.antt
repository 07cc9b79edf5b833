pub mod Faults
pub mod Named
pub mod Index
pub mod Seen
pub mod Fault
pub mod Following
