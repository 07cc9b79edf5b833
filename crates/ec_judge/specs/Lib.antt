pub mod Faults
pub mod Fault
pub mod Asks
pub mod Index
pub mod Carried
pub mod Example
