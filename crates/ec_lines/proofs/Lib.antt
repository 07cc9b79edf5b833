pub mod Named
pub mod Excluded
pub mod Starts
pub mod Indexed
pub mod Onward
