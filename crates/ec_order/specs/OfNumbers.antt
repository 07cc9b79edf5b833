pub mod Numbers
pub mod Starts
