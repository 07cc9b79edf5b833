pub mod Plain
mod Judging
mod Mirrors
mod Starts
mod Greeting
mod Usage
pub mod Soaks
pub mod OfNamed
