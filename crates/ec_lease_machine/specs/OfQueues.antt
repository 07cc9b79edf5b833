pub mod Queued
pub mod Adds
pub mod Reached
