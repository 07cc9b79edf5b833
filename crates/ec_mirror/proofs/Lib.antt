pub mod Joins
pub mod Lives
pub mod Passing
pub mod Disks
pub mod Showing
pub mod Stands
pub mod Tallies
pub mod Wholes
