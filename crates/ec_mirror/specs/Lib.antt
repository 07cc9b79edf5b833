pub mod Joins
pub mod Moments
pub mod Numbers
pub mod Past
pub mod PastLaws
pub mod Disks
pub mod Shown
pub mod Tally
