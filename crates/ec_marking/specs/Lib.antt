pub mod Runs
pub mod KeptRuns
pub mod Held
pub mod Signs
pub mod Marks
pub mod Marking
pub mod Keeping
pub mod OfKeeper
