pub mod Rows
pub mod Reading
pub mod Shown
pub mod Runs
pub mod Table
pub mod Going
