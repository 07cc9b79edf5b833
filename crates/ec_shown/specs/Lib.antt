pub mod Spelling
pub mod Rows
pub mod LackedMarks
pub mod Examples
pub mod Answers
pub mod Calls
pub mod Lines
pub mod Showable
