pub mod Sorting
pub mod Trees
pub mod Adding
pub mod Deciding
