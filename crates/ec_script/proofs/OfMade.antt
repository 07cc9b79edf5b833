pub mod Words
pub mod Names
pub mod Calls
pub mod Made
