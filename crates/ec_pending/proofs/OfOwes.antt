pub mod Ended
pub mod Staying
pub mod Found
pub mod Due
