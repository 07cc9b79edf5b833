pub mod Taken
pub mod Unclaimed
pub mod Served
pub mod Claims
pub mod Refused
pub mod Answered
