pub mod Turning
pub mod Seats
pub mod Made
pub mod Synced
pub mod Told
pub mod Built
