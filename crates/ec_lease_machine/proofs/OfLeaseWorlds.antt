pub mod Queues
pub mod Reaching
pub mod Asking
pub mod Coming
pub mod Runs
pub mod Stored
