pub mod Terms
pub mod Bounded
pub mod Counted
pub mod Falling
pub mod Sending
pub mod Delivering
pub mod Idle
pub mod Settled
pub mod Calling
pub mod Mail
pub mod Counting
pub mod Showing
pub mod Steps
pub mod Verdicts
pub mod Tried
pub mod Begun
pub mod Beside
pub mod SessionOpens
pub mod Evicted
pub mod Taking
pub mod Used
pub mod Tries
pub mod Batches
pub mod Leaving
pub mod Going
pub mod Granting
pub mod Empty
pub mod Once
pub mod Starting
pub mod Pushing
pub mod Stepping
mod StartScenes
mod PushScenes
pub mod Ending
mod Opening
pub mod OfDeliveries
