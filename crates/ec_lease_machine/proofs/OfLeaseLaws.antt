pub mod RecordSlots
pub mod EventSlots
pub mod Issuing
pub mod Steps
pub mod Open
pub mod Unheld
pub mod Resting
pub mod Outside
