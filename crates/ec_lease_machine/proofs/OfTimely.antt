pub mod Lines
pub mod Outside
pub mod Taking
pub mod Steps
