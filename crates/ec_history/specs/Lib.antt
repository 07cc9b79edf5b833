pub mod History
pub mod Legal
pub mod Placing
pub mod Lines
pub mod Written
pub mod OfLaws
