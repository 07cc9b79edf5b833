pub mod Walk
pub mod Grows
pub mod Prompt
pub mod Modes
pub mod Wants
pub mod Tokens
