pub mod Prompt
pub mod Tokens
pub mod Wants
