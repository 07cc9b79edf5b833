pub mod Claims
pub mod Laws
pub mod Tokens
pub mod SoundTokens
