pub mod Late
pub mod Entries
mod Bounded
mod Told
mod Judged
pub mod Begun
pub mod Tried
pub mod Before
pub mod OfTranscript
