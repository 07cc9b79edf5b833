pub mod FrameLaws
pub mod Frames
pub mod StreamLaws
pub mod Streams
