mod MemoryLaws
pub mod TurnLaws
mod UndoLaws
pub mod OfArm
