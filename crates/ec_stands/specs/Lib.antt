pub mod FirstPlace
pub mod Stands
pub mod Checkpoints
pub mod Laws
pub mod OfTable
