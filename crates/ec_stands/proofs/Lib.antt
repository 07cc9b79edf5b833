pub mod Volumes
pub mod OfTable
