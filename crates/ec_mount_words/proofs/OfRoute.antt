pub mod Nearest
pub mod Paths
pub mod SoFar
