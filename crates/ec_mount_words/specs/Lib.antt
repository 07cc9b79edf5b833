pub mod Mounts
pub mod Laws
pub mod OfRoute
