pub mod Calls
pub mod Conditions
pub mod Laws
pub mod Routes
