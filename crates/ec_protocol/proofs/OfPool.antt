pub mod Goings
pub mod Laws
pub mod Lists
