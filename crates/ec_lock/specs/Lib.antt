pub mod Steps
pub mod Rule
pub mod Told
pub mod Passes
pub mod PassViews
pub mod Laws
