pub mod Spent
pub mod SpentDrills
