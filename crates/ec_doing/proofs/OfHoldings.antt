pub mod Asked
pub mod Lost
pub mod Owing
