pub mod Owing
pub mod Ready
