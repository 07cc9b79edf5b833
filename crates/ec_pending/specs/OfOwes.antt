pub mod Owes
pub mod Rules
