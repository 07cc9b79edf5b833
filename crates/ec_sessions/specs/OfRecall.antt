pub mod Due
pub mod Keys
pub mod Laws
pub mod Rounds
pub mod Wants
pub mod HeldWants
