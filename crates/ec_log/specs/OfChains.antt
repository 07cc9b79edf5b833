pub mod Chains
pub mod ClosureLaws
pub mod Front
pub mod Held
pub mod SlotLaws
pub mod Slots
pub mod Walk
