pub mod Agreeing
pub mod Making
pub mod Members
pub mod Settled
pub mod Verdicts
