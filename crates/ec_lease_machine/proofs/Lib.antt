pub mod OfBook
pub mod OfWords
pub mod OfQueues
pub mod OfLeaseLaws
pub mod OfTimely
pub mod OfLeaseWorlds
pub mod OfPlain
