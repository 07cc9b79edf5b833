pub mod OrderLemmas
pub mod OfObjmap
pub mod OfObjtable
pub mod OfNumbers
pub mod OfNeeded
