pub mod OfPool
