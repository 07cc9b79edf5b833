pub mod Backs
pub mod Bodies
