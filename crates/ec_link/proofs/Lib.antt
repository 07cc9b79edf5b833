pub mod Pushed
pub mod Framed
pub mod Promised
pub mod HappeningsLemmas
