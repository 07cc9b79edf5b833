pub mod Asking
pub mod Endings
pub mod Serve
pub mod ServerRuns
pub mod OfThreads
