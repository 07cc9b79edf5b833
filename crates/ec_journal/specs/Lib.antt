pub mod Ends
pub mod Journal
pub mod Laws
pub mod Records
pub mod RecordBytes
pub mod OfLayout
