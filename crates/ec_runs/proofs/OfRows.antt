pub mod Tests
pub mod LongRows
