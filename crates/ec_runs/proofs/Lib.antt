pub mod OfRows
