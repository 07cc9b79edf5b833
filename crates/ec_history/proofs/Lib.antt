pub mod HistoryLemmas
pub mod PlacingLemmas
pub mod OfLaws
