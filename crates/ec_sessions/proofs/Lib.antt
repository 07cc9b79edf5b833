pub mod Rising
pub mod Tables
pub mod OfTokens
pub mod OfRecall
