pub mod Outs
pub mod KeptAnswers
pub mod Patience
