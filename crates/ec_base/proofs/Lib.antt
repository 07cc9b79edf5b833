mod Cuts
pub mod Lists
pub mod Numbers
pub mod Bools
pub mod Equalities
pub mod Options
pub mod Results
pub mod OutsideLemmas
pub mod HoldsLemmas
pub mod Filters
