pub mod RowsLemmas
pub mod Lists
pub mod Published
