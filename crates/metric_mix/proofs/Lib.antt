pub mod PairCounts
pub mod SetPasses
