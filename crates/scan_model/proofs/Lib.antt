mod OrderedLemmas
mod ScanLemmas
mod JoinLemmas
pub mod RangeLaw
pub mod JoinLaw
mod NearestLaw
pub mod Published
