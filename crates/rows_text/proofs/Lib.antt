mod RunSteps
mod Kept
pub mod NumberLemmas
pub mod RecordLemmas
pub mod FieldsLemmas
pub mod LoadLemmas
pub mod StartLemmas
pub mod ReadableLemmas
pub mod Unhindered
