pub mod Judged
pub mod JoinJudged
pub mod Causes
pub mod Steps
pub mod JoinSteps
pub mod Laws
