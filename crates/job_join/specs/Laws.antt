-- What a complete log of a join means.
use Rattle.std.specs.Prelude.{◌≡◌, ◌↔◌, true, None}
use Rattle.log_model.specs.declared.logs.JoinLog.{JoinLog}
use Rattle.job_files.specs.Logs.Laws.{SaysTrue}
use Rattle.job_join.specs.Lines.{join_words}
use Rattle.job_join.specs.Trees.{Tree, IsSoundFile, IsSoundLog, fault_of, is_one_space, judge_of, scanned_pairs}

-- the log is sound on the two live trees, and its answers are the pairs of the double loop over both files' points in order of id
pub record IsCompleteLog (left right : Tree) (log : JoinLog) : Type 0 where
  pub sound : IsSoundLog left right log
  pub scanned : log.answers ≡ scanned_pairs left right log.r

-- a file has no fault exactly where it is sound; for two sound files of one space, what is said of their logs is true
pub record FaultlessIsComplete (left right : Tree) : Type 0 where
  pub left_sound : (fault_of left ≡ None) ↔ IsSoundFile left
  pub right_sound : (fault_of right ≡ None) ↔ IsSoundFile right
  pub says_true : is_one_space left.head right.head ≡ true → IsSoundFile left → IsSoundFile right →
      SaysTrue join_words (judge_of left right) (IsCompleteLog left right)
