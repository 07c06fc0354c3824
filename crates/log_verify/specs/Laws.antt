-- The laws of verdicts.
use Rattle.std.specs.Prelude.{◌≡◌, ◌↔◌, None}
use Rattle.metric_laws.specs.Space.{Space}
use Rattle.tree_shape.specs.declared.live.Live.{Live}
use Rattle.page_store.specs.Reading.{Read, nodes_of}
use Rattle.log_model.specs.declared.logs.Log.{Log}
use Rattle.log_model.specs.Sound.{IsSoundLog}
use Rattle.log_model.specs.declared.logs.JoinLog.{JoinLog}
use Rattle.log_model.specs.SoundJoin.{IsSoundJoinLog}
use Rattle.log_verify.specs.Judged.{log_fault}
use Rattle.log_verify.specs.JoinJudged.{join_fault}

-- a log has no fault exactly where it is sound
abbrev pub FaultsAreUnsoundness : Type 0
FaultsAreUnsoundness = (s : Space) (read : Read) (live : Live) (log : Log) → (log_fault s read live log ≡ None) ↔ IsSoundLog s (nodes_of read) live log

-- a join's log has no fault exactly where it is sound
abbrev pub JoinFaultsAreUnsoundness : Type 0
JoinFaultsAreUnsoundness =
    (s : Space) (left right : Read) (l r : Live) (log : JoinLog) → (join_fault s left right l r log ≡ None)
    ↔ IsSoundJoinLog s (nodes_of left) (nodes_of right) l r log
