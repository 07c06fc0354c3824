-- The laws of the spellings of logs.
use Rattle.std.specs.Prelude.{◌≡◌, ◌↔◌, ◌<◌, ◌^◌, ℕ, List, length, None, Ok, All}
use Rattle.log_model.specs.declared.logs.Log.{Log}
use Rattle.log_model.specs.declared.logs.JoinLog.{JoinLog}
use Rattle.log_model.specs.Grammar.{IsValidLog, IsValidJoinLog}
use Rattle.prune_log.specs.Ranges.{IsBytes, LogInRange, JoinLogInRange}
use Rattle.prune_log.specs.Spelling.{log_bytes, join_log_bytes, frames_bytes}
use Rattle.prune_log.specs.Reading.{log_at, join_log_at, frames_at, log_fault, join_log_fault}

-- the bytes spell this log
pub record SpellsLog (bytes : List ℕ) (log : Log) : Type 0 where
  pub valid : IsValidLog log
  pub in_range : LogInRange log
  pub spelled : log_bytes log ≡ bytes

-- the bytes spell this join's log
pub record SpellsJoinLog (bytes : List ℕ) (log : JoinLog) : Type 0 where
  pub valid : IsValidJoinLog log
  pub in_range : JoinLogInRange log
  pub spelled : join_log_bytes log ≡ bytes

-- bytes have no fault exactly where they spell some log
abbrev pub FaultIsNoLog : Type 0
FaultIsNoLog = (bytes : List ℕ) → IsBytes bytes → (log_fault bytes ≡ None) ↔ ((log : Log) × SpellsLog bytes log)

abbrev pub FaultIsNoJoinLog : Type 0
FaultIsNoJoinLog = (bytes : List ℕ) → IsBytes bytes → (join_log_fault bytes ≡ None) ↔ ((log : JoinLog) × SpellsJoinLog bytes log)

-- bytes spell at most one log
abbrev pub OneLog : Type 0
OneLog = (bytes : List ℕ) (log other : Log) → SpellsLog bytes log → SpellsLog bytes other → log ≡ other

abbrev pub OneJoinLog : Type 0
OneJoinLog = (bytes : List ℕ) (log other : JoinLog) → SpellsJoinLog bytes log → SpellsJoinLog bytes other → log ≡ other

-- the bytes are frames of these logs
pub record SpellsFrames (bytes : List ℕ) (logs : List Log) : Type 0 where
  pub valid : All IsValidLog logs
  pub in_range : All LogInRange logs
  pub spelled : frames_bytes log_bytes logs ≡ bytes

-- bytes are read as logs exactly where they are frames of them
abbrev pub FramesAreRead : Type 0
FramesAreRead = (bytes : List ℕ) (logs : List Log) → IsBytes bytes → length bytes < 2 ^ 64 → (frames_at log_at bytes ≡ Ok logs) ↔ SpellsFrames bytes logs

-- the bytes are frames of these joins' logs
pub record SpellsJoinFrames (bytes : List ℕ) (logs : List JoinLog) : Type 0 where
  pub valid : All IsValidJoinLog logs
  pub in_range : All JoinLogInRange logs
  pub spelled : frames_bytes join_log_bytes logs ≡ bytes

-- bytes are read as joins' logs exactly where they are frames of them
abbrev pub JoinFramesAreRead : Type 0
JoinFramesAreRead =
    (bytes : List ℕ) (logs : List JoinLog) → IsBytes bytes → length bytes < 2 ^ 64 → (frames_at join_log_at bytes ≡ Ok logs) ↔ SpellsJoinFrames bytes logs
