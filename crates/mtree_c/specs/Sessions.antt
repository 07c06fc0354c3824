-- What the job `session` does with a script and a file that the caller holds in memory.
use Rattle.std.specs.Prelude.{◌≡◌, ◌⊎◌, ℕ, ◌*◌, ◌^◌, ◌<◌, Bool, false, List, [], Some, length, IsTrue}
use Rattle.outside_io.specs.Sinks.{SinkState}
use Rattle.plan_disk.specs.Plan.{Plan, IsWhole, plan_state}
use Rattle.rows_text.specs.declared.command.Command.{Command}
use Rattle.session_run.specs.Job.{HasRefused, IsComplete, RunsAsked, RunsSession}

-- what a session comes to: the plan of what it does to the file, and what it puts to its two outputs
pub record Session : Type 0 where
  pub plan : Plan
  pub text : List ℕ
  pub log : List ℕ

-- a file to which nothing was done yet, on a disk as large as a disk may be
abbrev pub untouched : List ℕ → Plan
untouched file = record { base = file; steps = []; written = []; most = 2 ^ 37; faults = 0; reads = 0 }

-- an output that has never failed, and these bytes are on it
abbrev pub holding : List ℕ → SinkState
holding bytes = record { written = Some bytes; faults = 0 }

-- The session of a script on a file, without a fault. Status 0: the script is done; 6: the file is no file of version 2; 7: there are
-- more than 2^26 bytes of script; 9: a page of a file that is not sound is damaged.
pub record IsSession (show : Bool) (script file : List ℕ) (s : Session) (status : ℕ) : Type 0 where
  pub base : s.plan.base ≡ file
  pub whole : IsWhole s.plan
  pub faultless : s.plan.faults ≡ 0
  pub runs : RunsSession show (Some script) (plan_state (untouched file)) (plan_state s.plan) (holding []) (holding s.text) (holding []) (holding s.log) status
  -- a sound file and a script within its limit are not refused
  pub complete : IsComplete (Some script) (plan_state (untouched file)) ⊥ status
  pub long : status ≡ 7 → 2 ^ 26 < length script
  pub statuses : (status ≡ 0) ⊎ ((status ≡ 6) ⊎ ((status ≡ 7) ⊎ (status ≡ 9)))

-- What a session does that is asked these commands, known once the number of coordinates is, without a fault. Status 0: they are done; 6:
-- the file is no file of version 2; 9: a page of a file that is not sound is damaged.
pub record IsAsked (asked : ℕ → List Command) (file : List ℕ) (s : Session) (status : ℕ) : Type 0 where
  pub base : s.plan.base ≡ file
  pub whole : IsWhole s.plan
  pub faultless : s.plan.faults ≡ 0
  pub runs : RunsAsked false asked (plan_state (untouched file)) (plan_state s.plan) (holding []) (holding s.text) (holding []) (holding s.log) status
  pub refused : HasRefused (plan_state (untouched file)) (plan_state s.plan) (holding []) (holding s.text) (holding []) (holding s.log) status
  pub statuses : (status ≡ 0) ⊎ ((status ≡ 6) ⊎ (status ≡ 9))

-- `count` rows of `width` numbers stand one after another, and where they are tagged, there are as many tags
abbrev pub AreRows : ℕ → ℕ → Bool → List ℕ → List ℕ → Type 0
AreRows width count tagged cells tags = (length cells ≡ count * width) × (count < 2 ^ 32) × (IsTrue tagged → length tags ≡ count)
