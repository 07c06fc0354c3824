-- How the run of a script ends, and what then stands on both outputs.
use Rattle.std.specs.Prelude.{◌≡◌, ◌≢◌, ◌⊎◌, ℕ, ◌≤◌, List, [], codes}
use Rattle.std.specs.Io.KnownBytes.{Appends}
use Rattle.outside_io.specs.Sinks.{SinkState, Tells}
use Rattle.rows_text.specs.declared.command.Command.{Command}
use Rattle.plain_scan.specs.Written.{IsFrontOf}
use Rattle.answer_texts.specs.Answered.{Answered}

-- a line stands there, or where out failed a front of it
abbrev pub IsTold : Type 0 → List ℕ → List ℕ → Type 0
IsTold Failed rest line = (rest ≡ line) ⊎ (IsFrontOf rest line × Failed)

-- What stands on the outputs when a run on a sound file ends with a status: the replies of the answered commands and the frames of
-- their logs, and then `rest` and `log_rest`. `more` are the other commands; the next one may be cut short.
pub record Ends (Failed : Type 0) (IsCutShort : List ℕ → List ℕ → Type 0) (status : ℕ) (answered : List Answered) (more : List Command)
    (rest log_rest : List ℕ) : Type 0 where
  pub done : status ≡ 0 → (more ≡ []) × (rest ≡ []) × (log_rest ≡ [])
  pub input : status ≡ 3 → (answered ≡ []) × IsTold Failed rest (codes "fault input\n")
  pub output : status ≡ 4 → IsCutShort rest log_rest
  pub disk : status ≡ 5 → IsTold Failed rest (codes "fault disk\n")
  pub long : status ≡ 7 → (answered ≡ []) × IsTold Failed rest (codes "fault long\n")
  pub memory : status ≡ 8 → IsTold Failed rest (codes "fault memory\n")
  pub unlogged : status ≢ 4 → log_rest ≡ []
  -- a sound file is an index, and no page of it is damaged
  pub index : status ≢ 6
  pub undamaged : status ≢ 9

-- ---- on any file

-- Some bytes were put, and `line` last of all; or a front of it, where an output failed meanwhile.
pub record EndsIn (out0 out1 : SinkState) (line : List ℕ) : Type 0 where
  pub mid : SinkState
  pub bytes : List ℕ
  pub grew : Appends out0.written mid.written bytes
  pub later : out0.faults ≤ mid.faults
  pub told : Tells mid out1 line

-- where the status is that of a fault, its line is the last that was put
pub record TellsFault (status : ℕ) (out0 out1 : SinkState) : Type 0 where
  pub input : status ≡ 3 → EndsIn out0 out1 (codes "fault input\n")
  pub disk : status ≡ 5 → EndsIn out0 out1 (codes "fault disk\n")
  pub long : status ≡ 7 → EndsIn out0 out1 (codes "fault long\n")
  pub memory : status ≡ 8 → EndsIn out0 out1 (codes "fault memory\n")
