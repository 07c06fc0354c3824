-- What an end with a line says, by the status.
use Rattle.std.proofs.Common.{◌≡◌, ◌≢◌, ℕ, List, [], refl, arith}
use Rattle.std.specs.Prelude.{codes}
use Rattle.std.proofs.KnownBytes.{Appends-nil}
use Rattle.outside_io.specs.Sinks.{SinkState, Tells}
use Rattle.rows_text.specs.declared.command.Command.{Command}
use Rattle.answer_texts.specs.Answered.{Answered}
use Rattle.answer_texts.specs.Ending.{Ends, EndsIn, IsTold, TellsFault}

module _ (Failed : Type 0) (IsCutShort : List ℕ → List ℕ → Type 0) (more : List Command) (rest : List ℕ) where
  pub input_ends : (status : ℕ) → status ≡ 3 → IsTold Failed rest (codes "fault input\n") → Ends Failed IsCutShort status [] more rest []
  input_ends status is line = record {
    done = λ e. absurd (omega arith);
    input = λ e. (refl, line);
    output = λ e. absurd (omega arith);
    disk = λ e. absurd (omega arith);
    long = λ e. absurd (omega arith);
    memory = λ e. absurd (omega arith);
    unlogged = λ e. refl;
    index = λ e. absurd (omega arith);
    undamaged = λ e. absurd (omega arith);
  }

  pub long_ends : (status : ℕ) → status ≡ 7 → IsTold Failed rest (codes "fault long\n") → Ends Failed IsCutShort status [] more rest []
  long_ends status is line = record {
    done = λ e. absurd (omega arith);
    input = λ e. absurd (omega arith);
    output = λ e. absurd (omega arith);
    disk = λ e. absurd (omega arith);
    long = λ e. (refl, line);
    memory = λ e. absurd (omega arith);
    unlogged = λ e. refl;
    index = λ e. absurd (omega arith);
    undamaged = λ e. absurd (omega arith);
  }

  pub disk_ends : (answered : List Answered) (status : ℕ) → status ≡ 5 → IsTold Failed rest (codes "fault disk\n") → Ends Failed IsCutShort status answered more rest []
  disk_ends answered status is line = record {
    done = λ e. absurd (omega arith);
    input = λ e. absurd (omega arith);
    output = λ e. absurd (omega arith);
    disk = λ e. line;
    long = λ e. absurd (omega arith);
    memory = λ e. absurd (omega arith);
    unlogged = λ e. refl;
    index = λ e. absurd (omega arith);
    undamaged = λ e. absurd (omega arith);
  }

  pub memory_ends : (answered : List Answered) (status : ℕ) → status ≡ 8 → IsTold Failed rest (codes "fault memory\n") → Ends Failed IsCutShort status answered more rest []
  memory_ends answered status is line = record {
    done = λ e. absurd (omega arith);
    input = λ e. absurd (omega arith);
    output = λ e. absurd (omega arith);
    disk = λ e. absurd (omega arith);
    long = λ e. absurd (omega arith);
    memory = λ e. line;
    unlogged = λ e. refl;
    index = λ e. absurd (omega arith);
    undamaged = λ e. absurd (omega arith);
  }

-- ---- on any file

-- a line is all that was put
pub line_alone : (out0 out1 : SinkState) (line : List ℕ) → Tells out0 out1 line → EndsIn out0 out1 line
line_alone out0 out1 line told = record { mid = out0; bytes = []; grew = Appends-nil out0.written; later = omega arith; told = told }

module _ (status : ℕ) (out0 out1 : SinkState) where
  pub input_told : status ≡ 3 → EndsIn out0 out1 (codes "fault input\n") → TellsFault status out0 out1
  input_told is line = record { input = λ e. line; disk = λ e. absurd (omega arith); long = λ e. absurd (omega arith); memory = λ e. absurd (omega arith) }

  pub disk_told : status ≡ 5 → EndsIn out0 out1 (codes "fault disk\n") → TellsFault status out0 out1
  disk_told is line = record { input = λ e. absurd (omega arith); disk = λ e. line; long = λ e. absurd (omega arith); memory = λ e. absurd (omega arith) }

  pub long_told : status ≡ 7 → EndsIn out0 out1 (codes "fault long\n") → TellsFault status out0 out1
  long_told is line = record { input = λ e. absurd (omega arith); disk = λ e. absurd (omega arith); long = λ e. line; memory = λ e. absurd (omega arith) }

  pub memory_told : status ≡ 8 → EndsIn out0 out1 (codes "fault memory\n") → TellsFault status out0 out1
  memory_told is line = record { input = λ e. absurd (omega arith); disk = λ e. absurd (omega arith); long = λ e. absurd (omega arith); memory = λ e. line }

  -- another status
  pub none_told : status ≢ 3 → status ≢ 5 → status ≢ 7 → status ≢ 8 → TellsFault status out0 out1
  none_told input disk long memory = record { input = λ e. absurd (input e); disk = λ e. absurd (disk e); long = λ e. absurd (long e); memory = λ e. absurd (memory e) }
