-- What is put of what was prepared for commands.
use Rattle.std.specs.Prelude.{◌≡◌, ◌⊎◌, ℕ, List, [], ◌∷◌, ◌++◌, codes, Result, Ok, Err}
use Rattle.std.specs.List.{AllByRecursion}
use Rattle.std.specs.Io.KnownBytes.{Appends}
use Rattle.outside_io.specs.Sinks.{SinkState, Tells}
use Rattle.job_files.specs.Lines.{damaged_text}
use Rattle.answer_texts.specs.Put.{AreCut, IsCut}
use Rattle.page_store.specs.Shelf.{IsDamage}
use Rattle.batch_run.specs.declared.jobs.piles.Prepared.{Prepared}
use Rattle.batch_run.specs.declared.jobs.piles.Prepared.TheVariants as prepared
use Rattle.batch_run.specs.declared.jobs.stop.BatchStop.{BatchStop}
use Rattle.batch_run.specs.declared.jobs.stop.BatchStop.TheVariants as stop

-- what was prepared is an answer
abbrev pub IsDone : Prepared → Type 0
IsDone (prepared.Said reply frame) = Unit {0}
IsDone (prepared.Damaged fault) = ⊥

-- the text of its reply, and the frame of its log
abbrev pub said : Prepared → List ℕ
said (prepared.Said reply frame) = reply.now
said (prepared.Damaged fault) = []

abbrev pub logged : Prepared → List ℕ
logged (prepared.Said reply frame) = frame.now
logged (prepared.Damaged fault) = []

-- the texts and frames of several, one after another
abbrev pub all_said : List Prepared → List ℕ
all_said [] = []
all_said (p ∷ ps) = said p ++ all_said ps

abbrev pub all_logged : List Prepared → List ℕ
all_logged [] = []
all_logged (p ∷ ps) = logged p ++ all_logged ps

-- what was put for one command
abbrev pub IsPut : Prepared → SinkState → SinkState → SinkState → SinkState → Result (Unit {0}) BatchStop → Type 0
IsPut p out0 out1 log0 log1 (Ok done) = IsDone p × Appends out0.written out1.written (said p) × Appends log0.written log1.written (logged p)
IsPut p out0 out1 log0 log1 (Err stop.Sink) = IsDone p × IsCut out0 out1 log0 log1 (said p) (logged p)
IsPut p out0 out1 log0 log1 (Err (stop.Damaged fault)) = (p ≡ prepared.Damaged fault) × (out1 ≡ out0) × (log1 ≡ log0)

-- what was put after those that were put whole, where the others are left
abbrev pub Follows : List Prepared → List ℕ → List ℕ → Result (Unit {0}) BatchStop → Type 0
Follows left rest log_rest (Ok done) = (left ≡ []) × (rest ≡ []) × (log_rest ≡ [])
Follows left rest log_rest (Err (stop.Damaged fault)) = ((others : List Prepared) × (left ≡ prepared.Damaged fault ∷ others)) × (rest ≡ []) × (log_rest ≡ [])
Follows left rest log_rest (Err stop.Sink) =
    (p : Prepared) × (others : List Prepared) × (left ≡ p ∷ others) × IsDone p × AreCut (said p) (logged p) rest log_rest

-- the first of `all` were put whole, and then what follows them
pub record ArePut (all : List Prepared) (out0 out1 log0 log1 : SinkState) (result : Result (Unit {0}) BatchStop) : Type 0 where
  pub put : List Prepared
  pub left : List Prepared
  pub rest : List ℕ
  pub log_rest : List ℕ
  pub whole : all ≡ put ++ left
  pub done : AllByRecursion IsDone put
  pub follows : Follows left rest log_rest result
  pub written : Appends out0.written out1.written (all_said put ++ rest)
  pub framed : Appends log0.written log1.written (all_logged put ++ log_rest)

-- how a batch ends that stopped for a reason
abbrev pub HasEnded : BatchStop → SinkState → SinkState → ℕ → Type 0
HasEnded stop.Sink out0 out1 status = (status ≡ 4) × (out1 ≡ out0)
HasEnded (stop.Damaged fault) out0 out1 status = IsDamage fault → ((status ≡ 9) × Tells out0 out1 (damaged_text fault))
    ⊎ ((status ≡ 8) × Tells out0 out1 (codes "fault memory\n"))
