-- What the jobs on logs do and write, by the status with which they end.
use Rattle.std.specs.Prelude.{◌≡◌, ◌≢◌, ◌⊎◌, ◌↔◌, ◌^◌, ◌<◌, ◌≤◌, ◌+◌, ℕ, List, [], ◌∷◌, ◌++◌, length, codes, Option, Some, None, Result, Ok, Err}
use Rattle.std.specs.List.{concat}
use Rattle.std.specs.Io.KnownBytes.{Appends, Consumes, IsAtEnd}
use Rattle.outside_io.specs.Bytes.{AppendsPrefix}
use Rattle.outside_io.specs.Sinks.{SinkState, Tells}
use Rattle.job_files.specs.Lines.{not_index_text}
use Rattle.job_files.specs.declared.logs.stop.LogStop.{LogStop}
use Rattle.job_files.specs.declared.logs.stop.LogStop.TheVariants as stop
use Rattle.job_files.specs.Logs.JobReports.{JobReport}

-- ---- what was put

-- the stop of a call that stopped
abbrev pub stop_of : {A : Type 0} → Result A LogStop → Option LogStop
stop_of (Ok done) = None
stop_of (Err why) = Some why

-- a front of the first text was put
abbrev pub IsCut : List (List ℕ) → Option (List ℕ) → Option (List ℕ) → Type 0
IsCut more middle new = (text : List ℕ) × (others : List (List ℕ)) × (more ≡ text ∷ others) × AppendsPrefix middle new text

-- what was put after whole texts, where `more` are the others: nothing, or a front of the next text where out failed
abbrev pub Follows : Option LogStop → List (List ℕ) → Option (List ℕ) → Option (List ℕ) → Type 0
Follows None more middle new = (more ≡ []) × (new ≡ middle)
Follows (Some stop.Sink) more middle new = IsCut more middle new
Follows (Some stop.Disk) more middle new = new ≡ middle
Follows (Some stop.Memory) more middle new = new ≡ middle

-- some of `texts` were put, each whole, and then what follows them
pub record Puts (texts : List (List ℕ)) (old new : Option (List ℕ)) (why : Option LogStop) : Type 0 where
  pub put : List (List ℕ)
  pub more : List (List ℕ)
  pub middle : Option (List ℕ)
  pub whole : texts ≡ put ++ more
  pub written : Appends old middle (concat put)
  pub follows : Follows why more middle new

-- ---- by status

-- what a stop puts, and its status
abbrev pub Stops : LogStop → SinkState → SinkState → ℕ → Type 0
Stops stop.Sink old new status = (status ≡ 4) × (new ≡ old)
Stops stop.Disk old new status = (status ≡ 5) × Tells old new (codes "fault disk\n")
Stops stop.Memory old new status = (status ≡ 8) × Tells old new (codes "fault memory\n")

-- what was put after whole texts, where `more` are the others, when a job ends with a status
pub record Ends (status : ℕ) (said : JobReport) (more : List (List ℕ)) (middle new : SinkState) : Type 0 where
  pub done : (status ≡ 0) ⊎ (status ≡ 1) → (status ≡ said.status) × (more ≡ []) × (new.written ≡ middle.written)
  pub output : status ≡ 4 → IsCut more middle.written new.written
  pub disk : status ≡ 5 → Tells middle new (codes "fault disk\n")
  pub memory : status ≡ 8 → Tells middle new (codes "fault memory\n")

-- some of the texts of what is said were put, each whole, and then what the status tells
pub record Writes (status : ℕ) (said : JobReport) (old new : SinkState) : Type 0 where
  pub put : List (List ℕ)
  pub more : List (List ℕ)
  pub middle : Option (List ℕ)
  pub whole : said.texts ≡ put ++ more
  pub written : Appends old.written middle (concat put)
  pub ends : Ends status said more (record old { written = middle }) new

-- What a job does with files and bytes of logs. `Says`: it wrote what there is to say of them, up to what the status tells. `Failed`:
-- a disk failed. `IsNoIndex`: a file is no index, as a word says.
pub record JudgesBytes (Unchanged Says Failed : Type 0) (IsNoIndex : List ℕ → Type 0) (out0 out1 : SinkState) (status : ℕ) : Type 0 where
  pub unchanged : Unchanged
  pub done : (status ≡ 0) ⊎ (status ≡ 1) → Says
  pub output : status ≡ 4 → Says
  -- before all files were open, or later
  pub disk : status ≡ 5 → Failed × (Tells out0 out1 (codes "fault disk\n") ⊎ Says)
  pub not_index : status ≡ 6 → (name : List ℕ) × Tells out0 out1 (not_index_text name) × IsNoIndex name
  pub memory : status ≡ 8 → Tells out0 out1 (codes "fault memory\n") ⊎ Says

-- the statuses of a job that has read its logs
abbrev pub IsJudgeStatus : ℕ → Type 0
IsJudgeStatus n = (n ≡ 0) ⊎ ((n ≡ 1) ⊎ ((n ≡ 4) ⊎ ((n ≡ 5) ⊎ ((n ≡ 6) ⊎ (n ≡ 8)))))

-- ---- the logs are read first

-- all bytes of logs were taken, at most 2 ^ 30
pub record TakesLogs (left0 left1 : Option (List ℕ)) (bytes : List ℕ) : Type 0 where
  pub taken : Consumes left0 left1 bytes
  pub few : length bytes ≤ 2 ^ 30
  pub all : IsAtEnd left1

-- the logs could not be read, are too many, or memory ran out for them
pub record EndsUnread (left0 left1 : Option (List ℕ)) (out0 out1 : SinkState) (status : ℕ) : Type 0 where
  pub bytes : List ℕ
  pub taken : Consumes left0 left1 bytes
  pub few : length bytes ≤ 2 ^ 30 + 4096
  pub long : (status ≡ 7) ↔ (2 ^ 30 < length bytes)
  pub input_line : status ≡ 3 → Tells out0 out1 (codes "fault input\n")
  pub long_line : status ≡ 7 → Tells out0 out1 (codes "fault long\n")
  pub memory_line : status ≡ 8 → Tells out0 out1 (codes "fault memory\n")
  pub statuses : (status ≡ 3) ⊎ ((status ≡ 7) ⊎ (status ≡ 8))

-- what a job does that takes bytes of logs from `left0`; `Judges` is what it does with files and the bytes
pub record ReadsLogs (Unchanged : Type 0) (Judges : List ℕ → Type 0) (left0 left1 : Option (List ℕ)) (out0 out1 : SinkState) (status : ℕ) : Type 0 where
  pub bytes : List ℕ
  pub taken : Consumes left0 left1 bytes
  -- at most 2 ^ 30 and a buffer more were taken, and too many are told exactly where more than 2 ^ 30 were
  pub few : length bytes ≤ 2 ^ 30 + 4096
  pub long : (status ≡ 7) ↔ (2 ^ 30 < length bytes)
  pub all : status ≢ 3 → status ≢ 7 → status ≢ 8 → IsAtEnd left1
  pub judges : status ≢ 3 → status ≢ 7 → Judges bytes
  pub unchanged : Unchanged
  pub input_line : status ≡ 3 → Tells out0 out1 (codes "fault input\n")
  pub long_line : status ≡ 7 → Tells out0 out1 (codes "fault long\n")

abbrev pub IsLogStatus : ℕ → Type 0
IsLogStatus n = (n ≡ 3) ⊎ ((n ≡ 7) ⊎ IsJudgeStatus n)
