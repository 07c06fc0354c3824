-- What the job `proof` on an index does and writes.
use Rattle.std.specs.Prelude.{◌≡◌, ◌≢◌, ◌⊎◌, ℕ, ◌+◌, ◌^◌, ◌<◌, ◌≤◌, Bool, true, false, List, [], ◌∷◌, ◌++◌, length, map, codes, Option, Some, None, Ok, Err, IsTrue, if◌then◌else◌}
use Rattle.std.specs.List.{flat_map, list_all}
use Rattle.std.specs.Io.KnownBytes.{Appends, Consumes, IsAtEnd}
use Rattle.outside_io.specs.Bytes.{AppendsPrefix}
use Rattle.outside_io.specs.Sinks.{SinkState, Tells}
use Rattle.disk_model.specs.Disk.{DiskState, IsUnchanged}
use Rattle.tree_shape.specs.declared.live.Live.{Live}
use Rattle.node_page.specs.declared.head.Head.{Head}
use Rattle.node_page.specs.Opening.{OpensTo}
use Rattle.page_store.specs.Reading.{reading}
use Rattle.node_page.specs.declared.node.Version.TheVariants.{Second}
use Rattle.page_store.specs.Shelves.{disk_shelf}
use Rattle.page_cache.specs.Keeping.{Pairs, Agrees}
use Rattle.log_model.specs.declared.logs.Log.{Log}
use Rattle.log_verify.specs.declared.faults.Verdict.{Verdict}
use Rattle.log_verify.specs.Judged.{log_fault}
use Rattle.job_files.specs.Logs.Lines.{frame, rejected_line, undecoded_text, verdict_text}
use Rattle.prune_log.specs.declared.fault.LogFault.{LogFault}
use Rattle.prune_log.specs.Spelling.{frame_bytes}
use Rattle.prune_log.specs.Reading.{frames_at, log_at}
use Rattle.seal_log.specs.Digests.{leaf_digests}
use Rattle.seal_log.specs.Carrying.{Carries}
use Rattle.job_files.specs.Lines.{not_index_text}
use Rattle.job_files.specs.Jobs.{IsNoIndex}
use Rattle.job_files.specs.declared.logs.stop.LogStop.{LogStop}
use Rattle.job_files.specs.declared.logs.stop.LogStop.TheVariants as stop
use Rattle.job_files.specs.Spaces.{space_of}
use Rattle.page_store.specs.Files.{IsLarge}

-- the first fault of a log over an opened file
abbrev pub judged : List ℕ → Head → Live → Log → Option Verdict
judged file head live log = log_fault (space_of head) (reading head.dim live.pages file) live log

-- what is cached of an opened file's pages is what the pages hold on this disk
abbrev pub IsKeptOf : DiskState → Head → Live → Pairs → Type 0
IsKeptOf disk head live kept = Agrees kept (disk_shelf Second head.dim live.pages disk 0)

abbrev pub carried_line : ℕ → List ℕ
carried_line i = frame i ++ codes " carried\n"

abbrev pub carried_end : Bool → List ℕ
carried_end true = codes "log carried\n"
carried_end false = codes "log rejected\n"

-- the frame and the line of a log: the frame of its carried log where it has no fault, otherwise no frame and a line with its first
-- fault
abbrev pub TellsLog : List ℕ → Head → Live → ℕ → Log → List ℕ → List ℕ → Bool → Type 0
TellsLog file head live i log put line true =
    (judged file head live log ≡ None) × ((bytes : List ℕ) × Carries file (leaf_digests file live.pages) log bytes
    × (put ≡ frame_bytes bytes) × (line ≡ carried_line i))
TellsLog file head live i log put line false = (why : Verdict) × (judged file head live log ≡ Some why) × (put ≡ [])
    × (line ≡ rejected_line i (verdict_text why))

-- a log, its frame and its line, and whether it has no fault
pub record Told : Type 0 where
  pub log : Log
  pub put : List ℕ
  pub line : List ℕ
  pub accepted : Bool

abbrev pub IsTold : List ℕ → Head → Live → ℕ → Told → Type 0
IsTold file head live i t = TellsLog file head live i t.log t.put t.line t.accepted

-- each log is told so; the first is in frame `i`
abbrev pub AreTold : List ℕ → Head → Live → ℕ → List Told → Type 0
AreTold file head live i [] = Unit {0}
AreTold file head live i (t ∷ ts) = IsTold file head live i t × AreTold file head live (i + 1) ts

-- the frame and the line of a log were put
abbrev pub PutsLog : List ℕ → Head → Live → ℕ → Log → Bool → Option (List ℕ) → Option (List ℕ) → Option (List ℕ) → Option (List ℕ) → Type 0
PutsLog file head live i log accepted l0 l1 o0 o1 = (put : List ℕ) × (line : List ℕ)
    × TellsLog file head live i log put line accepted × Appends l0 l1 put × Appends o0 o1 line

-- the frames and the lines of some first logs were put
pub record HasCarried (file : List ℕ) (head : Head) (live : Live) (logs rest : List Log) (i : ℕ) (accepted : Bool)
    (l0 l1 o0 o1 : Option (List ℕ)) : Type 0 where
  pub told : List Told
  pub logs_are : logs ≡ map (λ (t : Told). t.log) told ++ rest
  pub are_told : AreTold file head live 0 told
  pub count : i ≡ length told
  pub all : accepted ≡ list_all (λ (t : Told). t.accepted) told
  pub put : Appends l0 l1 (flat_map (λ (t : Told). t.put) told)
  pub lines : Appends o0 o1 (flat_map (λ (t : Told). t.line) told)

-- the bytes are no logs, and only one line is put
pub record IsUndecoded (bytes : List ℕ) (l0 l1 o0 o1 : Option (List ℕ)) (status : ℕ) : Type 0 where
  pub why : LogFault
  pub fault : frames_at log_at bytes ≡ Err why
  pub rejected : status ≡ 1
  pub no_frame : l1 ≡ l0
  pub line : Appends o0 o1 (undecoded_text why)

-- the frames and the lines of all logs were put, and the last line
pub record HasCarriedAll (file : List ℕ) (head : Head) (live : Live) (bytes : List ℕ) (l0 l1 o0 o1 : Option (List ℕ)) (status : ℕ) : Type 0 where
  pub logs : List Log
  pub decoded : frames_at log_at bytes ≡ Ok logs
  pub accepted : Bool
  pub middle : Option (List ℕ)
  pub carried : HasCarried file head live logs [] (length logs) accepted l0 l1 o0 middle
  pub line : Appends middle o1 (carried_end accepted)
  pub status_is : status ≡ (if accepted then 0 else 1)

abbrev pub EndsCarried : List ℕ → Head → Live → List ℕ → Option (List ℕ) → Option (List ℕ) → Option (List ℕ) → Option (List ℕ) → ℕ → Type 0
EndsCarried file head live bytes l0 l1 o0 o1 status = IsUndecoded bytes l0 l1 o0 o1 status ⊎ HasCarriedAll file head live bytes l0 l1 o0 o1 status

-- the file opens, and the job put what belongs to its bytes of logs
pub record CarriesOn (file bytes : List ℕ) (l0 l1 o0 o1 : Option (List ℕ)) (status : ℕ) : Type 0 where
  pub head : Head
  pub live : Live
  pub opens : OpensTo file head live
  pub version : head.version ≡ 2
  pub few : live.pages ≤ 262144
  pub ends : EndsCarried file head live bytes l0 l1 o0 o1 status

-- ---- when the job stops

-- The job stopped within a log. Nothing of it was put; or, where an output failed, a front of its frame and no line, or its whole
-- frame and a front of its line.
abbrev pub StopsLog : List ℕ → Head → Live → ℕ → Log → LogStop → Option (List ℕ) → Option (List ℕ) → Option (List ℕ) → Option (List ℕ) → Type 0
StopsLog file head live i log stop.Sink l0 l1 o0 o1 =
    (put : List ℕ) × (line : List ℕ) × (b : Bool) × TellsLog file head live i log put line b
    × ((AppendsPrefix l0 l1 put × (o1 ≡ o0)) ⊎ (Appends l0 l1 put × AppendsPrefix o0 o1 line))
StopsLog file head live i log stop.Disk l0 l1 o0 o1 = (l1 ≡ l0) × (o1 ≡ o0)
StopsLog file head live i log stop.Memory l0 l1 o0 o1 = (l1 ≡ l0) × (o1 ≡ o0)

-- the last line was cut
abbrev pub StopsEnd : Bool → LogStop → Option (List ℕ) → Option (List ℕ) → Option (List ℕ) → Option (List ℕ) → Type 0
StopsEnd accepted why l0 l1 o0 o1 = (why ≡ stop.Sink) × (l1 ≡ l0) × AppendsPrefix o0 o1 (carried_end accepted)

-- The frames and the lines of some first logs were put, each whole, and then a part of the next log or of the last line. So a line,
-- or a front of one, is put only where its frame is put.
pub record StopsCarrying (file : List ℕ) (head : Head) (live : Live) (logs : List Log) (why : LogStop) (l0 l1 o0 o1 : Option (List ℕ)) : Type 0 where
  pub rest : List Log
  pub i : ℕ
  pub accepted : Bool
  pub frames : Option (List ℕ)
  pub lines : Option (List ℕ)
  pub carried : HasCarried file head live logs rest i accepted l0 frames o0 lines
  pub after : ((log : Log) × (more : List Log) × (rest ≡ log ∷ more) × StopsLog file head live i log why frames l1 lines o1)
      ⊎ ((rest ≡ []) × StopsEnd accepted why frames l1 lines o1)

-- no output failed, and nothing was put
abbrev pub StopsBefore : LogStop → Option (List ℕ) → Option (List ℕ) → Option (List ℕ) → Option (List ℕ) → Type 0
StopsBefore why l0 l1 o0 o1 = (why ≢ stop.Sink) × (l1 ≡ l0) × (o1 ≡ o0)

-- the bytes are no logs, and the line that says so was cut
pub record StopsUndecoded (bytes : List ℕ) (why : LogStop) (l0 l1 o0 o1 : Option (List ℕ)) : Type 0 where
  pub fault : LogFault
  pub undecoded : frames_at log_at bytes ≡ Err fault
  pub output : why ≡ stop.Sink
  pub no_frame : l1 ≡ l0
  pub line : AppendsPrefix o0 o1 (undecoded_text fault)

abbrev pub Stops : List ℕ → Head → Live → List ℕ → LogStop → Option (List ℕ) → Option (List ℕ) → Option (List ℕ) → Option (List ℕ) → Type 0
Stops file head live bytes why l0 l1 o0 o1 =
    StopsBefore why l0 l1 o0 o1
    ⊎ (StopsUndecoded bytes why l0 l1 o0 o1 ⊎ ((logs : List Log) × (frames_at log_at bytes ≡ Ok logs) × StopsCarrying file head live logs why l0 l1 o0 o1))

-- the job stopped before the file was opened, or on the file that opens
abbrev pub StopsOn : List ℕ → List ℕ → LogStop → Option (List ℕ) → Option (List ℕ) → Option (List ℕ) → Option (List ℕ) → Type 0
StopsOn file bytes why l0 l1 o0 o1 =
    StopsBefore why l0 l1 o0 o1 ⊎ ((head : Head) × (live : Live) × OpensTo file head live × Stops file head live bytes why l0 l1 o0 o1)

-- what is on both outputs where the job stopped; out also has the line of its status after it
pub record HasHalted (file bytes : List ℕ) (l0 l1 : Option (List ℕ)) (out0 out1 : SinkState) (status : ℕ) : Type 0 where
  pub output : status ≡ 4 → StopsOn file bytes stop.Sink l0 l1 out0.written out1.written
  pub disk : status ≡ 5 → (lines : Option (List ℕ)) × StopsOn file bytes stop.Disk l0 l1 out0.written lines
      × Tells (record out0 { written = lines }) out1 (codes "fault disk\n")
  pub memory : status ≡ 8 → (lines : Option (List ℕ)) × StopsOn file bytes stop.Memory l0 l1 out0.written lines
      × Tells (record out0 { written = lines }) out1 (codes "fault memory\n")

-- ---- by status

abbrev pub IsDone : ℕ → Type 0
IsDone status = (status ≡ 0) ⊎ (status ≡ 1)

-- the logs could not be read, or are too many; or the file is no index, or has too many pages
abbrev pub IsRefusal : ℕ → Type 0
IsRefusal status = (status ≡ 3) ⊎ ((status ≡ 6) ⊎ (status ≡ 7))

-- what the job does with the bytes of logs that it takes from `left0`
pub record CarriesLogs (disk0 disk1 : DiskState) (left0 left1 l0 l1 : Option (List ℕ)) (out0 out1 : SinkState) (status : ℕ) : Type 0 where
  pub bytes : List ℕ
  pub taken : Consumes left0 left1 bytes
  -- at most 2 ^ 30 and a buffer more were taken, and the status says when more than 2 ^ 30 were
  pub few : length bytes ≤ 2 ^ 30 + 4096
  pub too_many : 2 ^ 30 < length bytes → status ≡ 7
  -- all bytes of the source were taken, unless it failed, memory ran out, or there are too many
  pub all : status ≢ 3 → status ≢ 8 → length bytes ≤ 2 ^ 30 → IsAtEnd left1
  pub unchanged : IsUnchanged disk0 disk1
  pub done : IsDone status → IsTrue disk0.is_known → CarriesOn disk0.bytes bytes l0 l1 out0.written out1.written status
  pub halted : IsTrue disk0.is_known → HasHalted disk0.bytes bytes l0 l1 out0 out1 status
  pub input_line : status ≡ 3 → Tells out0 out1 (codes "fault input\n")
  -- neither a frame nor a front of a frame was put
  pub no_frame : IsRefusal status → l1 ≡ l0
  pub not_index : status ≡ 6 → (name : List ℕ) × Tells out0 out1 (not_index_text name) × (IsTrue disk0.is_known → IsNoIndex disk0.bytes name)
  -- there are too many bytes, or the file has too many pages
  pub long : status ≡ 7 → Tells out0 out1 (codes "fault long\n") × ((2 ^ 30 < length bytes) ⊎ (IsTrue disk0.is_known → IsLarge disk0.bytes))

-- ---- statuses

abbrev pub IsCarryStatus : ℕ → Type 0
IsCarryStatus n = (n ≡ 0) ⊎ ((n ≡ 1) ⊎ ((n ≡ 4) ⊎ ((n ≡ 5) ⊎ ((n ≡ 6) ⊎ ((n ≡ 7) ⊎ (n ≡ 8))))))

abbrev pub IsCarriedLogsStatus : ℕ → Type 0
IsCarriedLogsStatus n = (n ≡ 3) ⊎ IsCarryStatus n
