-- What the job `proof` on carried logs does and writes, by its status.
use Rattle.std.specs.Prelude.{◌≡◌, ◌≢◌, ◌⊎◌, ◌↔◌, ℕ, ◌+◌, ◌-◌, ◌^◌, ◌<◌, ◌≤◌, Bool, true, false, List, [], ◌∷◌, ◌++◌, length, take, codes, Option, Some, None, if◌then◌else◌}
use Rattle.std.specs.List.{flat_map, list_all}
use Rattle.std.specs.Io.KnownBytes.{Appends, Consumes, IsAtEnd}
use Rattle.outside_io.specs.Bytes.{AppendsPrefix}
use Rattle.outside_io.specs.Sinks.{SinkState, Tells}
use Rattle.scan_model.specs.declared.hit.Hit.{Hit}
use Rattle.scan_model.specs.declared.query.Query.{Query}
use Rattle.fault_lines.specs.Lines.{head_fault_name, numbered}
use Rattle.job_files.specs.Logs.Lines.{answers_text, frame, log_fault_name, rejected_line, verdict_text}
use Rattle.prune_log.specs.Spelling.{frame_bytes}
use Rattle.job_seal.specs.declared.taking.Next.{Next}
use Rattle.job_seal.specs.declared.taking.Next.TheVariants as next
use Rattle.job_seal.specs.declared.stop.ProofStop.{ProofStop}
use Rattle.job_seal.specs.declared.stop.ProofStop.TheVariants as stop
use Rattle.seal_log.specs.declared.faults.ProofFault.{ProofFault}
use Rattle.seal_log.specs.declared.faults.ProofFault.TheVariants as fault
use Rattle.seal_log.specs.Judged.{CarriedLog, IsCarried, SpellsCarried, proof_fault, judged_fault}
use Rattle.job_files.specs.Spaces.{space_of}

-- ---- a carried log

abbrev pub proof_fault_text : ProofFault → List ℕ
proof_fault_text fault.Magic = codes "magic"
proof_fault_text fault.Version = codes "version"
proof_fault_text fault.Cut = codes "cut"
proof_fault_text fault.Order = codes "order"
proof_fault_text fault.Tail = codes "tail"
proof_fault_text (fault.Path page) = numbered (codes "path ") page
proof_fault_text (fault.Head why) = codes "head " ++ head_fault_name why
proof_fault_text fault.Slot = codes "slot"
proof_fault_text (fault.Log why) = codes "log " ++ log_fault_name why
proof_fault_text (fault.Missing n) = numbered (codes "missing ") n
proof_fault_text (fault.Verdict why) = verdict_text why
proof_fault_text fault.Memory = codes "memory"

-- the lines of an accepted carried log: its query, and its answers as those of a search
abbrev pub proved_frame : ℕ → Query → List Hit → List ℕ
proved_frame i query hits = frame i ++ codes " proved\n" ++ answers_text query hits

-- the bytes spell this carried log, and its paths lead to the root
pub record IsRead (root bytes : List ℕ) (c : CarriedLog) : Type 0 where
  pub root_is : c.root ≡ root
  pub carried : IsCarried c
  pub spelled : SpellsCarried bytes c

-- the bytes are an accepted carried log
pub record IsAccepted (root bytes : List ℕ) (c : CarriedLog) : Type 0 where
  pub read : IsRead root bytes c
  pub judged : judged_fault (space_of c.head) c ≡ None

-- the bytes have the fault `why`, in reading or in judging
abbrev pub HasFault : List ℕ → List ℕ → ProofFault → Type 0
HasFault root bytes why = (proof_fault root bytes ≡ Some why) ⊎ ((c : CarriedLog) × IsRead root bytes c × (judged_fault (space_of c.head) c ≡ Some why))

-- ---- a frame

-- a frame's bytes, its text, and whether the frame is accepted
pub record Shown : Type 0 where
  pub body : List ℕ
  pub text : List ℕ
  pub accepted : Bool

-- the text of an accepted frame is its query and its answers; the text of another frame names its fault
abbrev pub TellsFrame : List ℕ → ℕ → List ℕ → List ℕ → Bool → Type 0
TellsFrame root i body text true = (c : CarriedLog) × IsAccepted root body c × (text ≡ proved_frame i c.log.query c.log.answers)
TellsFrame root i body text false = (why : ProofFault) × HasFault root body why × (text ≡ rejected_line i (proof_fault_text why))

abbrev pub IsShown : List ℕ → ℕ → Shown → Type 0
IsShown root i f = TellsFrame root i f.body f.text f.accepted

-- each frame is shown so; the first is frame `i`
abbrev pub AreShown : List ℕ → ℕ → List Shown → Type 0
AreShown root i [] = Unit {0}
AreShown root i (f ∷ fs) = IsShown root i f × AreShown root (i + 1) fs

abbrev pub all_accepted : List Shown → Bool
all_accepted fs = list_all (λ (f : Shown). f.accepted) fs

-- ---- frames one after another

-- the bytes do not begin with a whole frame
abbrev pub BeginsNoFrame : List ℕ → Type 0
BeginsNoFrame rest = (body after : List ℕ) → length body < 2 ^ 64 → rest ≡ frame_bytes body ++ after → ⊥

-- more bytes follow, but no whole frame
pub record IsCutFrame (rest : List ℕ) : Type 0 where
  pub some : rest ≢ []
  pub unwhole : BeginsNoFrame rest

abbrev pub end_text : Bool → List ℕ
end_text true = codes "log proved\n"
end_text false = codes "log rejected\n"

-- the last line and the status, where all whole frames were shown and the bytes `rest` are left
abbrev pub IsEnd : List ℕ → Bool → List ℕ → ℕ → Type 0
IsEnd rest accepted line status =
    ((rest ≡ []) × (line ≡ end_text accepted) × (status ≡ (if accepted then 0 else 1)))
    ⊎ (IsCutFrame rest × (line ≡ codes "log rejected cut\n") × (status ≡ 1))

-- the next text: that of the frame at hand, after which nothing was taken; or, where the source has no byte left, the last line
abbrev pub IsNext : List ℕ → ℕ → List ℕ → Bool → Option (List ℕ) → List ℕ → Type 0
IsNext root i rest accepted left text =
    ((body : List ℕ) × (b : Bool) × (rest ≡ frame_bytes body) × TellsFrame root i body text b)
    ⊎ (IsAtEnd left × ((status : ℕ) × IsEnd rest accepted text status))

-- the first frames of the bytes were shown, each whole
pub record HasShown (root bytes : List ℕ) (old middle : Option (List ℕ)) : Type 0 where
  pub shown : List Shown
  pub rest : List ℕ
  pub framed : bytes ≡ flat_map (λ (f : Shown). frame_bytes f.body) shown ++ rest
  pub told : AreShown root 0 shown
  pub written : Appends old middle (flat_map (λ (f : Shown). f.text) shown)

-- ---- the steps

-- What is read next where `room` more bytes may be taken: a whole frame, or the end of the bytes, which may be within a frame.
abbrev pub ReadsNext : ℕ → Option (List ℕ) → Option (List ℕ) → Next → Type 0
ReadsNext room old new (next.Frame body) = Consumes old new (frame_bytes body.items) × (length (frame_bytes body.items) ≤ room)
ReadsNext room old new next.End = Consumes old new [] × IsAtEnd new
ReadsNext room old new next.Cut = (bytes : List ℕ) × Consumes old new bytes × (length bytes ≤ room) × IsCutFrame bytes × IsAtEnd new

-- Up to `most` bytes could not be read.
abbrev pub StopsTaking : ℕ → ℕ → Option (List ℕ) → Option (List ℕ) → ProofStop → Type 0
StopsTaking most room old new stop.Input = (bytes : List ℕ) × Consumes old new bytes × (length bytes ≤ room) × (length bytes < most)
StopsTaking most room old new stop.Long = (bytes : List ℕ) × Consumes old new bytes × (room < length bytes)
    × (length bytes ≤ room + 4096) × (length bytes ≤ most)
StopsTaking most room old new stop.Memory = (bytes : List ℕ) × Consumes old new bytes × (length bytes ≤ room)
StopsTaking most room old new stop.Sink = ⊥

-- No frame could be read. Where the source failed, no whole frame was taken. Where there were too many bytes, no whole frame is
-- within the room.
abbrev pub StopsReading : ℕ → Option (List ℕ) → Option (List ℕ) → ProofStop → Type 0
StopsReading room old new stop.Input = (bytes : List ℕ) × Consumes old new bytes × (length bytes ≤ room) × BeginsNoFrame bytes
StopsReading room old new stop.Long = (bytes : List ℕ) × Consumes old new bytes × (room < length bytes)
    × (length bytes ≤ room + 4096) × BeginsNoFrame (take room bytes)
StopsReading room old new stop.Memory = (bytes : List ℕ) × Consumes old new bytes × (length bytes ≤ room)
StopsReading room old new stop.Sink = ⊥

-- the text of a frame was put
abbrev pub PutsFrame : List ℕ → ℕ → List ℕ → Bool → Option (List ℕ) → Option (List ℕ) → Type 0
PutsFrame root i body accepted old new = (text : List ℕ) × TellsFrame root i body text accepted × Appends old new text

-- the text of a frame was not put: nothing was, or a front of it where the output failed
abbrev pub StopsFrame : List ℕ → ℕ → List ℕ → ProofStop → Option (List ℕ) → Option (List ℕ) → Type 0
StopsFrame root i body stop.Sink old new = (text : List ℕ) × (b : Bool) × TellsFrame root i body text b × AppendsPrefix old new text
StopsFrame root i body stop.Memory old new = new ≡ old
StopsFrame root i body stop.Input old new = ⊥
StopsFrame root i body stop.Long old new = ⊥

-- all frames were shown, and the last line put
pub record HasEnded (root : List ℕ) (left0 left1 old new : Option (List ℕ)) (status : ℕ) : Type 0 where
  pub bytes : List ℕ
  pub taken : Consumes left0 left1 bytes
  pub few : length bytes ≤ 2 ^ 30
  pub all : IsAtEnd left1
  pub middle : Option (List ℕ)
  pub before : HasShown root bytes old middle
  pub line : List ℕ
  pub is_end : IsEnd before.rest (all_accepted before.shown) line status
  pub written : Appends middle new line

-- what was put after whole texts when the job stopped; `room` is how many bytes more than the shown ones it might have taken
abbrev pub StopsAfter : List ℕ → ℕ → List ℕ → Bool → Option (List ℕ) → ℕ → ProofStop → Option (List ℕ) → Option (List ℕ) → Type 0
StopsAfter root i rest accepted left room stop.Sink middle new = (text : List ℕ) × IsNext root i rest accepted left text × AppendsPrefix middle new text
StopsAfter root i rest accepted left room stop.Input middle new = BeginsNoFrame rest × (new ≡ middle)
StopsAfter root i rest accepted left room stop.Long middle new = BeginsNoFrame (take room rest) × (new ≡ middle)
StopsAfter root i rest accepted left room stop.Memory middle new = new ≡ middle

-- how many bytes more than the shown frames fit into 2 ^ 30
abbrev pub room_behind : List ℕ → List ℕ → ℕ
room_behind bytes rest = 2 ^ 30 + length rest - length bytes

pub record HasStopped (root : List ℕ) (left0 left1 old new : Option (List ℕ)) (why : ProofStop) : Type 0 where
  pub bytes : List ℕ
  pub taken : Consumes left0 left1 bytes
  pub few : length bytes ≤ 2 ^ 30 + 4096
  pub long : (why ≡ stop.Long) ↔ (2 ^ 30 < length bytes)
  pub middle : Option (List ℕ)
  pub before : HasShown root bytes old middle
  pub after : StopsAfter root (length before.shown) before.rest (all_accepted before.shown) left1 (room_behind bytes before.rest) why middle new

-- ---- by status

-- What the job does with the bytes of carried logs that it takes from `left0`: it shows each whole frame once, and takes the next
-- one only then.
pub record ProvesLogs (root : List ℕ) (left0 left1 : Option (List ℕ)) (out0 out1 : SinkState) (status : ℕ) : Type 0 where
  pub bytes : List ℕ
  pub taken : Consumes left0 left1 bytes
  -- at most 2 ^ 30 and a buffer more were taken, and the status is 7 exactly where more than 2 ^ 30 were
  pub few : length bytes ≤ 2 ^ 30 + 4096
  pub long : (status ≡ 7) ↔ (2 ^ 30 < length bytes)
  pub middle : Option (List ℕ)
  pub before : HasShown root bytes out0.written middle
  -- all texts were put, and the last line
  pub done : (status ≡ 0) ⊎ (status ≡ 1) → IsAtEnd left1
      × ((line : List ℕ) × IsEnd before.rest (all_accepted before.shown) line status × Appends middle out1.written line)
  -- a front of the next text was put
  pub output : status ≡ 4 → (text : List ℕ) × IsNext root (length before.shown) before.rest (all_accepted before.shown) left1 text
      × AppendsPrefix middle out1.written text
  -- all whole frames of what was taken were shown, or where that is too much, all within the first 2 ^ 30 bytes
  pub input_line : status ≡ 3 → BeginsNoFrame before.rest × Tells (record out0 { written = middle }) out1 (codes "fault input\n")
  pub long_line : status ≡ 7 → BeginsNoFrame (take (room_behind bytes before.rest) before.rest)
      × Tells (record out0 { written = middle }) out1 (codes "fault long\n")
  pub memory_line : status ≡ 8 → Tells (record out0 { written = middle }) out1 (codes "fault memory\n")

abbrev pub IsProofStatus : ℕ → Type 0
IsProofStatus n = (n ≡ 0) ⊎ ((n ≡ 1) ⊎ ((n ≡ 3) ⊎ ((n ≡ 4) ⊎ ((n ≡ 7) ⊎ (n ≡ 8)))))
