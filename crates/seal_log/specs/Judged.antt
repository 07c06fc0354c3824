-- What is read in a carried log, and its first fault. The carried pages are read as a file whose other pages are zero.
use Rattle.std.specs.Prelude.{◌≡◌, ◌≢◌, ℕ, ◌+◌, ◌*◌, ◌^◌, ◌<◌, ◌/◌, ◌%◌, ◌==◌, Bool, List, [], ◌∷◌, length, get_or, slice_index, Option, Some, None, Result, Ok, Err, if◌then◌else◌}
use Rattle.std.specs.List.{flat_map, list_any}
use Rattle.disk_model.specs.Memory.Files.{tabulated}
use Rattle.metric_laws.specs.Space.{Space}
use Rattle.tree_shape.specs.declared.live.Live.{Live}
use Rattle.node_page.specs.declared.head.Head.{Head}
use Rattle.node_page.specs.declared.head.HeadFault.{HeadFault}
use Rattle.node_page.specs.declared.head.HeadFault.TheVariants as heads
use Rattle.node_page.specs.Heads.{head_of, head_fault}
use Rattle.node_page.specs.Opening.{page_of, OpensTo, Unopened, slot_fault, live_of}
use Rattle.page_store.specs.Reading.{reading}
use Rattle.log_model.specs.declared.marks.Record.{Record}
use Rattle.log_model.specs.declared.logs.Log.{Log}
use Rattle.log_model.specs.Grammar.{IsValidLog}
use Rattle.prune_log.specs.declared.fault.LogFault.{LogFault}
use Rattle.prune_log.specs.declared.fault.LogFault.TheVariants as logs
use Rattle.prune_log.specs.Reading.{log_fault}
use Rattle.prune_log.specs.Laws.{SpellsLog}
use Rattle.log_verify.specs.declared.faults.Verdict.{Verdict}
use Rattle.log_verify.specs.declared.faults.Verdict.TheVariants as verdicts
use Rattle.log_verify.specs.Judged.{log_fault as verdict_on}
use Rattle.seal_log.specs.declared.faults.ProofFault.{ProofFault}
use Rattle.seal_log.specs.declared.faults.ProofFault.TheVariants as faults
use Rattle.seal_log.specs.declared.parts.CarriedPage.{CarriedPage}
use Rattle.seal_log.specs.declared.parts.Parts.{Parts}
use Rattle.seal_log.specs.Digests.{Digest}
use Rattle.seal_log.specs.Paths.{leads_to, check_messages}
use Rattle.seal_log.specs.Spelling.{carried_bytes, AreValid}
use Rattle.seal_log.specs.Reading.{carried_at}

-- ---- the carried file

-- the bytes of a page, if it is carried
unfoldable pub bytes_of : List CarriedPage → ℕ → List ℕ
bytes_of [] page = []
bytes_of (p ∷ ps) page = if p.page == page then p.bytes else bytes_of ps page

-- 4096 bytes
abbrev pub HasPageSize : CarriedPage → Type 0
HasPageSize p = length p.bytes ≡ 4096

-- a file of `pages` pages; the pages that aren't carried are zero
unfoldable pub carried_file : ℕ → List CarriedPage → List ℕ
carried_file pages carried = tabulated (4096 * pages) (λ k. slice_index (bytes_of carried (k / 4096)) (k % 4096))

-- ---- the first fault of a carried log

-- the first of two faults
abbrev pub first_fault : Option ProofFault → Option ProofFault → Option ProofFault
first_fault (Some fault) next = Some fault
first_fault None next = next

-- the fault of a carried log for a fault met in reading it
abbrev pub reading_fault : LogFault → ProofFault
reading_fault logs.Magic = faults.Magic
reading_fault logs.Version = faults.Version
reading_fault logs.Cut = faults.Cut
reading_fault logs.Order = faults.Order
reading_fault logs.Tail = faults.Tail
reading_fault logs.Memory = faults.Memory
reading_fault logs.Kind = faults.Log logs.Kind
reading_fault logs.Mark = faults.Log logs.Mark

-- the first page whose path doesn't lead to the root
unfoldable pub path_fault : Digest → ℕ → List CarriedPage → Option ProofFault
path_fault root pages [] = None
path_fault root pages (p ∷ ps) = if leads_to root pages p.page p.bytes p.path then path_fault root pages ps else Some (faults.Path p.page)

-- the fault of a head by its version: any version but 2 is another version
abbrev pub version_fault : ℕ → Option ProofFault
version_fault version = if version == 2 then None else Some (faults.Head heads.Version)

abbrev pub after_head : Option HeadFault → Head → Option ProofFault
after_head (Some fault) head = Some (faults.Head fault)
after_head None head = version_fault head.version

-- the fault of the head
unfoldable pub opening_fault : List ℕ → Option ProofFault
opening_fault file = after_head (head_fault (page_of file 0)) (head_of (page_of file 0))

abbrev pub after_slots : ℕ → Option Unopened → Live → Option ProofFault
after_slots pages (Some fault) live = Some faults.Slot
after_slots pages None live = if live.pages == pages then None else Some faults.Slot

-- the fault of the slots: none is live, or the live one counts another number of pages
unfoldable pub live_fault : ℕ → List ℕ → Option ProofFault
live_fault pages file = after_slots pages (slot_fault file) (live_of file)

-- the first fault of the head and the slots
abbrev pub slots_fault : ℕ → List ℕ → Option ProofFault
slots_fault pages file = first_fault (opening_fault file) (live_fault pages file)

abbrev pub after_log : Option LogFault → Option ProofFault
after_log (Some fault) = Some (faults.Log fault)
after_log None = None

-- the first fault of the parts of a carried log
unfoldable pub parts_fault : Digest → Parts → List ℕ → Option ProofFault
parts_fault root parts log =
    first_fault (path_fault root parts.pages parts.carried)
    (first_fault (slots_fault parts.pages (carried_file parts.pages parts.carried)) (after_log (log_fault log)))

abbrev pub after_reading : Digest → Result (Parts × List ℕ) LogFault → Option ProofFault
after_reading root (Err fault) = Some (reading_fault fault)
after_reading root (Ok (parts, log)) = parts_fault root parts log

-- the first fault of bytes that are to be a carried log of a file with the root digest `root`
abbrev pub proof_fault : Digest → List ℕ → Option ProofFault
proof_fault root bytes = after_reading root (carried_at bytes)

-- ---- what a carried log has without a fault

-- a root digest; the pages that lead to it; the head and the live slot that they open to; and a log
pub record CarriedLog : Type 0 where
  pub root : Digest
  pub carried : List CarriedPage
  pub head : Head
  pub live : Live
  pub log : Log

-- the carried pages as a file
abbrev pub file_of : CarriedLog → List ℕ
file_of c = carried_file c.live.pages c.carried

abbrev pub parts_in : CarriedLog → Parts
parts_in c = record { pages = c.live.pages; carried = c.carried }

-- each path leads to the root, and the carried file opens to this head and live slot; the log has a spelling
pub record IsCarried (c : CarriedLog) : Type 0 where
  pub parts : AreValid (parts_in c)
  pub paths : path_fault c.root c.live.pages c.carried ≡ None
  pub opens : OpensTo (file_of c) c.head c.live
  pub version : c.head.version ≡ 2
  pub log : IsValidLog c.log

-- the bytes spell this carried log
pub record SpellsCarried (bytes : List ℕ) (c : CarriedLog) : Type 0 where
  pub log : List ℕ
  pub few : length log < 2 ^ 64
  pub parts_are : carried_bytes (parts_in c) log ≡ bytes
  pub log_is : SpellsLog log c.log

-- ---- the first fault of a carried log's log

-- whether a page is carried
abbrev pub is_carried : List CarriedPage → ℕ → Bool
is_carried carried page = list_any (λ (p : CarriedPage). p.page == page) carried

-- the page at a place is the one that is looked for
abbrev pub IsThere : List CarriedPage → ℕ → ℕ → Type 0
IsThere ps page i = (i < length ps) × ((d : CarriedPage) → (get_or ps i d).page ≡ page)

abbrev pub IsNowhere : List CarriedPage → ℕ → Type 0
IsNowhere ps page = (i : ℕ) (d : CarriedPage) → i < length ps → (get_or ps i d).page ≢ page

-- the first record whose page isn't carried; the records are counted from `i`
unfoldable pub missing_from : List CarriedPage → List Record → ℕ → Option ProofFault
missing_from carried [] i = None
missing_from carried (r ∷ rs) i = if is_carried carried r.page then missing_from carried rs (i + 1) else Some (faults.Missing i)

-- a verdict as a fault; `Memory` is a fault of its own
abbrev pub fault_by : Verdict → ProofFault
fault_by verdicts.Memory = faults.Memory
fault_by verdict = faults.Verdict verdict

abbrev pub after_verdict : Option Verdict → Option ProofFault
after_verdict (Some verdict) = Some (faults.Verdict verdict)
after_verdict None = None

-- the first fault of the log, judged by the carried pages
unfoldable pub judged_fault : Space → CarriedLog → Option ProofFault
judged_fault s c = first_fault (missing_from c.carried c.log.records 0)
    (after_verdict (verdict_on s (reading c.head.dim c.live.pages (file_of c)) c.live c.log))

-- ---- what is hashed to check a carried log

-- the messages of the paths of all pages
unfoldable pub hashed_in : CarriedLog → List (List ℕ)
hashed_in c = flat_map (λ (p : CarriedPage). check_messages c.live.pages p.page p.bytes p.path) c.carried
