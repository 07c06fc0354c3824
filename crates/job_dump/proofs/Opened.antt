-- What is said of pages, said of the disk behind them.
use Rattle.std.proofs.Common.{◌≡◌, inl, inr, ℕ, List, Option, sym, subst}
use Rattle.std.specs.Prelude.{IsTrue}
use Rattle.outside_io.specs.Causes.{Rose}
use Rattle.outside_io.specs.Sinks.{SinkState, Tells}
use Rattle.disk_model.specs.Disk.{DiskState, IsUnchanged}
use Rattle.tree_shape.specs.declared.live.Live.{Live}
use Rattle.node_page.specs.declared.head.Head.{Head}
use Rattle.node_page.specs.Laws.{OneLiveSlot}
use Rattle.node_page.specs.Opening.{OpensTo}
use Rattle.page_store.specs.declared.pages.PageFault.{PageFault}
use Rattle.page_store.specs.declared.pages.PageFault.TheVariants as page
use Rattle.page_store.specs.Files.{nodes_in}
use Rattle.page_store.specs.Reading.{reading}
use Rattle.page_store.specs.Shelf.{Shelf}
use Rattle.job_files.specs.Shapes.{HasDamage, IsSound}
use Rattle.job_files.specs.Shapes as shapes
use Rattle.job_files.specs.Spaces.{space_of}
use Rattle.job_dump.specs.declared.fault.DumpFault.{DumpFault}
use Rattle.job_dump.specs.declared.fault.DumpFault.TheVariants as dump
use Rattle.job_dump.specs.Causes.{AreRows, HasCause, HasFaultOf, IsPassing, MayPut, PutsFront, StopsAt}
use Rattle.job_dump.specs.Jobs.{Follows, HasFault, HoldsRows, IsDamaged, PutsPart, opened_shelf}
use Rattle.job_dump.specs.Rows.{HasRows}

-- ---- the disk behind an opened file

stops_in : (head : Head) (live : Live) (file : List ℕ) (fault : PageFault) → StopsAt (reading head.dim live.pages file) live fault → shapes.StopsAt head.dim live file fault
stops_in head live file page.Disk stops = stops
stops_in head live file page.Memory stops = stops
stops_in head live file (page.Bad p f) stops = stops
stops_in head live file (page.Outside p) stops = stops
stops_in head live file (page.Repeats p) stops = stops
stops_in head live file (page.Level p) stops = stops

fault_in : (head : Head) (live : Live) (file : List ℕ) (fault : DumpFault) → HasFaultOf (reading head.dim live.pages file) live fault → HasFault head live file fault
fault_in head live file (dump.Page fault) has = record {
  stops = stops_in head live file fault has.is;
  unsound = λ sound. has.unsound (space_of head) sound.tree;
}
fault_in head live file (dump.Id id) has = (has.is, λ sound. has.unsound (space_of head) sound.tree)

-- a fault that bytes tell
told_cause : (live : Live) (old new : Shelf) (fault : DumpFault) → (IsPassing fault → ⊥) → HasCause live old new fault → IsTrue old.is_known → HasFaultOf old.read live fault
told_cause live old new (dump.Page page.Disk) stays cause is_known = absurd (stays tt)
told_cause live old new (dump.Page page.Memory) stays cause is_known = absurd (stays tt)
told_cause live old new (dump.Page (page.Bad p f)) stays cause is_known = cause is_known
told_cause live old new (dump.Page (page.Outside p)) stays cause is_known = cause is_known
told_cause live old new (dump.Page (page.Repeats p)) stays cause is_known = cause is_known
told_cause live old new (dump.Page (page.Level p)) stays cause is_known = cause is_known
told_cause live old new (dump.Id id) stays cause is_known = cause is_known

pub disk_rose : (live : Live) (old new : Shelf) (fault : DumpFault) → fault ≡ dump.Page page.Disk → HasCause live old new fault → Rose old.faults new.faults
disk_rose live old new fault is cause = subst (HasCause live old new) is cause

-- a file whose objects can't be told is not sound
pub damaged_unsound : OneLiveSlot → (file : List ℕ) (fault : DumpFault) → IsDamaged file fault → (head : Head) (live : Live) → ¬ IsSound head live file
damaged_unsound one file fault damaged head live sound =
    let same = one file head damaged.head live damaged.live sound.opens damaged.opens in
    unsound_by fault damaged.fault_is (subst (λ (x : Live). IsSound damaged.head x file) same.1 (subst (λ (x : Head). IsSound x live file) same.0 sound))
  where
    unsound_by : (fault : DumpFault) → HasFault damaged.head damaged.live file fault → ¬ IsSound damaged.head damaged.live file
    unsound_by (dump.Page f) has = has.unsound
    unsound_by (dump.Id id) has = has.1

module _ (d0 d1 : DiskState) (head : Head) (live : Live) (opens : IsTrue d0.is_known → OpensTo d0.bytes head live) (version : head.version ≡ 2) (same : IsUnchanged d0 d1) where
  rows_before : (rows : List (ℕ × List ℕ)) → AreRows (opened_shelf head live d1) live rows → IsTrue d0.is_known → HoldsRows d0.bytes rows
  rows_before rows are is_known = record {
    head = head;
    live = live;
    opens = opens is_known;
    version = version;
    rows_are = subst (λ (bytes : List ℕ). HasRows (nodes_in head.dim live bytes) live rows) same.same_bytes (are (subst IsTrue (sym same.same_known) is_known));
  }

  part_before : (out : SinkState) (w1 : Option (List ℕ)) → PutsFront (opened_shelf head live d1) live out.written w1 → PutsPart d0 out w1
  part_before out w1 puts = record { rows = puts.0; put = puts.1; are = rows_before puts.0 puts.2 }

  -- a line was told after what was put
  pub line_follows : (out0 out1 out2 : SinkState) (line : List ℕ) → MayPut (opened_shelf head live d1) live out0 out1 → Tells out1 out2 line → Follows d0 out0 out2 line
  line_follows out0 out1 out2 line (inl none) is_known = inl (subst (λ (o : SinkState). Tells o out2 line) none is_known)
  line_follows out0 out1 out2 line (inr part) is_known = inr (
    out1.written,
    part_before out0 out1.written part.1,
    subst (λ (n : ℕ). Tells (record { written = out1.written; faults = n }) out2 line) part.0 is_known,
  )

  pub damage_before : (d2 : DiskState) (fault : DumpFault) → (IsPassing fault → ⊥) → HasCause live (opened_shelf head live d1) (opened_shelf head live d2) fault → IsTrue d0.is_known → IsDamaged d0.bytes fault
  damage_before d2 fault stays cause is_known = record {
    head = head;
    live = live;
    opens = opens is_known;
    version = version;
    fault_is = subst (λ (bytes : List ℕ). HasFault head live bytes fault) same.same_bytes
        (fault_in head live d1.bytes fault (told_cause live (opened_shelf head live d1) (opened_shelf head live d2) fault stays cause (subst IsTrue (sym same.same_known) is_known)));
  }
