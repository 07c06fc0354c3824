-- How a job ends that could not fill its new index.
use Rattle.std.proofs.Common.{◌≡◌, ◌≢◌, ◌⊎◌, inl, inr, ⊎_elim, ℕ, ◌<◌, ◌≤◌, List, refl, subst, arith, length}
use Rattle.std.specs.Prelude.{codes, IsTrue}
use Rattle.outside_io.specs.Causes.{Rose}
use Rattle.outside_io.specs.Sinks.{SinkState, Tells}
use Rattle.disk_model.specs.Disk.{DiskState, EachImage, IsUnchanged}
use Rattle.node_page.specs.declared.head.Head.{Head}
use Rattle.shadow_root.specs.declared.faults.OpenFault.{OpenFault}
use Rattle.shadow_root.specs.declared.faults.OpenFault.TheVariants as open_fault
use Rattle.node_page.specs.Opening.Unopened.{Short, NoHead, Unfinished, TwoRoots, BadSlot}
use Rattle.job_files.specs.Lines.{not_index_text, unopened_name, unopened_text}
use Rattle.job_make.specs.declared.filling.FillFault.{FillFault}
use Rattle.job_make.specs.declared.filling.FillFault.TheVariants as fill
use Rattle.job_make.specs.Filling.{EndsUnfilled, HasFillCause, HoldsNoneOrAll}
use Rattle.job_make.specs.Jobs.{IsFilledSince, IsUnfilled}
use Rattle.job_make.proofs.Filled.{never_other, rose_of}

abbrev name_of : OpenFault → List ℕ
name_of open_fault.Disk = codes ""
name_of open_fault.Short = unopened_name Short
name_of (open_fault.Head f) = unopened_name (NoHead f)
name_of open_fault.Unfinished = unopened_name Unfinished
name_of open_fault.TwoRoots = unopened_name TwoRoots
name_of open_fault.Slot = unopened_name BadSlot

text_of : (why : OpenFault) → why ≢ open_fault.Disk → unopened_text why ≡ not_index_text (name_of why)
text_of open_fault.Disk other = absurd (other refl)
text_of open_fault.Short other = refl
text_of (open_fault.Head f) other = refl
text_of open_fault.Unfinished other = refl
text_of open_fault.TwoRoots other = refl
text_of open_fault.Slot other = refl

module _ (out0 out1 : SinkState) (status : ℕ) where
  pub by_unopened : (why : OpenFault) → (status ≡ 5 → why ≡ open_fault.Disk) → (status ≡ 6 → why ≢ open_fault.Disk) → Tells out0 out1 (unopened_text why) → (status ≡ 5) ⊎ (status ≡ 6) →
      EndsUnfilled (fill.Unopened why) out0 out1 status
  by_unopened why five six line statuses = record {
    disk = λ is. (rw (five is) tt, subst (λ (w : OpenFault). Tells out0 out1 (unopened_text w)) (five is) line);
    other = λ is. (six is, (name_of why, subst (Tells out0 out1) (text_of why (six is)) line));
    memory = λ is. absurd (⊎_elim (λ e. (let no : ⊥ = omega (arith, e, is) in no)) (λ e. (let no : ⊥ = omega (arith, e, is) in no)) statuses);
    damaged = λ is. absurd (⊎_elim (λ e. (let no : ⊥ = omega (arith, e, is) in no)) (λ e. (let no : ⊥ = omega (arith, e, is) in no)) statuses);
    statuses = ⊎_elim (λ e. inl e) (λ e. inr (inl e)) statuses;
  }

  pub by_changed : status ≡ 6 → Tells out0 out1 (codes "fault notindex notempty\n") → EndsUnfilled fill.Changed out0 out1 status
  by_changed six line = record {
    disk = λ is. absurd (omega (arith, six, is));
    other = λ is. (tt, (codes "notempty", line));
    memory = λ is. absurd (omega (arith, six, is));
    damaged = λ is. absurd (omega (arith, six, is));
    statuses = inr (inl six);
  }

  pub by_disk : status ≡ 5 → Tells out0 out1 (codes "fault disk\n") → EndsUnfilled fill.Disk out0 out1 status
  by_disk five line = record {
    disk = λ is. (tt, line);
    other = λ is. absurd (omega (arith, five, is));
    memory = λ is. absurd (omega (arith, five, is));
    damaged = λ is. absurd (omega (arith, five, is));
    statuses = inl five;
  }

  pub by_memory : status ≡ 8 → Tells out0 out1 (codes "fault memory\n") → EndsUnfilled fill.Memory out0 out1 status
  by_memory eight line = record {
    disk = λ is. absurd (omega (arith, eight, is));
    other = λ is. absurd (omega (arith, eight, is));
    memory = λ is. line;
    damaged = λ is. absurd (omega (arith, eight, is));
    statuses = inr (inr (inl eight));
  }

-- ---- the job's own words

since : (head : Head) (points : List (List ℕ)) (tags : List ℕ) (d1 d2 : DiskState) → EachImage d1 d2 (HoldsNoneOrAll head points tags) → IsFilledSince head points tags d2
since head points tags d1 d2 run = record { from = d1.clock; within = run.later; after = run.each }

pub filled_since : (head : Head) (points : List (List ℕ)) (tags : List ℕ) (d0 d1 d2 : DiskState) → d1.is_known ≡ d0.is_known → (IsTrue d1.is_known → EachImage d1 d2 (HoldsNoneOrAll head points tags)) → IsTrue d0.is_known → IsFilledSince head points tags d2
filled_since head points tags d0 d1 d2 told run is_known = since head points tags d1 d2 (run (rw told is_known))

module _ (head : Head) (points : List (List ℕ)) (tags : List ℕ) (d0 : DiskState) (out0 out1 : SinkState) (status : ℕ) where
  -- the file held something
  pub not_empty : (d1 : DiskState) → (IsTrue d0.is_known → 0 < length d0.bytes) × IsUnchanged d0 d1 → status ≡ 6 → Tells out0 out1 (codes "fault notindex notempty\n") → IsUnfilled head points tags d0 d1 out0 out1 status
  not_empty d1 cause six line = record {
    disk = λ is. absurd (omega (arith, six, is));
    not_empty = λ is. (codes "notempty", line, λ is_known. (refl, cause.0 is_known, cause.1));
    memory = λ is. absurd (omega (arith, six, is));
    damaged = λ is. absurd (omega (arith, six, is));
    left = λ is_known. inl cause.1;
  }

  -- the disk failed while the index was made
  pub unmade : (d1 : DiskState) → Rose d0.faults d1.faults → d1.reads ≡ d0.reads → status ≡ 5 → Tells out0 out1 (codes "fault disk\n") → IsUnfilled head points tags d0 d1 out0 out1 status
  unmade d1 cause reads five line = record {
    disk = λ is. (cause, line);
    not_empty = λ is. absurd (omega (arith, five, is));
    memory = λ is. absurd (omega (arith, five, is));
    damaged = λ is. absurd (omega (arith, five, is));
    left = λ is_known. inr (inr (five, reads));
  }

  -- it was made, but not filled
  pub unfilled : (d1 d2 : DiskState) → d1.is_known ≡ d0.is_known → d0.faults ≤ d1.faults → (fault : FillFault) → HasFillCause d1 d2 fault → (IsTrue d1.is_known → EachImage d1 d2 (HoldsNoneOrAll head points tags)) →
      EndsUnfilled fault out0 out1 status → IsUnfilled head points tags d0 d2 out0 out1 status
  unfilled d1 d2 told later fault cause run ends = record {
    disk = λ is. let e = ends.disk is in ((let r = rose_of d1 d2 fault e.0 cause in grind arith), e.1);
    not_empty = λ is. let e = ends.other is in (e.1.0, e.1.1, λ is_known. absurd (never_other d1 d2 fault e.0 cause (rw told is_known)));
    memory = λ is. ends.memory is;
    damaged = λ is. let e = ends.damaged is in ((λ is_known. (let c : HasFillCause d1 d2 (fill.Damaged e.0) = subst (HasFillCause d1 d2) e.1 cause in c.1 (rw told is_known))), e.0, e.2);
    left = λ is_known. inr (inl (filled_since head points tags d0 d1 d2 told run is_known));
  }
