-- How an audit ends, by what its parts told.
use Rattle.std.proofs.Common.{◌≡◌, ◌≢◌, ◌⊎◌, ◌≤◌, inl, inr, ⊎_elim, ℕ, List, length, Option, Some, None, IsTrue, refl, sym, ◌∙◌, subst, arith}
use Rattle.std.specs.Prelude.{codes}
use Rattle.std.specs.Io.KnownBytes.{Appends}
use Rattle.outside_io.specs.Bytes.{AppendsPrefix}
use Rattle.outside_io.specs.Causes.{Rose}
use Rattle.outside_io.specs.Sinks.{SinkState, Tells}
use Rattle.outside_io.proofs.Published.{rose_before}
use Rattle.disk_model.specs.Disk.{DiskState, IsUnchanged}
use Rattle.disk_model.specs.Moments.{then_unchanged}
use Rattle.tree_shape.specs.declared.live.Live.{Live}
use Rattle.node_page.specs.declared.head.Head.{Head}
use Rattle.node_page.specs.Heads.{is_version}
use Rattle.node_page.specs.Opening.{OpensTo}
use Rattle.node_page.specs.Opening.Unopened.{Short, NoHead, Unfinished, TwoRoots, BadSlot}
use Rattle.page_store.specs.declared.pages.PageFault.TheVariants as page
use Rattle.shadow_root.specs.declared.faults.OpenFault.{OpenFault}
use Rattle.shadow_root.specs.declared.faults.OpenFault.TheVariants as fault
use Rattle.shadow_root.specs.Opening.{HasOpenCause}
use Rattle.tree_audit.specs.declared.auditing.Audited.{Audited}
use Rattle.tree_audit.specs.declared.faults.AuditFault.{AuditFault}
use Rattle.tree_audit.specs.declared.faults.AuditFault.TheVariants as audit
use Rattle.job_files.specs.Lines.{unopened_name, unopened_text, not_index_text, rejected_text, sound_text}
use Rattle.job_files.specs.Jobs.{Audits, IsNoIndex, HasFault, IsPassing, IsAudited, IsSoundWith, Refuses}
use Rattle.job_files.proofs.Statuses.{neither}
use Rattle.metric_mix.specs.MixSpaces.{mix_space}
use Rattle.tree_shape.specs.Tree.{pages_at}
use Rattle.page_store.specs.Reading.{reading, nodes_of}
use Rattle.tree_audit.specs.Audited.{audit_fault}

-- a refusal to open that is not the disk's
pub no_index : (old new : DiskState) (f : OpenFault) → f ≢ fault.Disk → HasOpenCause old new f → (name : List ℕ) × (unopened_text f ≡ not_index_text name) × (IsTrue old.is_known → IsNoIndex old.bytes name)
no_index old new fault.Disk other cause = absurd (other refl)
no_index old new fault.Short other cause = (unopened_name Short, refl, λ is_known. inl (Short, cause is_known, refl))
no_index old new (fault.Head f) other cause = (unopened_name (NoHead f), refl, λ is_known. inl (NoHead f, cause is_known, refl))
no_index old new fault.Unfinished other cause = (unopened_name Unfinished, refl, λ is_known. inl (Unfinished, cause is_known, refl))
no_index old new fault.TwoRoots other cause = (unopened_name TwoRoots, refl, λ is_known. inl (TwoRoots, cause is_known, refl))
no_index old new fault.Slot other cause = (unopened_name BadSlot, refl, λ is_known. inl (BadSlot, cause is_known, refl))

pub rose_by_disk : (old new : DiskState) (f : OpenFault) → f ≡ fault.Disk → HasOpenCause old new f → Rose old.faults new.faults
rose_by_disk old new f is cause = subst (HasOpenCause old new) is cause

-- a fault that bytes tell
pub told_by : (old : DiskState) (faults : ℕ) (told : Option AuditFault) (f : AuditFault) → (IsPassing f → ⊥) → HasFault old faults told f → IsTrue old.is_known → told ≡ Some f
told_by old faults told audit.Memory other cause is_known = absurd (other tt)
told_by old faults told (audit.Page page.Disk) other cause is_known = absurd (other tt)
told_by old faults told (audit.Page page.Memory) other cause is_known = absurd cause
told_by old faults told (audit.Page (page.Repeats p)) other cause is_known = absurd cause
told_by old faults told (audit.Page (page.Level p)) other cause is_known = absurd cause
told_by old faults told (audit.Page (page.Bad p f)) other cause is_known = cause is_known
told_by old faults told (audit.Page (page.Outside p)) other cause is_known = cause is_known
told_by old faults told (audit.Fill p) other cause is_known = cause is_known
told_by old faults told (audit.Twice p) other cause is_known = cause is_known
told_by old faults told (audit.Unfit p i) other cause is_known = cause is_known
told_by old faults told (audit.ParentDistance p i) other cause is_known = cause is_known
told_by old faults told (audit.Radius p i o) other cause is_known = cause is_known
told_by old faults told (audit.Id i) other cause is_known = cause is_known
told_by old faults told (audit.Count a b) other cause is_known = cause is_known

pub audit_rose : (old : DiskState) (faults : ℕ) (told : Option AuditFault) (f : AuditFault) → f ≡ audit.Page page.Disk → HasFault old faults told f → Rose old.faults faults
audit_rose old faults told f is cause = subst (HasFault old faults told) is cause

-- one status, and not another
pub only : {P : Type 0} (r x n : ℕ) → r ≡ x → r ≡ n → n ≢ x → P
only r x n six is other = absurd (other (sym is ∙ six))

-- one of three or four statuses that it is not
pub none_of_three : {P : Type 0} (r x y z n : ℕ) → (r ≡ x) ⊎ ((r ≡ y) ⊎ (r ≡ z)) → r ≡ n → n ≢ x → n ≢ y → n ≢ z → P
none_of_three r x y z n either is a b c = absurd (⊎_elim (λ e. a (sym is ∙ e)) (λ rest. ⊎_elim (λ e. b (sym is ∙ e)) (λ e. c (sym is ∙ e)) rest) either)

pub none_of_four : {P : Type 0} (r w x y z n : ℕ) → (r ≡ w) ⊎ ((r ≡ x) ⊎ ((r ≡ y) ⊎ (r ≡ z))) → r ≡ n → n ≢ w → n ≢ x → n ≢ y → n ≢ z → P
none_of_four r w x y z n either is a b c d = absurd (⊎_elim (λ e. a (sym is ∙ e)) (λ rest. none_of_three r x y z n rest is b c d) either)

-- of two versions the one that is not the second
pub is_first : (version : ℕ) → IsTrue (is_version version) → version ≢ 2 → version ≡ 1
unfolding is_version
is_first version is other = grind (arith)

-- what is told of the bytes after opening is told of those before
pub audited_before : (d0 d1 : DiskState) (head : Head) (live : Live) (told : Option AuditFault) → (IsTrue d0.is_known → OpensTo d0.bytes head live) → head.version ≡ 2 → IsUnchanged d0 d1 → (IsTrue d1.is_known → audit_fault (mix_space head.kind head.dim) (reading head.dim live.pages d1.bytes) live ≡ told) → IsTrue d0.is_known → IsAudited d0.bytes told
audited_before d0 d1 head live told opens version same ok is_known = record {
  head = head;
  live = live;
  opens = opens is_known;
  version = version;
  told = subst (λ (b : List ℕ). audit_fault (mix_space head.kind head.dim) (reading head.dim live.pages b) live ≡ told) same.same_bytes (ok (subst IsTrue (sym same.same_known) is_known));
}

pub sound_before : (d0 d1 : DiskState) (head : Head) (live : Live) (objects nodes : ℕ) → (IsTrue d0.is_known → OpensTo d0.bytes head live) → head.version ≡ 2 → IsUnchanged d0 d1 → (IsTrue d1.is_known → audit_fault (mix_space head.kind head.dim) (reading head.dim live.pages d1.bytes) live ≡ None) → objects ≡ live.count → (IsTrue d1.is_known → nodes ≡ length (pages_at (nodes_of (reading head.dim live.pages d1.bytes)) live.height live.root)) → IsTrue d0.is_known → IsSoundWith d0.bytes objects nodes
unfolding audited_before
sound_before d0 d1 head live objects nodes opens version same ok objects_are nodes_are is_known = record {
  audited = audited_before d0 d1 head live None opens version same ok is_known;
  objects_are = objects_are;
  nodes_are = subst (λ (b : List ℕ). nodes ≡ length (pages_at (nodes_of (reading head.dim live.pages b)) live.height live.root)) same.same_bytes (nodes_are (subst IsTrue (sym same.same_known) is_known));
}

-- ---- how an audit ends, of a file that was not opened, is sound, or is rejected

pub unopened_audits : (d0 d1 : DiskState) (w0 w1 : SinkState) (status : ℕ) → IsUnchanged d0 d1 → Refuses d0 d1 w0 w1 status → Audits d0 d1 w0 w1 status
unopened_audits d0 d1 w0 w1 status same refuses =
    let s = refuses.statuses in
    record {
      unchanged = same;
      sound = λ is. neither status 5 6 0 s is (omega arith) (omega arith);
      rejected = λ is. neither status 5 6 1 s is (omega arith) (omega arith);
      part = λ is. neither status 5 6 4 s is (omega arith) (omega arith);
      disk = refuses.disk;
      not_index = refuses.not_index;
      memory = λ is. neither status 5 6 8 s is (omega arith) (omega arith);
    }

module _ (d0 d1 d2 : DiskState) (head : Head) (live : Live) (opens : IsTrue d0.is_known → OpensTo d0.bytes head live) (version : head.version ≡ 2) (same : IsUnchanged d0 d1) (then_same : IsUnchanged d1 d2)
    (w0 w1 : SinkState) (status : ℕ) where
  pub sound_audits : (found : Audited)
      → (IsTrue d1.is_known → audit_fault (mix_space head.kind head.dim) (reading head.dim live.pages d1.bytes) live ≡ None) → found.objects ≡ live.count
      → (IsTrue d1.is_known → found.nodes ≡ length (pages_at (nodes_of (reading head.dim live.pages d1.bytes)) live.height live.root))
      → (status ≡ 0 → Appends w0.written w1.written (sound_text found.objects found.nodes)) → (status ≡ 4 → AppendsPrefix w0.written w1.written (sound_text found.objects found.nodes))
      → (status ≡ 8 → Tells w0 w1 (codes "fault memory\n")) → (status ≡ 0) ⊎ ((status ≡ 4) ⊎ (status ≡ 8)) → Audits d0 d2 w0 w1 status
  sound_audits found ok objects nodes sound part memory s =
      let before = sound_before d0 d1 head live found.objects found.nodes opens version same ok objects nodes in
      record {
        unchanged = then_unchanged d0 d1 d2 same then_same;
        sound = λ is. (found.objects, found.nodes, sound is, before);
        rejected = λ is. none_of_three status 0 4 8 1 s is (omega arith) (omega arith) (omega arith);
        part = λ is. inl (found.objects, found.nodes, part is, before);
        disk = λ is. none_of_three status 0 4 8 5 s is (omega arith) (omega arith) (omega arith);
        not_index = λ is. none_of_three status 0 4 8 6 s is (omega arith) (omega arith) (omega arith);
        memory = memory;
      }

  pub rejected_audits : (fault : AuditFault) → d0.faults ≤ d1.faults
      → HasFault d1 d2.faults (audit_fault (mix_space head.kind head.dim) (reading head.dim live.pages d1.bytes) live) fault → ((status ≡ 1) ⊎ (status ≡ 4) → IsPassing fault → ⊥)
      → (status ≡ 1 → Appends w0.written w1.written (rejected_text fault)) → (status ≡ 4 → AppendsPrefix w0.written w1.written (rejected_text fault))
      → (status ≡ 5 → (fault ≡ audit.Page page.Disk) × Tells w0 w1 (codes "fault disk\n")) → (status ≡ 8 → Tells w0 w1 (codes "fault memory\n"))
      → (status ≡ 1) ⊎ ((status ≡ 4) ⊎ ((status ≡ 5) ⊎ (status ≡ 8))) → Audits d0 d2 w0 w1 status
  rejected_audits fault later cause kind rejected part disk memory s =
      let told = audit_fault (mix_space head.kind head.dim) (reading head.dim live.pages d1.bytes) live in
      let before : (IsPassing fault → ⊥) → IsTrue d0.is_known → IsAudited d0.bytes (Some fault) = λ lasting. audited_before d0 d1 head live (Some fault) opens version same (told_by d1 d2.faults told fault lasting cause) in
      record {
        unchanged = then_unchanged d0 d1 d2 same then_same;
        sound = λ is. none_of_four status 1 4 5 8 0 s is (omega arith) (omega arith) (omega arith) (omega arith);
        rejected = λ is. (fault, rejected is, before (kind (inl is)));
        part = λ is. inr (fault, part is, before (kind (inr is)));
        disk = λ is. let failed = disk is in (rose_before d0.faults d1.faults d2.faults later (audit_rose d1 d2.faults told fault failed.0 cause), failed.1);
        not_index = λ is. none_of_four status 1 4 5 8 6 s is (omega arith) (omega arith) (omega arith) (omega arith);
        memory = memory;
      }
