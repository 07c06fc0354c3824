-- Files of version 1: how they are opened, audited and read.
use Rattle.std.proofs.Common.{◌≡◌, ◌≢◌, ◌⊎◌, ⊎_elim, inl, inr, ℕ, ◌≤◌, Bool, true, false, List, Option, Some, None, Result, Ok, Err, IfOk, IfErr, refl, sym, ap, ◌∙◌, subst, arith}
use Rattle.std.specs.Prelude.{codes, IsTrue}
use Rattle.std.specs.Io.KnownBytes.{Appends}
use Rattle.outside_io.specs.Bytes.{AppendsPrefix}
use Rattle.outside_io.specs.Causes.{Rose}
use Rattle.outside_io.specs.Sinks.{SinkState, Tells}
use Rattle.disk_model.specs.Disk.{DiskState, IsUnchanged}
use Rattle.tree_shape.specs.declared.entry.Node.{Node}
use Rattle.tree_shape.specs.declared.live.Live.{Live}
use Rattle.tree_shape.specs.Tree.{IsSoundTree, Nodes, points_by_id, tags_by_id}
use Rattle.node_page.specs.declared.head.Head.{Head}
use Rattle.node_page.specs.declared.node.Version.TheVariants.{First}
use Rattle.node_page.specs.Heads.{IsValidHead, is_version}
use Rattle.node_page.specs.Laws.{FaultIsNotOpen, OneLiveSlot}
use Rattle.node_page.specs.Opening.{OpensTo, open_fault}
use Rattle.node_page.specs.Opening.Unopened.{Short, NoHead, Unfinished, TwoRoots, BadSlot}
use Rattle.page_store.specs.declared.pages.PageFault.TheVariants as page
use Rattle.page_store.proofs.Published.{within_by_test, reads_outside}
use Rattle.page_store.specs.Reading.{IsWithin, Read, is_within, nodes_of}
use Rattle.shadow_root.specs.declared.faults.OpenFault.{OpenFault}
use Rattle.shadow_root.specs.declared.faults.OpenFault.TheVariants as open_fault
use Rattle.shadow_root.specs.Opening.{HasOpenCause}
use Rattle.tree_audit.specs.declared.faults.AuditFault.{AuditFault}
use Rattle.tree_audit.specs.declared.faults.AuditFault.TheVariants as audit
use Rattle.tree_audit.specs.Audited.{HasAuditCause, audit_fault}
use Rattle.tree_audit.specs.Laws.{AuditFaultsAreUnsoundness, HasNodesWithin}
use Rattle.page_store.specs.Shelf.{HoldsSame, Shelf}
use Rattle.metric_laws.specs.Space.{Space}
use Rattle.job_files.specs.Jobs.{IsPassing}
use Rattle.job_files.specs.Lines.{not_index_text, rejected_text, unopened_name, unopened_text}
use Rattle.job_files.specs.Spaces.{space_of}
use Rattle.job_make.specs.Migrating.{HasOldFault, IsNoOldFile, IsOldFile, IsOldRejected, RefusesOld, old_fault, old_nodes, old_reading, renewed}
use Rattle.job_make.specs.Ordering.{HasTakingCause}

-- ---- opening

-- a version other than 1 is 2
pub is_second : (version : ℕ) → IsTrue (is_version version) → version ≢ 1 → version ≡ 2
unfolding is_version
is_second version is other = grind (arith)

-- the head of the new file
pub renewed_valid : (head : Head) → IsValidHead head → IsValidHead (renewed head)
unfolding is_version
renewed_valid head valid = record { version = refl; space = valid.space; policy = valid.policy; limit = valid.limit }

-- a refusal to open that is not the disk's
no_old : (old new : DiskState) (f : OpenFault) → f ≢ open_fault.Disk → HasOpenCause old new f → (name : List ℕ) × (unopened_text f ≡ not_index_text name) × (IsTrue old.is_known → IsNoOldFile old.bytes name)
no_old old new open_fault.Disk other cause = absurd (other refl)
no_old old new open_fault.Short other cause = (unopened_name Short, refl, λ is_known. inl (Short, cause is_known, refl))
no_old old new (open_fault.Head f) other cause = (unopened_name (NoHead f), refl, λ is_known. inl (NoHead f, cause is_known, refl))
no_old old new open_fault.Unfinished other cause = (unopened_name Unfinished, refl, λ is_known. inl (Unfinished, cause is_known, refl))
no_old old new open_fault.TwoRoots other cause = (unopened_name TwoRoots, refl, λ is_known. inl (TwoRoots, cause is_known, refl))
no_old old new open_fault.Slot other cause = (unopened_name BadSlot, refl, λ is_known. inl (BadSlot, cause is_known, refl))

module _ (old new : DiskState) (out0 out1 : SinkState) (status : ℕ) where
  pub unopened : (why : OpenFault) → HasOpenCause old new why → (status ≡ 5 → why ≡ open_fault.Disk) → (status ≡ 6 → why ≢ open_fault.Disk) → Tells out0 out1 (unopened_text why) → (status ≡ 5) ⊎ (status ≡ 6) →
      RefusesOld old new out0 out1 status
  unopened why cause five six line statuses = record {
    rejected = λ is. absurd (⊎_elim (λ e. (let no : ⊥ = omega (arith, e, is) in no)) (λ e. (let no : ⊥ = omega (arith, e, is) in no)) statuses);
    part = λ is. absurd (⊎_elim (λ e. (let no : ⊥ = omega (arith, e, is) in no)) (λ e. (let no : ⊥ = omega (arith, e, is) in no)) statuses);
    disk = λ is. (subst (HasOpenCause old new) (five is) cause, subst (λ (w : OpenFault). Tells out0 out1 (unopened_text w)) (five is) line);
    not_old = λ is. let named = no_old old new why (six is) cause in (named.0, subst (Tells out0 out1) named.1 line, named.2);
    memory = λ is. absurd (⊎_elim (λ e. (let no : ⊥ = omega (arith, e, is) in no)) (λ e. (let no : ⊥ = omega (arith, e, is) in no)) statuses);
    statuses = ⊎_elim (λ e. inr (inr (inl e))) (λ e. inr (inr (inr (inl e)))) statuses;
  }

  pub second : (head : Head) (live : Live) → (IsTrue old.is_known → OpensTo old.bytes head live) → IsTrue (is_version head.version) → head.version ≢ 1 → status ≡ 6 → Tells out0 out1 (codes "fault notindex version\n") →
      RefusesOld old new out0 out1 status
  second head live opens version other six line = record {
    rejected = λ is. absurd (omega (arith, six, is));
    part = λ is. absurd (omega (arith, six, is));
    disk = λ is. absurd (omega (arith, six, is));
    not_old = λ is. (codes "version", line, λ is_known. inr (head, live, opens is_known, is_second head.version version other, refl));
    memory = λ is. absurd (omega (arith, six, is));
    statuses = inr (inr (inr (inl six)));
  }

-- ---- the audit

within : (head : Head) (live : Live) (file : List ℕ) (page : ℕ) (node : Node) (b : Bool) → is_within live.pages page ≡ b → old_reading head live file page ≡ Ok node → IsWithin live.pages page
within head live file page node true is read = within_by_test live.pages page is
within head live file page node false is read = absurd (let no : ⊥ = cc (sym (reads_outside First head.dim live.pages file page is) ∙ read) in no)

pub nodes_within : (head : Head) (live : Live) (file : List ℕ) → HasNodesWithin (old_reading head live file) live.pages
nodes_within head live file page node read = within head live file page node (is_within live.pages page) refl read

pub sound_old : AuditFaultsAreUnsoundness → (head : Head) (live : Live) (file : List ℕ) → old_fault head live file ≡ None → IsSoundTree (space_of head) (old_nodes head live file) live
sound_old law head live file none = (law (space_of head) (old_reading head live file) live (nodes_within head live file)).0 none

pub faultless : AuditFaultsAreUnsoundness → (head : Head) (live : Live) (file : List ℕ) → IsSoundTree (space_of head) (old_nodes head live file) live → old_fault head live file ≡ None
faultless law head live file sound = (law (space_of head) (old_reading head live file) live (nodes_within head live file)).1 sound

-- the auditor's cause
pub of_audit : (old new : Shelf) (told : Option AuditFault) (fault : AuditFault) → HasAuditCause old new told fault → HasOldFault old.is_known old.faults new.faults told fault
of_audit old new told audit.Memory cause = tt
of_audit old new told (audit.Page page.Disk) cause = cause
of_audit old new told (audit.Page page.Memory) cause = cause
of_audit old new told (audit.Page (page.Repeats p)) cause = absurd cause
of_audit old new told (audit.Page (page.Level p)) cause = absurd cause
of_audit old new told (audit.Page (page.Bad p f)) cause = cause
of_audit old new told (audit.Page (page.Outside p)) cause = cause
of_audit old new told (audit.Fill p) cause = cause
of_audit old new told (audit.Twice p) cause = cause
of_audit old new told (audit.Unfit p i) cause = cause
of_audit old new told (audit.ParentDistance p i) cause = cause
of_audit old new told (audit.Radius p i o) cause = cause
of_audit old new told (audit.Id i) cause = cause
of_audit old new told (audit.Count a b) cause = cause

-- objects that were not taken from a tree that was audited
of_taking : (Sound : Type 0) (is_known : Bool) (before between now : ℕ) (told : Option AuditFault) (fault : AuditFault) → (IsTrue is_known → Sound) → before ≤ between → HasTakingCause Sound between now fault → HasOldFault is_known before now told fault
of_taking Sound is_known before between now told audit.Memory sound later cause = tt
of_taking Sound is_known before between now told (audit.Page page.Disk) sound later cause = (let c : Rose between now = cause in omega (arith, c, later))
of_taking Sound is_known before between now told (audit.Page page.Memory) sound later cause = cause
of_taking Sound is_known before between now told (audit.Page (page.Repeats p)) sound later cause = λ t. absurd (cause (sound t))
of_taking Sound is_known before between now told (audit.Page (page.Level p)) sound later cause = λ t. absurd (cause (sound t))
of_taking Sound is_known before between now told (audit.Page (page.Bad p f)) sound later cause = λ t. absurd (cause (sound t))
of_taking Sound is_known before between now told (audit.Page (page.Outside p)) sound later cause = λ t. absurd (cause (sound t))
of_taking Sound is_known before between now told (audit.Fill p) sound later cause = λ t. absurd (cause (sound t))
of_taking Sound is_known before between now told (audit.Twice p) sound later cause = λ t. absurd (cause (sound t))
of_taking Sound is_known before between now told (audit.Unfit p i) sound later cause = λ t. absurd (cause (sound t))
of_taking Sound is_known before between now told (audit.ParentDistance p i) sound later cause = λ t. absurd (cause (sound t))
of_taking Sound is_known before between now told (audit.Radius p i o) sound later cause = λ t. absurd (cause (sound t))
of_taking Sound is_known before between now told (audit.Id i) sound later cause = λ t. absurd (cause (sound t))
of_taking Sound is_known before between now told (audit.Count a b) sound later cause = λ t. absurd (cause (sound t))

module _ (law : AuditFaultsAreUnsoundness) (s : Space) (old mid : Shelf) (t : Live) (within : HasNodesWithin old.read t.pages) (none : IsTrue old.is_known → audit_fault s old.read t ≡ None) (same : HoldsSame old mid) where
  pub is_sound : IsTrue old.is_known → IsSoundTree s (nodes_of old.read) t
  is_sound is_known = (law s old.read t within).0 (none is_known)

  still_sound : IsTrue old.is_known → IsTrue mid.is_known × IsSoundTree s (nodes_of mid.read) t
  still_sound is_known = (subst IsTrue (sym same.is_known) is_known, subst (λ (r : Read). IsSoundTree s (nodes_of r) t) (sym same.read) (is_sound is_known))

  pub if_still : {T E : Type 0} (P : T → Nodes → Type 0) (r : Result T E) → IfOk r (λ x. IsTrue mid.is_known → IsSoundTree s (nodes_of mid.read) t → P x (nodes_of mid.read)) → IfOk r (λ x. IsTrue old.is_known → P x (nodes_of old.read))
  if_still P (Ok x) is = λ is_known. let still = still_sound is_known in subst (λ (r : Read). P x (nodes_of r)) same.read (is still.0 still.1)
  if_still P (Err e) is = tt

  pub still_taking : {T : Type 0} (now : ℕ) (told : Option AuditFault) (r : Result T AuditFault) → IfErr r (HasTakingCause (IsTrue mid.is_known × IsSoundTree s (nodes_of mid.read) t) mid.faults now) → IfErr r (HasOldFault old.is_known old.faults now told)
  still_taking now told (Ok x) cause = tt
  still_taking now told (Err fault) cause = of_taking (IsTrue mid.is_known × IsSoundTree s (nodes_of mid.read) t) old.is_known old.faults mid.faults now told fault still_sound same.faults cause

-- ---- how reading an old file ends

-- what is told, other than a failure of the disk and running out of memory
told_by : (is_told : Bool) (before now : ℕ) (told : Option AuditFault) (fault : AuditFault) → (IsPassing fault → ⊥) → HasOldFault is_told before now told fault → IsTrue is_told → told ≡ Some fault
told_by is_told before now told audit.Memory other cause is_known = absurd (other tt)
told_by is_told before now told (audit.Page page.Disk) other cause is_known = absurd (other tt)
told_by is_told before now told (audit.Page page.Memory) other cause is_known = absurd cause
told_by is_told before now told (audit.Page (page.Repeats p)) other cause is_known = cause is_known
told_by is_told before now told (audit.Page (page.Level p)) other cause is_known = cause is_known
told_by is_told before now told (audit.Page (page.Bad p f)) other cause is_known = cause is_known
told_by is_told before now told (audit.Page (page.Outside p)) other cause is_known = cause is_known
told_by is_told before now told (audit.Fill p) other cause is_known = cause is_known
told_by is_told before now told (audit.Twice p) other cause is_known = cause is_known
told_by is_told before now told (audit.Unfit p i) other cause is_known = cause is_known
told_by is_told before now told (audit.ParentDistance p i) other cause is_known = cause is_known
told_by is_told before now told (audit.Radius p i o) other cause is_known = cause is_known
told_by is_told before now told (audit.Id i) other cause is_known = cause is_known
told_by is_told before now told (audit.Count a b) other cause is_known = cause is_known

module _ (d0 d1 : DiskState) (head : Head) (live : Live) (opens : IsTrue d0.is_known → OpensTo d0.bytes head live) (version : head.version ≡ 1) (same : IsUnchanged d0 d1) where
  told_still : IsTrue d0.is_known → IsTrue d1.is_known
  told_still is_known = subst IsTrue (sym same.same_known) is_known

  rejected_before : (n : ℕ) (fault : AuditFault) → (IsPassing fault → ⊥) → HasOldFault d1.is_known d1.faults n (old_fault head live d1.bytes) fault → IsTrue d0.is_known → IsOldRejected d0.bytes fault
  rejected_before n fault other cause is_known = record {
    head = head;
    live = live;
    opens = opens is_known;
    version = version;
    told = subst (λ (b : List ℕ). old_fault head live b ≡ Some fault) same.same_bytes (told_by d1.is_known d1.faults n (old_fault head live d1.bytes) fault other cause (told_still is_known));
  }

  pub rejected : (d2 : DiskState) (out0 out1 : SinkState) (status : ℕ) (fault : AuditFault) → d0.faults ≤ d1.faults → HasOldFault d1.is_known d1.faults d2.faults (old_fault head live d1.bytes) fault →
      (status ≡ 1 → Appends out0.written out1.written (rejected_text fault)) → (status ≡ 4 → AppendsPrefix out0.written out1.written (rejected_text fault)) → ((status ≡ 1) ⊎ (status ≡ 4) → IsPassing fault → ⊥) →
      (status ≡ 5 → (fault ≡ audit.Page page.Disk) × Tells out0 out1 (codes "fault disk\n")) → (status ≡ 8 → Tells out0 out1 (codes "fault memory\n")) →
      (status ≡ 1) ⊎ ((status ≡ 4) ⊎ ((status ≡ 5) ⊎ (status ≡ 8))) → RefusesOld d0 d2 out0 out1 status
  rejected d2 out0 out1 status fault later cause one four kind five eight statuses = record {
    rejected = λ is. (fault, one is, rejected_before d2.faults fault (kind (inl is)) cause);
    part = λ is. (fault, four is, rejected_before d2.faults fault (kind (inr is)) cause);
    disk = λ is. ((let c : Rose d1.faults d2.faults = subst (HasOldFault d1.is_known d1.faults d2.faults (old_fault head live d1.bytes)) (five is).0 cause in omega (arith, c, later)), (five is).1);
    not_old = λ is. absurd (elim statuses [ inl e ↦ omega (arith, e, is) | inr (inl e) ↦ omega (arith, e, is) | inr (inr (inl e)) ↦ omega (arith, e, is) | inr (inr (inr e)) ↦ omega (arith, e, is) ]);
    memory = eight;
    statuses = elim statuses [ inl e ↦ inl e | inr (inl e) ↦ inr (inl e) | inr (inr (inl e)) ↦ inr (inr (inl e)) | inr (inr (inr e)) ↦ inr (inr (inr (inr e))) ];
  }

  -- the objects of a sound one
  pub is_old_file : (points : List (List ℕ)) (tags : List ℕ) → (IsTrue d1.is_known → IsSoundTree (space_of head) (old_nodes head live d1.bytes) live) → (IsTrue d1.is_known → points ≡ points_by_id (old_nodes head live d1.bytes) live) →
      (IsTrue d1.is_known → tags ≡ tags_by_id (old_nodes head live d1.bytes) live) → IsTrue d0.is_known → IsOldFile head points tags d0.bytes
  is_old_file points tags sound points_are tags_are is_known =
      subst (λ (b : List ℕ). IsOldFile head points tags b) same.same_bytes (record {
        live = live;
        opens = subst (λ (b : List ℕ). OpensTo b head live) (sym same.same_bytes) (opens is_known);
        version = version;
        sound = sound (told_still is_known);
        points_are = points_are (told_still is_known);
        tags_are = tags_are (told_still is_known);
      })

-- ---- a sound old file is not refused

pub not_rejected : AuditFaultsAreUnsoundness → OneLiveSlot → (head : Head) (points : List (List ℕ)) (tags file : List ℕ) (fault : AuditFault) → IsOldFile head points tags file → IsOldRejected file fault → ⊥
not_rejected law one head points tags file fault old why =
    let both = one file head why.head old.live why.live old.opens why.opens in
    let none : old_fault why.head why.live file ≡ None = subst (λ (l : Live). old_fault why.head l file ≡ None) both.1 (subst (λ (h : Head). old_fault h old.live file ≡ None) both.0 (faultless law head old.live file old.sound)) in
    cc (sym none ∙ why.told)

pub not_unopened : FaultIsNotOpen → OneLiveSlot → (head : Head) (points : List (List ℕ)) (tags file name : List ℕ) → IsOldFile head points tags file → IsNoOldFile file name → ⊥
not_unopened faults one head points tags file name old (inl (why, is, named)) = let none : open_fault file ≡ None = (faults file).1 (head, old.live, old.opens) in cc
not_unopened faults one head points tags file name old (inr (h, l, opens, version, named)) =
    let both = one file head h old.live l old.opens opens in
    omega (arith, ap (λ (x : Head). x.version) both.0, old.version, version)
