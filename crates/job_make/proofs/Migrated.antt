-- How `migrate` ends.
use Rattle.std.proofs.Common.{◌≡◌, ◌≢◌, ◌⊎◌, ⊎_elim, inl, inr, ℕ, ◌<◌, ◌≤◌, List, refl, sym, ap, ◌∙◌, subst, arith, length}
use Rattle.std.specs.Prelude.{codes, false, IsTrue}
use Rattle.std.specs.Io.KnownBytes.{Appends}
use Rattle.outside_io.specs.Bytes.{AppendsPrefix}
use Rattle.outside_io.specs.Causes.{Rose}
use Rattle.outside_io.specs.Sinks.{SinkState, Tells}
use Rattle.disk_model.specs.Disk.{DiskState, IsUnchanged}
use Rattle.disk_model.specs.Moments.{then_unchanged}
use Rattle.node_page.specs.declared.head.Head.{Head}
use Rattle.node_page.specs.Laws.{FaultIsNotOpen, OneLiveSlot}
use Rattle.tree_audit.specs.Laws.{AuditFaultsAreUnsoundness}
use Rattle.metric_mix.specs.declared.mix_space.MixSpace.{MixSpace}
use Rattle.index_core.specs.Files.{OnlyReads}
use Rattle.index_core.specs.Index.{MayGoOn, OpenIndex}
use Rattle.index_core.specs.Lending.{same_room_by_none}
use Rattle.job_make.specs.Filling.{IsFilled}
use Rattle.job_make.specs.Jobs.{Fills, IsFillStatus, IsFilledSince, IsUnfilled}
use Rattle.job_make.specs.Migrating.{IsMigrateStatus, IsOldFile, Migrates, Moves, RefusesNew, RefusesNothing, RefusesOld, migrated_text, renewed}
use Rattle.job_make.proofs.Generated.{is_full, leaves_only, refused as unfilled, unchanged, written}
use Rattle.job_make.proofs.OldFiles.{not_rejected, not_unopened}
use Rattle.outside_io.proofs.Published.{rose_before}

-- ---- before the old file was reached

module _ (new0 new1 : DiskState) (out0 out1 : SinkState) (status : ℕ) where
  pub not_empty : (IsTrue new0.is_known → 0 < length new0.bytes) → status ≡ 6 → Tells out0 out1 (codes "fault notindex notempty\n") → RefusesNew new0 new1 out0 out1 status
  not_empty some six line = record {
    disk = λ is. absurd (omega (arith, six, is));
    not_empty = λ is. (some, line);
    memory = λ is. absurd (omega (arith, six, is));
    statuses = inr (inl six);
  }

  pub no_size : Rose new0.faults new1.faults → status ≡ 5 → Tells out0 out1 (codes "fault disk\n") → RefusesNew new0 new1 out0 out1 status
  no_size rose five line = record {
    disk = λ is. (rose, line);
    not_empty = λ is. absurd (omega (arith, five, is));
    memory = λ is. absurd (omega (arith, five, is));
    statuses = inl five;
  }

-- nothing was read, because memory ran out
pub migrates_no_memory : (new old : DiskState) (out0 out1 : SinkState) (status : ℕ) → status ≡ 8 → Tells out0 out1 (codes "fault memory\n") → Migrates new new old old out0 out1 status
migrates_no_memory new old out0 out1 status eight line = record {
  old_same = unchanged old;
  ends = inl (
    unchanged new,
    record {
      disk = λ is. absurd (omega (arith, eight, is));
      not_empty = λ is. absurd (omega (arith, eight, is));
      memory = λ is. line;
      statuses = inr (inr eight);
    },
  );
}

-- ---- an index that was only looked at before it is filled

pub fills_before : (head : Head) (points : List (List ℕ)) (tags : List ℕ) (IsText : List ℕ → List ℕ → Type 0) (d0 d1 d2 : DiskState) (out0 out1 : SinkState) (status : ℕ) → IsUnchanged d0 d1 → d0.faults ≤ d1.faults → d1.reads ≡ d0.reads →
    Fills head points tags IsText d1 d2 out0 out1 status → Fills head points tags IsText d0 d2 out0 out1 status
fills_before head points tags IsText d0 d1 d2 out0 out1 status same later reads fills = record {
  filled = λ is_known is. let f = fills.filled (told is_known) is in (sym (ap length same.same_bytes) ∙ f.0, f.1, f.2);
  done = λ is_known is. fills.done (told is_known) is;
  part = λ is_known is. fills.part (told is_known) is;
  unfilled = record {
    disk = λ is. (rose_before d0.faults d1.faults d2.faults later (fills.unfilled.disk is).0, (fills.unfilled.disk is).1);
    not_empty = λ is.
        let n = fills.unfilled.not_empty is in
        (n.0, n.1, λ is_known. (let m = n.2 (told is_known) in (m.0, subst (λ (b : List ℕ). 0 < length b) same.same_bytes m.1, then_unchanged d0 d1 d2 same m.2)));
    memory = fills.unfilled.memory;
    damaged = λ is. let d = fills.unfilled.damaged is in ((λ is_known. d.0 (told is_known)), d.1, d.2);
    left = λ is_known. elim (fills.unfilled.left (told is_known)) [
      | inl u ↦ inl (then_unchanged d0 d1 d2 same u)
      | inr (inl s) ↦ inr (inl s)
      | inr (inr u) ↦ inr (inr (u.0, u.1 ∙ reads))
    ];
  };
}
  where
    told : IsTrue d0.is_known → IsTrue d1.is_known
    told is_known = subst IsTrue (sym same.same_known) is_known

-- ---- the whole job

module _ (new0 new1 old0 old1 : DiskState) (out0 out1 : SinkState) (status : ℕ) where
  pub stays : IsUnchanged new0 new1 → RefusesNew new0 new1 out0 out1 status → old1 ≡ old0 → Migrates new0 new1 old0 old1 out0 out1 status
  stays same refuses is = record { old_same = subst (λ (d : DiskState). IsUnchanged old0 d) (sym is) (unchanged old0); ends = inl (same, refuses) }

  module _ (same : IsUnchanged old0 old1) (empty : IsTrue new0.is_known → length new0.bytes ≡ 0) where
    pub refused : IsUnchanged new0 new1 → RefusesOld old0 old1 out0 out1 status → Migrates new0 new1 old0 old1 out0 out1 status
    refused unchanged refuses = record { old_same = same; ends = inr (empty, inl (unchanged, refuses)) }

    pub moved : (between : DiskState) (head : Head) (points : List (List ℕ)) (tags : List ℕ) → (IsTrue old0.is_known → IsOldFile head points tags old0.bytes) → IsUnchanged new0 between → new0.faults ≤ between.faults → between.reads ≡ new0.reads →
        Fills (renewed head) points tags (λ file text. text ≡ migrated_text (length points)) between new1 out0 out1 status → IsFillStatus status → Migrates new0 new1 old0 old1 out0 out1 status
    moved between head points tags old_is looked later reads fills statuses = record {
      old_same = same;
      ends = inr (
        empty,
        inr (record {
          head = head;
          points = points;
          tags = tags;
          old_is = old_is;
          fills = fills_before (renewed head) points tags (λ file text. text ≡ migrated_text (length points)) new0 between new1 out0 out1 status looked later reads fills;
          statuses = statuses;
        }),
      );
    }

-- ---- what was written of a filled index

module _ (h : Head) (points : List (List ℕ)) (tags : List ℕ) (d0 d1 : DiskState) (out0 out1 : SinkState) (status : ℕ) where
  unwritten : status ≡ 8 → Tells out0 out1 (codes "fault memory\n") → (IsTrue d0.is_known → IsFilledSince h points tags d1) → Fills h points tags (λ file text. text ≡ migrated_text (length points)) d0 d1 out0 out1 status
  unwritten eight line since = record {
    filled = λ is_known is. absurd (⊎_elim (λ e. (let no : ⊥ = omega (arith, e, eight) in no)) (λ e. (let no : ⊥ = omega (arith, e, eight) in no)) is);
    done = λ is_known is. absurd (omega (arith, is, eight));
    part = λ is_known is. absurd (omega (arith, is, eight));
    unfilled = record {
      disk = λ is. absurd (omega (arith, is, eight));
      not_empty = λ is. absurd (omega (arith, is, eight));
      memory = λ is. line;
      damaged = λ is. absurd (omega (arith, is, eight));
      left = λ is_known. inr (inl (since is_known));
    };
  }

  pub filled_fills : (head : Head) → h ≡ renewed head → (i : OpenIndex MixSpace) → i.file.head ≡ h → (IsTrue d0.is_known → IsFilled h points tags d1 i) → MayGoOn i d1 → i.stopped ≡ false → (IsTrue d0.is_known → length d0.bytes ≡ 0) →
      (IsTrue d0.is_known → IsFilledSince h points tags d1) → d0.faults ≤ d1.faults → d1.is_known ≡ d0.is_known → (n : ℕ) → n ≡ length points → (status ≡ 0) ⊎ ((status ≡ 4) ⊎ (status ≡ 8)) →
      (status ≡ 0 → Appends out0.written out1.written (migrated_text n)) → (status ≡ 4 → AppendsPrefix out0.written out1.written (migrated_text n)) → (status ≡ 8 → Tells out0 out1 (codes "fault memory\n")) →
      Fills (renewed head) points tags (λ file text. text ≡ migrated_text (length points)) d0 d1 out0 out1 status
  filled_fills head is i heads filled stands going empty since later told n count statuses done part memory =
      subst (λ (x : Head). Fills x points tags (λ file text. text ≡ migrated_text (length points)) d0 d1 out0 out1 status) is (elim statuses [ inl e ↦ full (inl e) | inr (inl e) ↦ full (inr e) | inr (inr e) ↦ unwritten e (memory e) since ])
    where
      version : h.version ≡ 2
      version = ap (λ (x : Head). x.version) is

      reads : OnlyReads i.file i.file d1 d1
      reads = record { rest = refl; room = same_room_by_none i.file.kept; same = unchanged d1; later = omega arith }

      full : (status ≡ 0) ⊎ (status ≡ 4) → Fills h points tags (λ file text. text ≡ migrated_text (length points)) d0 d1 out0 out1 status
      full either =
          written h points tags (λ file text. text ≡ migrated_text (length points)) d0 out0 out1 status d1 d1 i.file i.file reads later told since (migrated_text n) either done part
          (λ is_known. (
            empty is_known,
            is_full h version points tags d1 d1 i i heads (filled is_known) stands going reads,
            leaves_only h version points tags d1 d1 i i heads (filled is_known) stands going reads,
          ))
          (λ is_known. ap migrated_text count)

-- ---- what follows from its clauses

pub of_three : (status n : ℕ) → (n ≢ 5) → (n ≢ 6) → (n ≢ 8) → (status ≡ 5) ⊎ ((status ≡ 6) ⊎ (status ≡ 8)) → status ≡ n → ⊥
of_three status n a b c (inl e) is = a (sym is ∙ e)
of_three status n a b c (inr (inl e)) is = b (sym is ∙ e)
of_three status n a b c (inr (inr e)) is = c (sym is ∙ e)

not_filling : (status : ℕ) → IsFillStatus status → status ≡ 1 → ⊥
not_filling status (inl e) is = omega (arith, e, is)
not_filling status (inr (inl e)) is = omega (arith, e, is)
not_filling status (inr (inr (inl e))) is = omega (arith, e, is)
not_filling status (inr (inr (inr (inl e)))) is = omega (arith, e, is)
not_filling status (inr (inr (inr (inr (inl e))))) is = omega (arith, e, is)
not_filling status (inr (inr (inr (inr (inr e))))) is = omega (arith, e, is)

not_refusing : (status : ℕ) → (status ≡ 1) ⊎ ((status ≡ 4) ⊎ ((status ≡ 5) ⊎ ((status ≡ 6) ⊎ (status ≡ 8)))) → status ≡ 9 → ⊥
not_refusing status (inl e) is = omega (arith, e, is)
not_refusing status (inr (inl e)) is = omega (arith, e, is)
not_refusing status (inr (inr (inl e))) is = omega (arith, e, is)
not_refusing status (inr (inr (inr (inl e)))) is = omega (arith, e, is)
not_refusing status (inr (inr (inr (inr e)))) is = omega (arith, e, is)

-- with an empty new file and a sound old file of version 1 nothing is refused
module _ (faults : FaultIsNotOpen) (one : OneLiveSlot) (law : AuditFaultsAreUnsoundness) (new0 new1 old0 old1 : DiskState) (out0 out1 : SinkState) (status : ℕ) (is_known : IsTrue new0.is_known) (old_known : IsTrue old0.is_known) (empty : length new0.bytes ≡ 0)
    (head : Head) (points : List (List ℕ)) (tags : List ℕ) (old : IsOldFile head points tags old0.bytes) where
  abbrev Ends : Type 0
  Ends =
      (IsUnchanged new0 new1 × RefusesNew new0 new1 out0 out1 status)
      ⊎ ((IsTrue new0.is_known → length new0.bytes ≡ 0) × ((IsUnchanged new0 new1 × RefusesOld old0 old1 out0 out1 status) ⊎ Moves new0 new1 old0 out0 out1 status))

  one_not : Ends → status ≢ 1
  one_not (inl r) is = of_three status 1 (λ e. omega (arith, e)) (λ e. omega (arith, e)) (λ e. omega (arith, e)) r.1.statuses is
  one_not (inr (e, inl r)) is = let why = r.1.rejected is in not_rejected law one head points tags old0.bytes why.0 old (why.2 old_known)
  one_not (inr (e, inr m)) is = not_filling status m.statuses is

  six_not : Ends → status ≢ 6
  six_not (inl r) is = let some = (r.1.not_empty is).0 is_known in omega (arith, some, empty)
  six_not (inr (e, inl r)) is = let why = r.1.not_old is in not_unopened faults one head points tags old0.bytes why.0 old (why.2 old_known)
  six_not (inr (e, inr m)) is = let some = ((m.fills.unfilled.not_empty is).2 is_known).1 in omega (arith, some, empty)

  nine_not : Ends → status ≢ 9
  nine_not (inl r) is = of_three status 9 (λ e. omega (arith, e)) (λ e. omega (arith, e)) (λ e. omega (arith, e)) r.1.statuses is
  nine_not (inr (e, inl r)) is = not_refusing status r.1.statuses is
  nine_not (inr (e, inr m)) is = (m.fills.unfilled.damaged is).0 is_known

pub refuses_nothing : FaultIsNotOpen → OneLiveSlot → AuditFaultsAreUnsoundness → (new0 new1 old0 old1 : DiskState) (out0 out1 : SinkState) (status : ℕ) → Migrates new0 new1 old0 old1 out0 out1 status →
    RefusesNothing new0 old0 status
refuses_nothing faults one law new0 new1 old0 old1 out0 out1 status job is_known old_known empty head points tags old = (
  one_not faults one law new0 new1 old0 old1 out0 out1 status is_known old_known empty head points tags old job.ends,
  six_not faults one law new0 new1 old0 old1 out0 out1 status is_known old_known empty head points tags old job.ends,
  nine_not faults one law new0 new1 old0 old1 out0 out1 status is_known old_known empty head points tags old job.ends,
)

-- ---- its statuses and the disks' faults

statuses_of_fills : (status : ℕ) → IsFillStatus status → IsMigrateStatus status
statuses_of_fills status (inl e) = inl e
statuses_of_fills status (inr e) = inr (inr e)

statuses_of_old : (status : ℕ) → (status ≡ 1) ⊎ ((status ≡ 4) ⊎ ((status ≡ 5) ⊎ ((status ≡ 6) ⊎ (status ≡ 8)))) → IsMigrateStatus status
statuses_of_old status (inl e) = inr (inl e)
statuses_of_old status (inr (inl e)) = inr (inr (inl e))
statuses_of_old status (inr (inr (inl e))) = inr (inr (inr (inl e)))
statuses_of_old status (inr (inr (inr (inl e)))) = inr (inr (inr (inr (inl e))))
statuses_of_old status (inr (inr (inr (inr e)))) = inr (inr (inr (inr (inr (inl e)))))

statuses_of_new : (status : ℕ) → (status ≡ 5) ⊎ ((status ≡ 6) ⊎ (status ≡ 8)) → IsMigrateStatus status
statuses_of_new status (inl e) = inr (inr (inr (inl e)))
statuses_of_new status (inr (inl e)) = inr (inr (inr (inr (inl e))))
statuses_of_new status (inr (inr e)) = inr (inr (inr (inr (inr (inl e)))))

module _ (new0 new1 old0 old1 : DiskState) (out0 out1 : SinkState) (status : ℕ) (job : Migrates new0 new1 old0 old1 out0 out1 status) where
  pub migrate_statuses : IsMigrateStatus status
  migrate_statuses = elim job.ends [
    | inl r ↦ statuses_of_new status r.1.statuses
    | inr (e, inl r) ↦ statuses_of_old status r.1.statuses
    | inr (e, inr m) ↦ statuses_of_fills status m.statuses
  ]

  pub migrate_rose : status ≡ 5 → Rose new0.faults new1.faults ⊎ Rose old0.faults old1.faults
  migrate_rose is = elim job.ends [
    | inl r ↦ inl (r.1.disk is).0
    | inr (e, inl r) ↦ inr (r.1.disk is).0
    | inr (e, inr m) ↦ inl (m.fills.unfilled.disk is).0
  ]

-- an index that could not be filled
pub unfilled_fills : (h head : Head) (points : List (List ℕ)) (tags : List ℕ) (d0 d1 : DiskState) (out0 out1 : SinkState) (status : ℕ) → h ≡ renewed head → IsUnfilled h points tags d0 d1 out0 out1 status →
    (status ≡ 5) ⊎ ((status ≡ 6) ⊎ ((status ≡ 8) ⊎ (status ≡ 9))) → Fills (renewed head) points tags (λ file text. text ≡ migrated_text (length points)) d0 d1 out0 out1 status
unfilled_fills h head points tags d0 d1 out0 out1 status is un statuses =
    subst (λ (x : Head). Fills x points tags (λ file text. text ≡ migrated_text (length points)) d0 d1 out0 out1 status) is (unfilled h points tags (λ file text. text ≡ migrated_text (length points)) d0 out0 out1 status d1 un statuses)
