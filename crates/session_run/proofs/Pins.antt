-- The pins of open cursors, and a cursor that is closed.
use Rattle.std.proofs.Common.{◌≡◌, ℕ, ◌==◌, Bool, true, false, List, [], ◌∷◌, ◌++◌, inl, inr, refl, sym, ap, subst, ◌∙◌, arith, Option, Some, None}
use Rattle.std.specs.Prelude.{MatchOption, filter, find, not}
use Rattle.std.specs.List.{AllByRecursion, AllZip, list_any}
use Rattle.metric_laws.specs.Lists.{IsIn}
use Rattle.metric_laws.proofs.Published.{in-append_left, in-append_right}
use Rattle.metric_laws.specs.Space.{Space}
use Rattle.disk_model.specs.Disk.{DiskState}
use Rattle.tree_shape.specs.Tree.{Nodes}
use Rattle.page_store.specs.Placing.{live_pages}
use Rattle.page_store.specs.Reading.{nodes_of, reading}
use Rattle.rows_text.specs.declared.reply.Reply.TheVariants as reply
use Rattle.rows_text.specs.Meaning.{Cursor, close_from}
use Rattle.plain_scan.specs.OpenCursors.{OpenCursors, with_cursors}
use Rattle.free_pages.specs.Keeping.{FreePages, without_pin}
use Rattle.index_core.specs.Files.{OpenFile, OnlyReads, StandsOn, nodes_on}
use Rattle.index_core.specs.Index.{OpenIndex, StandsAlone}
use Rattle.index_core.specs.Pinning.{HasPinned, IsPinned, LiesBesideTree, pinned, unpinned}
use Rattle.index_core.specs.Writing.{GuardsPages}
use Rattle.session_run.specs.declared.pinned.PinnedCursor.{PinnedCursor}
use Rattle.session_run.specs.declared.pinned.PinnedCursors.{PinnedCursors}
use Rattle.session_run.specs.Pinned.{IsKeptBy, StandFor, StandsFor}
use Rattle.session_run.specs.Steps.{HasClosed}
use Rattle.session_run.proofs.Carrying.{guards_pinned}
use Rattle.session_run.proofs.Standing.{others}

-- ---- one free list

pub same_of : (n m : ℕ) → (n == m) ≡ true → n ≡ m
same_of n m is = grind arith

apart_not : (other pin x : ℕ) → other ≡ pin → (other == x) ≡ false → (pin == x) ≡ true → ⊥
apart_not other pin x same apart is = grind arith

-- a pin that is given back at once
repinned_in : (pins : List ℕ) (x other : ℕ) → IsIn other pins → IsIn other (without_pin x (pins ++ x ∷ []))
repinned_in [] x other is = absurd is
repinned_in (pin ∷ pins) x other is = tested (pin == x) refl (λ more. repinned_in pins x other more)
  where
    tested : (b : Bool) → (pin == x) ≡ b → (IsIn other pins → IsIn other (without_pin x (pins ++ x ∷ []))) → IsIn other (without_pin x ((pin ∷ pins) ++ x ∷ []))
    tested true e deeper = rw e (elim is [
      | inl same ↦ in-append_right pins (x ∷ []) other (inl (same ∙ same_of pin x e))
      | inr more ↦ in-append_left pins (x ∷ []) other more
    ])
    tested false e deeper = rw e (elim is [
      | inl same ↦ inl same
      | inr more ↦ inr (deeper more)
    ])

-- a pin of another generation
other_in : (pins : List ℕ) (x other : ℕ) → (other == x) ≡ false → IsIn other pins → IsIn other (without_pin x pins)
other_in [] x other apart is = absurd is
other_in (pin ∷ pins) x other apart is = tested (pin == x) refl (λ more. other_in pins x other apart more)
  where
    tested : (b : Bool) → (pin == x) ≡ b → (IsIn other pins → IsIn other (without_pin x pins)) → IsIn other (without_pin x (pin ∷ pins))
    tested true e deeper = rw e (elim is [
      | inl same ↦ absurd (apart_not other pin x same apart e)
      | inr more ↦ more
    ])
    tested false e deeper = rw e (elim is [
      | inl same ↦ inl same
      | inr more ↦ inr (deeper more)
    ])

-- ---- one index

-- what an unpin says
abbrev pub IsUnpinned : {M : Type 0} → OpenIndex M → OpenIndex M → ℕ → Type 0
IsUnpinned old new generation = MatchOption old.free ⊥ (λ f. new ≡ record old { free = Some (unpinned generation f) })

pub unpinned_only : {M : Type 0} (old new : OpenIndex M) (generation : ℕ) → IsUnpinned old new generation → new ≡ record old { free = new.free }
unpinned_only {M} old new generation is = by_list old.free is
  where
    by_list : (free : Option FreePages) → MatchOption free ⊥ (λ f. new ≡ record old { free = Some (unpinned generation f) }) → new ≡ record old { free = new.free }
    by_list None is = absurd is
    by_list (Some f) is = is ∙ (λ i. record old { free = sym (ap (λ (x : OpenIndex M). x.free) is) i })

pub unpinned_pins : {M : Type 0} (old new : OpenIndex M) (generation : ℕ) (P : List ℕ → Type 0) → IsUnpinned old new generation → MatchOption old.free ⊥ (λ f. P (without_pin generation f.pins)) → MatchOption new.free ⊥ (λ f. P f.pins)
unpinned_pins {M} old new generation P is stays = by_list old.free is stays
  where
    by_list : (free : Option FreePages) → MatchOption free ⊥ (λ f. new ≡ record old { free = Some (unpinned generation f) }) → MatchOption free ⊥ (λ f. P (without_pin generation f.pins)) → MatchOption new.free ⊥ (λ f. P f.pins)
    by_list None is stays = absurd is
    by_list (Some f) is stays = subst (λ (i : OpenIndex M). MatchOption i.free ⊥ (λ g. P g.pins)) (sym is) stays

-- the live tree was pinned, and was so before
pub repinned : {M : Type 0} (old mid new : OpenIndex M) (generation other : ℕ) → IsPinned generation old → HasPinned generation old mid → IsUnpinned mid new generation → IsPinned other old → IsPinned other new
repinned {M} old mid new generation other was has is pins = unpinned_pins mid new generation (IsIn other) is (by_list old.free has pins)
  where
    by_list : (free : Option FreePages) → MatchOption free (MatchOption mid.free ⊥ (λ g. g.pins ≡ generation ∷ [])) (λ f. mid.free ≡ Some (pinned generation f)) → MatchOption free ⊥ (λ f. IsIn other f.pins) →
        MatchOption mid.free ⊥ (λ f. IsIn other (without_pin generation f.pins))
    by_list None has pins = absurd pins
    by_list (Some f) has pins = subst (λ (o : Option FreePages). MatchOption o ⊥ (λ g. IsIn other (without_pin generation g.pins))) (sym has) (repinned_in f.pins generation other pins)

-- the live tree is pinned
pub now_pinned : {M : Type 0} (old new : OpenIndex M) (generation : ℕ) → HasPinned generation old new → IsPinned generation new
now_pinned {M} old new generation has = by_list old.free has
  where
    of_one : (free : Option FreePages) → MatchOption free ⊥ (λ g. g.pins ≡ generation ∷ []) → MatchOption free ⊥ (λ g. IsIn generation g.pins)
    of_one None is = is
    of_one (Some g) is = subst (IsIn generation) (sym is) (inl refl)

    by_list : (free : Option FreePages) → MatchOption free (MatchOption new.free ⊥ (λ g. g.pins ≡ generation ∷ [])) (λ f. new.free ≡ Some (pinned generation f)) → MatchOption new.free ⊥ (λ f. IsIn generation f.pins)
    by_list None has = of_one new.free has
    by_list (Some f) has = subst (λ (o : Option FreePages). MatchOption o ⊥ (λ g. IsIn generation g.pins)) (sym has) (in-append_right f.pins (generation ∷ []) generation (inl refl))

-- with other pins an index stands where it stood
pub free_stands : {M : Type 0} (old new : OpenIndex M) (disk : DiskState) → new ≡ record old { free = new.free } → ((nodes : Nodes) → LiesBesideTree nodes old → LiesBesideTree nodes new) → StandsAlone old disk → StandsAlone new disk
free_stands {M} old new disk only beside alone = record {
  stands = subst (λ (f : OpenFile M). StandsOn f disk) (sym file) alone.stands;
  only = alone.only;
  spare = λ is_known. subst (λ (f : OpenFile M). LiesBesideTree (nodes_on f disk) new) (sym file) (beside (nodes_on old.file disk) (alone.spare is_known));
}
  where
    file : new.file ≡ old.file
    file = ap (λ (i : OpenIndex M). i.file) only

-- the live tree was pinned once more, and that pin was given back
module _ {M : Type 0} (old mid new : OpenIndex M) (before after : DiskState) (generation : ℕ) (was : IsPinned generation old) (has : HasPinned generation old mid) (is : IsUnpinned mid new generation)
    (reads : OnlyReads old.file mid.file before after) (rest : mid ≡ record old { file = mid.file; free = mid.free })
    (freed : (other : ℕ) (tree : List ℕ) → IsPinned other new → GuardsPages other tree mid → GuardsPages other tree new) where
  only : new ≡ record mid { free = new.free }
  only = unpinned_only mid new generation is

  pub repinned_reads : OnlyReads old.file new.file before after
  repinned_reads = subst (λ (f : OpenFile M). OnlyReads old.file f before after) (sym (ap (λ (i : OpenIndex M). i.file) only)) reads

  pub repinned_rest : new ≡ record old { file = new.file; free = new.free }
  repinned_rest = only ∙ (λ i. record (rest i) { file = sym (ap (λ (x : OpenIndex M). x.file) only) i; free = new.free })

  pub repinned_guarded : ((other : ℕ) (tree : List ℕ) → GuardsPages other tree old → GuardsPages other tree mid) → (other : ℕ) (tree : List ℕ) → GuardsPages other tree old → GuardsPages other tree new
  repinned_guarded guarded other tree guards = freed other tree (repinned old mid new generation other was has is (guards_pinned old other tree guards)) (guarded other tree guards)

  pub repinned_guards : (tree : List ℕ) → GuardsPages generation tree mid → GuardsPages generation tree new
  repinned_guards tree guards = freed generation tree (repinned old mid new generation generation was has is was) guards

-- ---- the open cursors

-- none of them has this generation, whose pin was given back
pub each_released : {M : Type 0} (s : Space) (old new : OpenIndex M) (generation : ℕ) (cursors : List PinnedCursor) → IsUnpinned old new generation → list_any (λ c. c.cursor.live.generation == generation) cursors ≡ false →
    AllByRecursion (IsKeptBy s old) cursors → AllByRecursion (IsKeptBy s new) cursors
each_released s old new generation [] is none kept = tt
each_released {M} s old new generation (c ∷ cursors) is none kept =
    tested (c.cursor.live.generation == generation) refl (λ rest. each_released s old new generation cursors is rest kept.1)
  where
    stays : (c.cursor.live.generation == generation) ≡ false → (free : Option FreePages) → MatchOption free ⊥ (λ f. IsIn c.cursor.live.generation f.pins) →
        MatchOption free ⊥ (λ f. IsIn c.cursor.live.generation (without_pin generation f.pins))
    stays e None pins = pins
    stays e (Some f) pins = other_in f.pins generation c.cursor.live.generation e pins

    tested : (b : Bool) → (c.cursor.live.generation == generation) ≡ b → (list_any (λ c. c.cursor.live.generation == generation) cursors ≡ false → AllByRecursion (IsKeptBy s new) cursors) →
        AllByRecursion (IsKeptBy s new) (c ∷ cursors)
    tested true e deeper = absurd (let x : true ≡ false = rw e at none in cc)
    tested false e deeper = (
      record {
        pinned = unpinned_pins old new generation (IsIn c.cursor.live.generation) is (stays e old.free kept.0.pinned);
        point = kept.0.point;
        few = kept.0.few;
      },
      deeper (rw e at none),
    )

-- a tree that some open cursor goes through is pinned
pub pinned_among : {M : Type 0} (s : Space) (index : OpenIndex M) (generation : ℕ) (cursors : List PinnedCursor) → list_any (λ c. c.cursor.live.generation == generation) cursors ≡ true → AllByRecursion (IsKeptBy s index) cursors →
    IsPinned generation index
pinned_among s index generation [] some kept = absurd (let x : false ≡ true = some in cc)
pinned_among {M} s index generation (c ∷ cursors) some kept =
    tested (c.cursor.live.generation == generation) refl (λ rest. pinned_among s index generation cursors rest kept.1)
  where
    tested : (b : Bool) → (c.cursor.live.generation == generation) ≡ b → (list_any (λ c. c.cursor.live.generation == generation) cursors ≡ true → IsPinned generation index) → IsPinned generation index
    tested true e deeper = subst (λ (n : ℕ). IsPinned n index) (same_of c.cursor.live.generation generation e) kept.0.pinned
    tested false e deeper = deeper (rw e at some)

-- guarded pages of the cursors that are left
still_zipped : {M : Type 0} (s : Space) (old new : OpenIndex M) (bytes : List ℕ) (cursors : List PinnedCursor) (meant : List Cursor) → new.file ≡ old.file →
    ((other : ℕ) (tree : List ℕ) → IsPinned other new → GuardsPages other tree old → GuardsPages other tree new) → AllByRecursion (IsKeptBy s new) cursors →
    AllZip (StandsFor s old bytes) cursors meant → AllZip (StandsFor s new bytes) cursors meant
still_zipped s old new bytes [] [] file guarded kept all = tt
still_zipped s old new bytes [] (m ∷ meant) file guarded kept all = absurd all
still_zipped s old new bytes (c ∷ cursors) [] file guarded kept all = absurd all
still_zipped {M} s old new bytes (c ∷ cursors) (m ∷ meant) file guarded kept all = (
  record {
    nodes = all.0.nodes;
    number = all.0.number;
    sound = all.0.sound;
    held = subst (λ (f : OpenFile M). (page : ℕ) → IsIn page (live_pages all.0.nodes c.cursor.live) → nodes_of (reading f.head.dim c.cursor.live.pages bytes) page ≡ all.0.nodes page) (sym file) all.0.held;
    guarded = guarded c.cursor.live.generation (live_pages all.0.nodes c.cursor.live) kept.0.pinned all.0.guarded;
    stands = all.0.stands;
    hits = all.0.hits;
    tags = all.0.tags;
  },
  still_zipped s old new bytes cursors meant file guarded kept.1 all.1,
)

-- the cursors that are left stand for those that are left
pub closed_by : {M : Type 0} (s : Space) (old new : OpenIndex M) (bytes : List ℕ) (pinned0 pinned1 : PinnedCursors) (opened : OpenCursors) (number : ℕ) (found : Cursor) → StandFor s old bytes pinned0 opened →
    pinned1.cursors.items ≡ filter (λ c. not (c.number == number)) pinned0.cursors.items → pinned1.next ≡ pinned0.next → new ≡ record old { free = new.free } →
    ((other : ℕ) (tree : List ℕ) → IsPinned other new → GuardsPages other tree old → GuardsPages other tree new) → AllByRecursion (IsKeptBy s new) pinned1.cursors.items →
    find (λ c. c.number == number) opened.cursors ≡ Some found → HasClosed s new bytes pinned1 opened number (reply.Closed number)
closed_by {M} s old new bytes pinned0 pinned1 opened number found stand items next only guarded kept named = record {
  cursors = record { cursors = filter (λ c. not (c.number == number)) opened.cursors; next = opened.next };
  stand = record {
    each = still_zipped s old new bytes pinned1.cursors.items (filter (λ c. not (c.number == number)) opened.cursors) (ap (λ (i : OpenIndex M). i.file) only) guarded kept
        (subst (λ (l : List PinnedCursor). AllZip (StandsFor s old bytes) l (filter (λ c. not (c.number == number)) opened.cursors)) (sym items)
        (others (StandsFor s old bytes) (StandsFor s old bytes) (λ c m is. is.number) (λ c m is. is) pinned0.cursors.items opened.cursors number stand.each));
    next = stand.next ∙ sym next;
  };
  meaning = λ objects. ap (λ (o : Option Cursor). close_from (with_cursors objects opened) number o) named;
}
