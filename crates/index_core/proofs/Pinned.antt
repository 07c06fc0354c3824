-- Pins of an index.
use Rattle.std.proofs.Common.{◌≡◌, ℕ, ◌≤◌, Bool, true, false, List, [], ◌∷◌, inl, refl, sym, subst, arith, Option, Some, None, Result, Ok, Err}
use Rattle.std.specs.Prelude.{IsTrue, MatchOption, ◌↔◌, ◌==◌, if◌then◌else◌, OnOk, OnErr}
use Rattle.std.specs.List.{AllByRecursion}
use Rattle.metric_laws.specs.Lists.{IsIn}
use Rattle.metric_laws.proofs.Published.{all_append, all_in, all_weaker, in-append_right}
use Rattle.disk_model.specs.Disk.{DiskState}
use Rattle.tree_shape.specs.declared.live.Live.{Live}
use Rattle.tree_shape.specs.Tree.{Nodes, IsNodePage}
use Rattle.page_store.specs.Reached.{IsReached}
use Rattle.page_store.specs.Reading.{IsWithin}
use Rattle.page_store.proofs.Published.{stand_on_pages}
use Rattle.free_pages.specs.Commits.{AreOutside, IsGuarded}
use Rattle.free_pages.specs.Keeping.{FreePages, IsFreeOrHeld, without_pin}
use Rattle.free_pages.proofs.Published.{guard, pins_keep}
use Rattle.index_core.specs.Causes.{IsListOf, IsMadeList}
use Rattle.index_core.specs.Files.{OpenFile, StandsOn, OnlyReads, nodes_on}
use Rattle.index_core.specs.Index.{OpenIndex, AreSpare, IsValidFree, StandsAlone}
use Rattle.index_core.specs.Pinning.{AreReached, LiesBesideTree, LiesOutside, pinned, unpinned}
use Rattle.index_core.proofs.Still.{stands_alone_still}
use Rattle.index_core.specs.Writing.{GuardsPages, IsExactFor}
use Rattle.index_core.proofs.Written.{exact_moved}

-- ---- one free list

pub pinned_valid : (t : Live) (f : FreePages) → IsValidFree t f → IsValidFree t (pinned t.generation f)
pinned_valid t f valid = record {
  within = valid.within;
  newest = valid.newest;
  pins = all_append (λ pin. pin ≤ t.generation) f.pins (t.generation ∷ []) valid.pins (omega arith, tt);
}

-- a list that got a pin, or stays as it was because memory ran out
pub pin_valid : {X E : Type 0} (t : Live) (f g : FreePages) (r : Result X E) → IsValidFree t f → OnOk r (g ≡ pinned t.generation f) → OnErr r (g ≡ f) → IsValidFree t g
pin_valid t f g (Ok x) valid ok err = subst (IsValidFree t) (sym ok) (pinned_valid t f valid)
pin_valid t f g (Err x) valid ok err = subst (IsValidFree t) (sym err) valid

without_all : (P : ℕ → Type 0) (generation : ℕ) (pins : List ℕ) → AllByRecursion P pins → AllByRecursion P (without_pin generation pins)
without_all P generation [] all = tt
without_all P generation (pin ∷ pins) all = tested (pin == generation) (without_all P generation pins all.1)
  where
    tested : (b : Bool) → AllByRecursion P (without_pin generation pins) → AllByRecursion P (if b then pins else pin ∷ without_pin generation pins)
    tested true rest = all.1
    tested false rest = (all.0, rest)

pub unpinned_valid : (t : Live) (f : FreePages) (generation : ℕ) → IsValidFree t f → IsValidFree t (unpinned generation f)
unpinned_valid t f generation valid = record {
  within = λ page i. valid.within page (((pins_keep f (without_pin generation f.pins) page).0).0 i);
  newest = valid.newest;
  pins = without_all (λ pin. pin ≤ t.generation) generation f.pins valid.pins;
}

-- a pin of the live generation guards the pages that are reached
pub pin_guards : (nodes : Nodes) (t : Live) (f : FreePages) (tree : List ℕ) → AreSpare nodes t f → AreReached nodes t.root tree → IsGuarded t.pages t.generation (pinned t.generation f) tree
pin_guards nodes t f tree spare reached =
    guard.begin t.pages t.generation (pinned t.generation f) tree (in-append_right f.pins (t.generation ∷ []) t.generation (inl refl))
    (all_weaker (IsReached nodes t.root) (IsWithin t.pages) tree (λ page r. all_in (IsNodePage t) spare.tree page spare.stands.within (stand page r)) reached)
    (λ page free i. spare.beside page free (stand page (all_in (IsReached nodes t.root) tree page reached i)))
  where
    stand : (page : ℕ) → IsReached nodes t.root page → IsIn page spare.tree
    stand page r = stand_on_pages.reached nodes t spare.tree page spare.stands r

-- ---- one index

-- an index whose free list was taken out, and put back with a pin or without
module _ {M : Type 0} (old : OpenIndex M) (file : OpenFile M) (f : FreePages) (before after : DiskState) (reads : OnlyReads old.file file before after)
    (list : IsListOf old before f) where
  pub pinned_guards : (tree : List ℕ) → AreSpare (nodes_on old.file before) old.file.live f → AreReached (nodes_on old.file before) old.file.live.root tree →
      GuardsPages old.file.live.generation tree (record old { file = file; free = Some (pinned old.file.live.generation f) })
  pinned_guards tree spare reached =
      subst (λ (o : OpenFile M). IsGuarded o.live.pages old.file.live.generation (pinned old.file.live.generation f) tree) (sym reads.rest)
      (pin_guards (nodes_on old.file before) old.file.live f tree spare reached)

  -- what was guarded stays so
  still_guarded : (g : FreePages) → ((generation : ℕ) (tree : List ℕ) → IsGuarded old.file.live.pages generation f tree → IsGuarded old.file.live.pages generation g tree) →
      (generation : ℕ) (tree : List ℕ) → GuardsPages generation tree old → GuardsPages generation tree (record old { file = file; free = Some g })
  still_guarded g stays generation tree guards =
      subst (λ (o : OpenFile M). IsGuarded o.live.pages generation g tree) (sym reads.rest) (stays generation tree (by_list old.free list guards))
    where
      by_list : (free : Option FreePages) → MatchOption free (IsMadeList old.file before f) (λ o. f ≡ o) → MatchOption free ⊥ (λ o. IsGuarded old.file.live.pages generation o tree) → IsGuarded old.file.live.pages generation f tree
      by_list None l i = absurd i
      by_list (Some o) l i = subst (λ (h : FreePages). IsGuarded old.file.live.pages generation h tree) (sym l) i

  pub pinned_guarded : (generation : ℕ) (tree : List ℕ) → GuardsPages generation tree old → GuardsPages generation tree (record old { file = file; free = Some (pinned old.file.live.generation f) })
  pinned_guarded = still_guarded (pinned old.file.live.generation f) (λ generation tree is. guard.pin old.file.live.pages generation old.file.live.generation f tree is)

  -- a list with the same free and held pages can be put back
  pub put_back_stands : (g : FreePages) → ((page : ℕ) → IsFreeOrHeld g page → IsFreeOrHeld f page) → StandsOn file after → StandsAlone old before →
      (IsTrue before.is_known → AreSpare (nodes_on old.file before) old.file.live f) → StandsAlone (record old { file = file; free = Some g }) after
  put_back_stands g same stands alone beside =
      stands_alone_still (record old { free = Some g }) file before after reads stands (record {
        stands = alone.stands;
        only = alone.only;
        spare = λ is_known. let spare = beside is_known in record { tree = spare.tree; stands = spare.stands; have = spare.have; beside = λ page i. spare.beside page (same page i) };
      })

  pub put_back_exact : (g : FreePages) → ((page : ℕ) → IsFreeOrHeld g page ↔ IsFreeOrHeld f page) → IsExactFor old.file f before → IsExactFor file g after
  put_back_exact g same exact = λ page. let moved = exact_moved f old.file file before after reads exact page in (λ i. moved.0 ((same page).0 i), λ both. (same page).1 (moved.1 both))

-- ---- unpins

-- an index whose free list lost a pin
module _ {M : Type 0} (old : OpenIndex M) (f : FreePages) (generation : ℕ) (is : old.free ≡ Some f) where
  pub unpinned_guarded : (other : ℕ) (tree : List ℕ) → IsIn other (without_pin generation f.pins) → GuardsPages other tree old → GuardsPages other tree (record old { free = Some (unpinned generation f) })
  unpinned_guarded other tree stays guards =
      guard.unpin old.file.live.pages other generation f tree stays (subst (λ (free : Option FreePages). MatchOption free ⊥ (λ o. IsGuarded old.file.live.pages other o tree)) is guards)

  pub unpinned_beside : (nodes : Nodes) → LiesBesideTree nodes old → LiesBesideTree nodes (record old { free = Some (unpinned generation f) })
  unpinned_beside nodes beside =
      let spare = subst (λ (free : Option FreePages). MatchOption free (Unit {0}) (AreSpare nodes old.file.live)) is beside in
      record { tree = spare.tree; stands = spare.stands; have = spare.have; beside = λ page i. spare.beside page (((pins_keep f (without_pin generation f.pins) page).0).0 i) }

  pub unpinned_outside : (tree : List ℕ) → LiesOutside tree old → LiesOutside tree (record old { free = Some (unpinned generation f) })
  unpinned_outside tree outside = λ page.
      let was = subst (λ (free : Option FreePages). MatchOption free (Unit {0}) (AreOutside old.file.live.pages tree)) is outside in
      let same = (pins_keep f (without_pin generation f.pins) page).0 in
      (λ i. (was page).0 (same.0 i), λ both. same.1 ((was page).1 both))
