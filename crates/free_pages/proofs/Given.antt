-- The free pages of a file whose tree was walked.
use Rattle.std.proofs.Common.{◌≡◌, ℕ, zero, suc, ◌-◌, Bool, List, [], length, Result, Ok, refl, sym, ap, subst, ◌∙◌, arith}
use Rattle.std.specs.Prelude.{IsTrue}
use Rattle.std.specs.List.{AllByRecursion}
use Rattle.metric_laws.specs.Space.{Space}
use Rattle.tree_shape.specs.declared.live.Live.{Live}
use Rattle.tree_shape.specs.Tree.{IsSoundTree}
use Rattle.page_store.specs.declared.pages.PageFault.{PageFault}
use Rattle.page_store.specs.declared.pages.PageFault.TheVariants.{Disk, Bad, Outside, Memory, Repeats, Level}
use Rattle.page_store.specs.Numbers.{AreNumbers}
use Rattle.page_store.specs.Placing.{live_pages}
use Rattle.page_store.specs.Reading.{Read, IsWithin, nodes_of}
use Rattle.page_store.specs.Shelf.{Shelf, IsPassing}
use Rattle.free_pages.specs.Free.{AreOutsideTree}
use Rattle.free_pages.specs.Keeping.{IsKept}
use Rattle.free_pages.specs.Opened.{IsUnderWay}
use Rattle.free_pages.specs.Walk.{walked, outside_pages, tree_walk, IsWalkFault}
use Rattle.free_pages.proofs.Ascending.{ascends_weaker}
use Rattle.free_pages.proofs.SoundWalk.{sound_walk}
use Rattle.free_pages.proofs.Whole.{whole_tree}

done : (read : Read) (m : ℕ) (xs : List ℕ) → walked read m xs [] ≡ Ok xs
done read zero xs = refl
done read (suc m) xs = refl

module _ (t : Live) (old now : Shelf) (count : ℕ) (flags : List Bool) (free : List ℕ) (way : IsUnderWay old now t count flags []) (is : free ≡ outside_pages (length flags) way.opened) where
  free_is : free ≡ outside_pages t.pages way.opened
  free_is = is ∙ ap (λ (n : ℕ). outside_pages n way.opened) way.pages

  walk_is : IsTrue old.is_known → tree_walk old.read t ≡ Ok way.opened
  walk_is is_known = sym (way.walk is_known) ∙ done old.read (suc t.pages - length way.opened) way.opened

  pub outside_tree : IsTrue old.is_known → AreOutsideTree t old now free
  outside_tree is_known = record {
    tree = way.opened;
    walk = walk_is is_known;
    whole = whole_tree old.read t way.opened (walk_is is_known) (subst (λ (n : ℕ). AllByRecursion (IsWithin n) way.opened) way.pages way.flagged.within);
    outside = free_is;
    asked = way.asked;
    reads = way.reads;
  }

  pub outside_sound : (s : Space) → IsTrue old.is_known → IsSoundTree s (nodes_of old.read) t → free ≡ outside_pages t.pages (live_pages (nodes_of old.read) t)
  outside_sound s is_known sound =
      let a = walk_is is_known in
      let b = sound_walk s old.read t sound in
      let same : way.opened ≡ live_pages (nodes_of old.read) t = (cc) in
      free_is ∙ ap (outside_pages t.pages) same

pub fresh_kept : (pages spare newest : ℕ) (free : List ℕ) → AreNumbers pages free → IsKept (record { free = free; pins = []; held = []; spare = spare; newest = newest })
fresh_kept pages spare newest free given = record { free_ascend = ascends_weaker 0 3 free (omega arith) given.ascending; held_ascend = tt; apart = tt; pinned = tt }

pub passing : (old new : Shelf) (told : Result (List ℕ) PageFault) (tree : List ℕ) → told ≡ Ok tree → IsTrue old.is_known → (fault : PageFault) → IsWalkFault old new told fault → IsPassing fault
passing old new told tree is is_known Disk why = tt
passing old new told tree is is_known Memory why = tt
passing old new told tree is is_known (Bad p f) why = let e = why.1 is_known in absurd (cc)
passing old new told tree is is_known (Outside p) why = let e = why.1 is_known in absurd (cc)
passing old new told tree is is_known (Repeats p) why = let e = why.1 is_known in absurd (cc)
passing old new told tree is is_known (Level p) why = absurd why
