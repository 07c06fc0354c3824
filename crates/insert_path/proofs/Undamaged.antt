-- An insertion into a sound tree meets no fault of a page.
use Rattle.std.proofs.Common.{◌≡◌, ℕ, zero, suc, ◌+◌, ◌*◌, ◌^◌, ◌<◌, ◌≤◌, Bool, true, false, List, [], ◌∷◌, refl, sym, ap, ◌∙◌, arith, length, map, get_or}
use Rattle.std.specs.Prelude.{Option, Some, None, Result, Ok, Err, IsTrue, ◌==◌, ◌&&◌, if◌then◌else◌, count_by}
use Rattle.std.specs.List.{AllByRecursion, flat_map}
use Rattle.std.proofs.Math.Nat.{mul-le-mul_right, pow-succ'}
use Rattle.std.proofs.lemmas.List.Recursion.{is_count_by}
use Rattle.std.proofs.lemmas.Bool.Decides.{nat_tests}
use Rattle.metric_laws.specs.Space.{Space, IsSpace}
use Rattle.metric_laws.proofs.Published.{all_in, all_weaker, length_map}
use Rattle.tree_shape.specs.declared.live.Live.{Live}
use Rattle.tree_shape.specs.declared.entry.Node.{Node}
use Rattle.tree_shape.specs.declared.entry.Node.TheVariants.{Leaf, Inner}
use Rattle.tree_shape.specs.declared.entry.InnerEntry.{InnerEntry}
use Rattle.tree_shape.specs.Fill.{least_for, root_least}
use Rattle.tree_shape.specs.Tree.{Nodes, objects, objects_at, IsSoundAt, IsSoundEntry, IsSoundTree}
use Rattle.tree_shape.specs.Plain.{Object, Branch, Plain, object_of, objects_in, objects_of, tree_at, tree_of}
use Rattle.tree_shape.specs.Sound.{ObjectFits, BranchCovers, IsSoundPlain, IsSoundTall}
use Rattle.tree_growth.specs.Insertion.{Grown, One, Two, inserted, chosen, new_root, placed, rules}
use Rattle.tree_growth.proofs.Published.{chosen_low, insertion_adds_one, sound_has_entries, insertion_keeps_sound}
use Rattle.tree_shape.proofs.Published.{sound_without_pages, each_once_back, three_at_least, flat_long, not_higher, same_objects}
use Rattle.page_store.specs.declared.pages.PageFault.{PageFault}
use Rattle.page_store.specs.declared.pages.PageFault.TheVariants.{Disk, Bad, Outside, Memory, Repeats, Level}
use Rattle.page_store.specs.Shelf.{Shelf}
use Rattle.page_store.specs.Reading.{Read, nodes_of, node_or_none}
use Rattle.insert_path.specs.declared.faults.PlaceFault.{PlaceFault}
use Rattle.insert_path.specs.declared.faults.PlaceFault.TheVariants.{Page, Full, NoRoom, Worn, Memory as NoMemory}
use Rattle.insert_path.specs.Walk.{inner_ball, chosen_child, walk_fault, leaf_fault, inner_fault}
use Rattle.insert_path.specs.Causes.{HasTreeCause, IsUndamaged}
use Rattle.insert_path.specs.Placing.{place_fault, or_level, is_split}
use Rattle.insert_path.proofs.Level.{child_page}
use Rattle.page_store.proofs.Published.{in_get}

ok_of : (r : Result Node PageFault) (n : Node) → node_or_none r ≡ Some n → r ≡ Ok n
ok_of (Ok m) n is = cc
ok_of (Err f) n is = cc

-- the child that is chosen is a sound entry's
pub sound_walk : (s : Space) → s.dimension ≤ 64 → (read : Read) (p : List ℕ) (h least : ℕ) (above : Option (List ℕ)) (page : ℕ) → (0 < h → 1 ≤ least) → IsSoundAt s (nodes_of read) h least above page → walk_fault s read p h page ≡ None
sound_walk s few read p zero least above page some sound = ap (leaf_fault page) (ok_of (read page) (Leaf sound.0) sound.1)
sound_walk s few read p (suc h) least above page some sound =
    ap (inner_fault (walk_fault s read p h) s p (suc h) page) (ok_of (read page) (Inner (suc h) sound.0) sound.1)
    ∙ ap (λ (b : Bool). if b then walk_fault s read p h (chosen_child s p sound.0) else Some (Level page)) (let e : (suc h == suc h) ≡ true = grind (arith, nat_tests) in e)
    ∙ below sound.0 (let enough = sound.2.enough in let l = some (omega arith) in omega (arith, enough, l)) sound.3
    (λ e k. sound_walk s few read p h (least_for s.dimension) (Some e.point) e.child (λ high. let three = three_at_least s.dimension few in omega (arith, three)) k)
  where
    below : (es : List InnerEntry) → 0 < length es → AllByRecursion (λ e. IsSoundEntry s above (objects_at (nodes_of read) h e.child) e × IsSoundAt s (nodes_of read) h (least_for s.dimension) (Some e.point) e.child) es →
        ((e : InnerEntry) → IsSoundAt s (nodes_of read) h (least_for s.dimension) (Some e.point) e.child → walk_fault s read p h e.child ≡ None) → walk_fault s read p h (chosen_child s p es) ≡ None
    below [] any all deep = absurd (omega arith)
    below (e ∷ es) any all deep =
        let n = length_map inner_ball (e ∷ es) in
        let low : chosen s (map inner_ball (e ∷ es)) p < length (e ∷ es) = let c = chosen_low s (map inner_ball (e ∷ es)) p (omega (arith, n)) in omega (arith, c, n) in
        let mine : InnerEntry = get_or (e ∷ es) (chosen s (map inner_ball (e ∷ es)) p) e in
        ap (walk_fault s read p h) (named (e ∷ es) e low) ∙ deep (get_or (e ∷ es) (chosen s (map inner_ball (e ∷ es)) p) e)
        (all_in (λ (e : InnerEntry). IsSoundEntry s above (objects_at (nodes_of read) h e.child) e × IsSoundAt s (nodes_of read) h (least_for s.dimension) (Some e.point) e.child) (e ∷ es) _ all
        (in_get (e ∷ es) (chosen s (map inner_ball (e ∷ es)) p) e low)).1
      where
        named : (xs : List InnerEntry) (z : InnerEntry) → chosen s (map inner_ball xs) p < length xs → chosen_child s p xs ≡ (get_or xs (chosen s (map inner_ball xs) p) z).child
        named xs z low = child_page xs (chosen s (map inner_ball xs) p) (get_or xs (chosen s (map inner_ball xs) p) z) low (same_or xs (chosen s (map inner_ball xs) p) z low)
          where
            same_or : (ys : List InnerEntry) (i : ℕ) (z : InnerEntry) → i < length ys → get_or ys i z ≡ get_or ys i (get_or ys i z)
            same_or [] i z low = absurd (omega arith)
            same_or (y ∷ ys) zero z low = refl
            same_or (y ∷ ys) (suc i) z low = same_or ys i z (omega arith)

-- a sound tree has many objects
pub plain_many : (s : Space) → s.dimension ≤ 64 → (h least : ℕ) (t : Plain h) → IsSoundPlain s h least t → least * 3 ^ h ≤ length (objects_in h t)
plain_many s few zero least os sound = let e = sound.0.enough in omega (arith, e)
plain_many s few (suc h) least bs sound = many bs sound.0.enough (each bs (λ b k. plain_many s few h (least_for s.dimension) b.below k) sound.1)
  where
    child : (b : Branch (Plain h)) → least_for s.dimension * 3 ^ h ≤ length (objects_in h b.below) → 3 ^ suc h ≤ length (objects_in h b.below)
    child b many = let three = mul-le-mul_right {m = 3} {n = least_for s.dimension} (3 ^ h) (three_at_least s.dimension few) in let power = pow-succ' 3 h in omega (arith, many, three, power)

    each : (bs : List (Branch (Plain h))) → ((b : Branch (Plain h)) → IsSoundPlain s h (least_for s.dimension) b.below → least_for s.dimension * 3 ^ h ≤ length (objects_in h b.below)) →
        AllByRecursion (λ b. IsTrue (s.is_point b.point) × BranchCovers s h b × IsSoundPlain s h (least_for s.dimension) b.below) bs → AllByRecursion (λ b. 3 ^ suc h ≤ length (objects_in h b.below)) bs
    each bs ih all = all_weaker (λ (b : Branch (Plain h)). IsTrue (s.is_point b.point) × BranchCovers s h b × IsSoundPlain s h (least_for s.dimension) b.below) (λ (b : Branch (Plain h)). 3 ^ suc h ≤ length (objects_in h b.below)) bs (λ b k. child b (ih b k.2)) all

    many : (bs : List (Branch (Plain h))) → least ≤ length bs → AllByRecursion (λ b. 3 ^ suc h ≤ length (objects_in h b.below)) bs → least * 3 ^ suc h ≤ length (flat_map (λ b. objects_in h b.below) bs)
    many bs enough all =
        let long = flat_long (λ (b : Branch (Plain h)). objects_in h b.below) (3 ^ suc h) bs all in
        let wide = mul-le-mul_right {m = least} {n = length bs} (3 ^ suc h) enough in omega (arith, long, wide)

long_count : (os : List Object) → length os ≡ count_by (λ o. true) os
long_count os = is_count_by length (λ o. true) refl (λ o os. omega arith) os

-- a sound tree of fewer than 2^24 objects grows to no height above 14
pub not_split : (s : Space) → IsSpace s → (promote split : ℕ) (nodes : Nodes) (t : Live) (o : Object) → ObjectFits s o → IsSoundTree s nodes t → t.count < 2 ^ 24 → t.height ≡ 14 →
    is_split (inserted (rules s promote split) o t.height (tree_at nodes t.height t.root)) ≡ false
not_split s space promote split nodes t o is_point sound small high = cases (inserted (rules s promote split) o t.height (tree_at nodes t.height t.root)) grown count
  where
    was : IsSoundTall s (tree_of nodes t)
    was = sound_without_pages s nodes t.height (root_least t.height) None t.root sound.parts

    grown : IsSoundTall s (placed s promote split o (tree_of nodes t))
    grown = insertion_keeps_sound s space promote split o is_point (tree_of nodes t) was

    counted : length (objects_of (tree_of nodes t)) ≡ t.count
    counted = ap length (same_objects nodes t.height t.root) ∙ length_map object_of (objects nodes t) ∙ sym (length_map (λ e. e.id) (objects nodes t)) ∙ (each_once_back t.count (map (λ e. e.id) (objects nodes t)) sound.ids).2

    count : length (objects_of (placed s promote split o (tree_of nodes t))) ≡ t.count + 1
    count =
        let more = insertion_adds_one s promote split o (tree_of nodes t) (sound_has_entries s space.few_coordinates (tree_of nodes t) was) (λ o. true) in
        let a = long_count (objects_of (placed s promote split o (tree_of nodes t))) in
        let b = long_count (objects_of (tree_of nodes t)) in
        let c = counted in omega (arith, more, a, b, c)

    cases : (g : Grown (Plain t.height)) → IsSoundTall s (new_root t.height g) → length (objects_of (new_root t.height g)) ≡ t.count + 1 → is_split g ≡ false
    cases (One x) sound count = refl
    cases (Two c d) sound count =
        let many = plain_many s space.few_coordinates (suc t.height) 2 (c ∷ d ∷ []) sound in
        let high' = not_higher (suc t.height) (omega (arith, high)) in absurd (omega (arith, many, high', count, small))

-- an insertion into a sound tree meets no fault
pub sound_faultless : (s : Space) → IsSpace s → (promote split : ℕ) (read : Read) (t : Live) (o : Object) → ObjectFits s o → IsSoundTree s (nodes_of read) t → t.count < 2 ^ 24 → place_fault s (rules s promote split) read t o ≡ None
sound_faultless s space promote split read t o is_point sound small =
    ap (λ (f : Option PageFault). or_level f ((t.height == 14) && is_split (inserted (rules s promote split) o t.height (tree_at (nodes_of read) t.height t.root))) t.root)
    (sound_walk s space.few_coordinates read o.point t.height (root_least t.height) None t.root (some t.height) sound.parts)
    ∙ last (t.height == 14) refl
  where
    some : (h : ℕ) → 0 < h → 1 ≤ root_least h
    some zero high = absurd (omega arith)
    some (suc h) high = omega arith

    last : (b : Bool) → (t.height == 14) ≡ b → or_level None ((t.height == 14) && is_split (inserted (rules s promote split) o t.height (tree_at (nodes_of read) t.height t.root))) t.root ≡ None
    last true e = let off = not_split s space promote split (nodes_of read) t o is_point sound small (let h : t.height ≡ 14 = grind (arith, nat_tests) in h) in rw (e, off) refl
    last false e = rw e refl

pub tree_undamaged : (old new : Shelf) (first : Option PageFault) (f : PlaceFault) → HasTreeCause old new first f → IsTrue old.is_known → first ≡ None → IsUndamaged f
tree_undamaged old new first (Page Disk) cause is_known none = tt
tree_undamaged old new first (Page (Bad page fault)) cause is_known none = absurd (let is = cause is_known in cc)
tree_undamaged old new first (Page (Outside page)) cause is_known none = absurd (let is = cause.1 is_known in cc)
tree_undamaged old new first (Page Memory) cause is_known none = cause
tree_undamaged old new first (Page (Repeats page)) cause is_known none = cause
tree_undamaged old new first (Page (Level page)) cause is_known none = absurd (let is = cause is_known in cc)
tree_undamaged old new first Full cause is_known none = tt
tree_undamaged old new first (NoRoom pages needed) cause is_known none = tt
tree_undamaged old new first Worn cause is_known none = tt
tree_undamaged old new first NoMemory cause is_known none = tt
