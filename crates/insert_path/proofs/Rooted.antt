-- The new root.
use Rattle.std.proofs.Common.{◌≡◌, ℕ, suc, ◌+◌, ◌≤◌, Bool, true, false, List, [], ◌∷◌, ◌++◌, refl, sym, ap, ◌∙◌, arith, length, map, subst, append-nil, length-append}
use Rattle.std.specs.Prelude.{Option, Some, None, IsTrue, ◌==◌, ◌&&◌}
use Rattle.std.specs.List.{AllByRecursion, flat_map}
use Rattle.std.proofs.lemmas.Bool.Decides.{nat_tests}
use Rattle.metric_laws.specs.Space.{Space}
use Rattle.metric_laws.proofs.Published.{all_append}
use Rattle.tree_shape.specs.declared.live.Live.{Live}
use Rattle.tree_shape.specs.declared.entry.Node.{Node}
use Rattle.tree_shape.specs.declared.entry.Node.TheVariants.{Inner}
use Rattle.tree_shape.specs.declared.entry.InnerEntry.{InnerEntry}
use Rattle.tree_shape.specs.Fill.{most_for}
use Rattle.tree_shape.specs.Tree.{Nodes, inner_entries, pages_at, times}
use Rattle.tree_shape.specs.Plain.{Plain, Tall, Branch, tree_at}
use Rattle.tree_growth.specs.Insertion.{Grown, One as Whole, Two as Halves2, inserted, new_root}
use Rattle.tree_shape.proofs.Published.{times-append}
use Rattle.node_page.specs.Nodes.{IsValidNode}
use Rattle.page_store.specs.declared.pages.PageFault.{PageFault}
use Rattle.page_store.specs.Reading.{nodes_of}
use Rattle.page_store.specs.Shelf.{Shelf}
use Rattle.page_store.proofs.Published.{IsStoredAt, branch_at, HoldsFrom, holds_after, trees_from, trees_more, pages_from, pages_more}
use Rattle.insert_path.specs.declared.faults.PlaceFault.{PlaceFault}
use Rattle.insert_path.specs.declared.faults.PlaceFault.TheVariants.{Page, Full, NoRoom, Worn, Memory}
use Rattle.insert_path.specs.declared.grew.Stem.{Stem}
use Rattle.insert_path.specs.declared.grew.Grew.{Grew}
use Rattle.insert_path.specs.declared.grew.Grew.TheVariants.{One, Two}
use Rattle.insert_path.specs.Placing.{place_fault, or_level, is_split, fresh_root}
use Rattle.page_store.specs.declared.pages.PageFault.TheVariants as page
use Rattle.page_store.specs.declared.pages.PageFault.TheVariants.{Disk, Bad, Outside, Repeats, Level}
use Rattle.insert_path.specs.Causes.{HasTreeCause, HasWalkCause, fault_of}
use Rattle.insert_path.specs.Roots.{HasRootCause}
use Rattle.insert_path.specs.Descent.{Plan, rules_of, root_entry, is_two, IsSmall, Roots, Descends}
use Rattle.insert_path.proofs.Holding.{grown_tree}
use Rattle.insert_path.proofs.Walked.{descends_parity, descends_faultless}
use Rattle.insert_path.proofs.Stored.{GrownStored}
use Rattle.insert_path.proofs.Paged.{grown_pages}
use Rattle.insert_path.proofs.Writable.{IsLong}

-- no new root: the insertion's fault is the root's
pub root_cause : (P : Plan) (old new : Shelf) (t : Live) (l0 l1 : List ℕ) (before nodes : List Node) (g : Grew) (f : PlaceFault) → Descends P old t.height t.root None l0 before l1 nodes g → HasRootCause t g f →
    HasTreeCause old new (place_fault P.space (rules_of P) old.read t P.object) f
root_cause P old new t l0 l1 before nodes g (Page fault) d cause =
    rw cause.0 (λ is_known.
    let high : (t.height == 14) ≡ true = let e = cause.1 in grind (arith, nat_tests) in
    let split : is_split (inserted (rules_of P) P.object t.height (tree_at (nodes_of old.read) t.height t.root)) ≡ true = sym (descends_parity P old is_known t.height t.root None l0 before l1 nodes g d) ∙ cause.2 in
    ap (λ (o : Option PageFault). or_level o ((t.height == 14) && is_split (inserted (rules_of P) P.object t.height (tree_at (nodes_of old.read) t.height t.root))) t.root) (descends_faultless P old is_known t.height t.root None l0 before l1 nodes g d)
    ∙ rw (high, split) refl)
root_cause P old new t l0 l1 before nodes g Full d cause = cause
root_cause P old new t l0 l1 before nodes g (NoRoom pages needed) d cause = cause
root_cause P old new t l0 l1 before nodes g Worn d cause = cause
root_cause P old new t l0 l1 before nodes g Memory d cause = tt

-- the walk stopped
pub walk_cause : (old new : Shelf) (first : Option PageFault) (f : PageFault) → HasWalkCause old new first f → HasTreeCause old new first (fault_of f)
walk_cause old new first Disk cause = cause
walk_cause old new first (Bad page fault) cause = cause
walk_cause old new first (Outside page) cause = cause
walk_cause old new first page.Memory cause = tt
walk_cause old new first (Repeats page) cause = cause
walk_cause old new first (Level page) cause = cause

-- a new root comes only below height 14, so there is no fault
pub root_faultless : (P : Plan) (old : Shelf) → IsTrue old.is_known → (t : Live) (l1 : List ℕ) (mid nodes : List Node) (g : Grew) (root height : ℕ) → Descends P old t.height t.root None [] [] l1 mid g → Roots P.number t.height g mid nodes root height →
    place_fault P.space (rules_of P) old.read t P.object ≡ None
root_faultless P old is_known t l1 mid nodes g root height d roots =
    ap (λ (o : Option PageFault). or_level o ((t.height == 14) && is_split (inserted (rules_of P) P.object t.height (tree_at (nodes_of old.read) t.height t.root))) t.root) (descends_faultless P old is_known t.height t.root None [] [] l1 mid g d)
    ∙ cases g (descends_parity P old is_known t.height t.root None [] [] l1 mid g d) roots
  where
    both : (a b : Bool) → (a && b) ≡ false → or_level None (a && b) t.root ≡ None
    both a b neither = rw neither refl

    second : (a b : Bool) → b ≡ false → (a && b) ≡ false
    second true b off = off
    second false b off = refl

    first : (a b : Bool) → a ≡ false → (a && b) ≡ false
    first a b off = rw off refl

    cases : (g : Grew) → is_two g ≡ is_split (inserted (rules_of P) P.object t.height (tree_at (nodes_of old.read) t.height t.root)) → Roots P.number t.height g mid nodes root height →
        or_level None ((t.height == 14) && is_split (inserted (rules_of P) P.object t.height (tree_at (nodes_of old.read) t.height t.root))) t.root ≡ None
    cases (One page) same roots = both (t.height == 14) _ (second (t.height == 14) _ (sym same))
    cases (Two c d) same roots = both (t.height == 14) _ (first (t.height == 14) _ (let low = roots.0 in let e : (t.height == 14) ≡ false = grind (arith, nat_tests) in e))

-- the earlier nodes stand where the later do
pub root_holds : (number : ℕ → ℕ) (h : ℕ) (file : Nodes) (g : Grew) (old new : List Node) (root height : ℕ) → Roots number h g old new root height → HoldsFrom file number 0 new → HoldsFrom file number 0 old
root_holds number h file (One page) old new root height roots holds = subst (HoldsFrom file number 0) roots.0 holds
root_holds number h file (Two c d) old new root height roots holds = (holds_after file number old (Inner (h + 1) (root_entry c ∷ root_entry d ∷ []) ∷ []) new roots.1 holds).0

abbrev pub tall : Nodes → ℕ → ℕ → Tall
tall file root height = record { height = height; tree = tree_at file height root }

stands : (number : ℕ → ℕ) (h : ℕ) (file : Nodes) (c d : Stem) (old new : List Node) (root height : ℕ) → Roots number h (Two c d) old new root height → HoldsFrom file number 0 new → file root ≡ Some (Inner (suc h) (root_entry c ∷ root_entry d ∷ []))
stands number h file c d old new root height roots holds =
    let e : h + 1 ≡ suc h = omega arith in
    ap file roots.2 ∙ (holds_after file number old (Inner (h + 1) (root_entry c ∷ root_entry d ∷ []) ∷ []) new roots.1 holds).1.0 ∙ ap (λ (l : ℕ). Some (Inner l (root_entry c ∷ root_entry d ∷ []))) e

above : (number : ℕ → ℕ) (h : ℕ) (c d : Stem) (old new : List Node) (root height : ℕ) → Roots number h (Two c d) old new root height → height ≡ suc h
above number h c d old new root height roots = let e = roots.3 in omega arith

abbrev pub topped : (h : ℕ) → List (Branch (Plain h)) → Tall
topped h bs = record { height = suc h; tree = bs }

-- the tree from the new root
pub root_tree : (number : ℕ → ℕ) (h : ℕ) (file : Nodes) (g : Grew) (old new : List Node) (root height : ℕ) → Roots number h g old new root height → HoldsFrom file number 0 new → tall file root height ≡ new_root h (grown_tree file h g)
root_tree number h file (One page) old new root height roots holds = rw (roots.1, roots.2) refl
root_tree number h file (Two c d) old new root height roots holds =
    let at = stands number h file c d old new root height roots holds in
    let up = above number h c d old new root height roots in
    ap (tall file root) up ∙ ap (λ (o : Option Node). topped h (map (branch_at file h) (inner_entries o))) at

-- the new root is stored
pub root_stored : (s : Space) (number : ℕ → ℕ) (h : ℕ) (file : Nodes) (g : Grew) (old new : List Node) (root height : ℕ) → Roots number h g old new root height → HoldsFrom file number 0 new → GrownStored s file h None g → IsStoredAt s file height None root
root_stored s number h file (One page) old new root height roots holds grown = rw (roots.1, roots.2) grown
root_stored s number h file (Two c d) old new root height roots holds grown =
    subst (λ (k : ℕ). IsStoredAt s file k None root) (sym (above number h c d old new root height roots))
    (root_entry c ∷ root_entry d ∷ [], stands number h file c d old new root height roots holds, ((refl, grown.0), ((refl, grown.1), tt)))

-- the pages from the new root
pub root_pages : (number : ℕ → ℕ) (h n : ℕ) (file : Nodes) (g : Grew) (old new : List Node) (root height : ℕ) → Roots number h g old new root height → HoldsFrom file number 0 new →
    times n (pages_at file height root) + times n (pages_from number 0 old) ≡ times n (grown_pages file h g) + times n (pages_from number 0 new)
root_pages number h n file (One page) old new root height roots holds = rw (roots.0, roots.1, roots.2) refl
root_pages number h n file (Two c d) old new root height roots holds =
    let here = ap (λ (k : ℕ). times n (pages_at file k root)) (above number h c d old new root height roots)
    ∙ ap (λ (o : Option Node). times n (root ∷ children o)) (stands number h file c d old new root height roots holds) in
    let more = pages_more number old (Inner (h + 1) (root_entry c ∷ root_entry d ∷ []) ∷ []) new n roots.1 in
    let mine = ap (λ (p : ℕ). times n (p ∷ [])) roots.2 in
    let a = times-append n (pages_at file h c.page) (pages_at file h d.page ++ []) in
    let b = times-append n (pages_at file h d.page) [] in
    let e = times-append n (pages_at file h c.page) (pages_at file h d.page) in omega (arith, here, more, mine, a, b, e)
  where
    children : Option Node → List ℕ
    children o = flat_map (λ (e : InnerEntry). pages_at file h e.child) (inner_entries o)

-- the new root is the last new subtree
pub root_fresh : (number : ℕ → ℕ) (h : ℕ) (file : Nodes) (g : Grew) (old new : List Node) (root height : ℕ) → Roots number h g old new root height → HoldsFrom file number 0 new →
    trees_from file number 0 new ≡ trees_from file number 0 old ++ fresh_root h (grown_tree file h g)
root_fresh number h file (One page) old new root height roots holds = ap (trees_from file number 0) roots.0 ∙ sym (append-nil (trees_from file number 0 old))
root_fresh number h file (Two c d) old new root height roots holds =
    trees_more file number old (Inner (h + 1) (root_entry c ∷ root_entry d ∷ []) ∷ []) new roots.1
    ∙ ap (λ (x : Tall). trees_from file number 0 old ++ x ∷ [])
    (ap (λ (p : ℕ). tall file p (h + 1)) (sym roots.2) ∙ ap (λ (k : ℕ). tall file root k) (let e : h + 1 ≡ suc h = omega arith in e)
    ∙ ap (λ (o : Option Node). topped h (map (branch_at file h) (inner_entries o))) (stands number h file c d old new root height roots holds))

pub root_long : (number : ℕ → ℕ) (h : ℕ) (g : Grew) (old new : List Node) (root height : ℕ) → Roots number h g old new root height → (t : Grown (Plain h)) → is_two g ≡ is_split t → length new ≡ length old + length (fresh_root h t)
root_long number h (One page) old new root height roots t same = cases t same
  where
    cases : (t : Grown (Plain h)) → false ≡ is_split t → length new ≡ length old + length (fresh_root h t)
    cases (Whole x) same = ap length roots.0 ∙ (let e : length old ≡ length old + 0 = omega arith in e)
    cases (Halves2 a b) same = cc
root_long number h (Two c d) old new root height roots t same = cases t same
  where
    cases : (t : Grown (Plain h)) → true ≡ is_split t → length new ≡ length old + length (fresh_root h t)
    cases (Whole x) same = cc
    cases (Halves2 a b) same = ap length roots.1 ∙ length-append old (Inner (h + 1) (root_entry c ∷ root_entry d ∷ []) ∷ [])

-- the new root can be written
pub root_writable : (dim : ℕ) (number : ℕ → ℕ) (h : ℕ) (g : Grew) (old new : List Node) (root height : ℕ) → 2 ≤ most_for dim → Roots number h g old new root height → IsLong dim g → IsSmall g → AllByRecursion (IsValidNode dim) old → AllByRecursion (IsValidNode dim) new
root_writable dim number h (One page) old new root height two roots long small all = subst (AllByRecursion (IsValidNode dim)) (sym roots.0) all
root_writable dim number h (Two c d) old new root height two roots long small all =
    subst (AllByRecursion (IsValidNode dim)) (sym roots.1)
    (all_append (IsValidNode dim) old (Inner (h + 1) (root_entry c ∷ root_entry d ∷ []) ∷ []) all
    (((let low = roots.0 in omega arith), (let low = roots.0 in omega arith), (omega arith), two, (((long.0, small.0, omega arith), ((long.1, small.1, omega arith), tt)))), tt))
