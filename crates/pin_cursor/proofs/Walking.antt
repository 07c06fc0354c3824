-- A cursor is a walk by child numbers.
use Rattle.std.proofs.Common.{◌≡◌, ℕ, ◌+◌, ◌≤◌, List, [], ◌∷◌, ◌++◌, refl, sym, ap, subst, inl, arith, Option, Some, IsSome}
use Rattle.std.specs.Prelude.{map, if◌then◌else◌, ◌==◌, IsPermutation}
use Rattle.metric_laws.specs.Lists.{IsIn}
use Rattle.metric_laws.specs.Space.{Space}
use Rattle.metric_laws.proofs.Published.{map-in}
use Rattle.tree_shape.specs.declared.entry.InnerEntry.{InnerEntry}
use Rattle.tree_shape.specs.declared.entry.Node.{Node}
use Rattle.tree_shape.specs.Tree.{Nodes, inner_entries, times}
use Rattle.tree_shape.proofs.Published.{times-append}
use Rattle.nearest_search.specs.Walks.{HasOpened, OpensBefore, named_of}
use Rattle.pin_cursor.specs.declared.waiting.Subtree.{Subtree}
use Rattle.pin_cursor.specs.Cursor.{subtree_of}
use Rattle.nearest_search.specs.Counts.{total}
use Rattle.nearest_search.proofs.Published.{in-permutation_back, total-append, total-permutation}

abbrev one_at : ℕ → Subtree → ℕ
one_at k x = if x.page == k then 1 else 0

abbrev pub pages : List Subtree → List ℕ
pages xs = map (λ x. x.page) xs

times_pages : (k : ℕ) (xs : List Subtree) → times k (pages xs) ≡ total (one_at k) xs
times_pages k [] = refl
times_pages k (x ∷ xs) = ap (λ n. one_at k x + n) (times_pages k xs)

-- the subtrees of a node are those that it names
times_named : (s : Space) (q : List ℕ) (k : ℕ) (es : List InnerEntry) → total (one_at k) (map (subtree_of s q) es) ≡ times k (map (λ e. e.child) es)
times_named s q k [] = refl
times_named s q k (e ∷ es) = ap (λ n. (if e.child == k then 1 else 0) + n) (times_named s q k es)

module _ (nodes : Nodes) (start : List ℕ) (count : ℕ) (xs rest : List Subtree) (x : Subtree) (popped : IsPermutation xs (x ∷ rest)) (so_far : HasOpened nodes start count (pages xs)) where
  waits : IsIn x.page (pages xs)
  waits = map-in (λ (y : Subtree). y.page) xs x (in-permutation_back xs (x ∷ rest) x popped (inl refl))

  -- a subtree was opened
  pub walk_opens : (s : Space) (q : List ℕ) (node : Node) (after : List Subtree) → nodes x.page ≡ Some node → IsPermutation (map (subtree_of s q) (inner_entries (Some node)) ++ rest) after →
      HasOpened nodes start (count + 1) (pages after)
  walk_opens s q node after is pushed = record {
    opened = x.page ∷ so_far.opened;
    walk = (pages xs, so_far.walk, waits, subst IsSome (sym is) refl, counts);
    count_is = let c = so_far.count_is in omega arith;
  }
    where
      counts : (k : ℕ) → times k (x.page ∷ pages after) ≤ times k (pages xs ++ named_of nodes x.page)
      counts k =
          let a = times-append k (pages xs) (named_of nodes x.page) in
          let named : times k (named_of nodes x.page) ≡ times k (map (λ e. e.child) (inner_entries (Some node))) =
          ap (λ (n : Option Node). times k (map (λ e. e.child) (inner_entries n))) is in
          let old = times_pages k xs in
          let new = times_pages k after in
          let taken = total-permutation (one_at k) xs (x ∷ rest) popped in
          let put = total-permutation (one_at k) (map (subtree_of s q) (inner_entries (Some node)) ++ rest) after pushed in
          let both = total-append (one_at k) (map (subtree_of s q) (inner_entries (Some node))) rest in
          let same = times_named s q k (inner_entries (Some node)) in
          omega arith

  -- a walk by child numbers reaches a waiting subtree after opening as many pages
  pub opens_before : (most : ℕ) → count ≡ most → OpensBefore nodes start most x.page
  opens_before most is = (pages xs, subst (λ (n : ℕ). HasOpened nodes start n (pages xs)) is so_far, waits)
