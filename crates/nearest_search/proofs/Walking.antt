-- The search is a walk by child numbers.
use Rattle.std.proofs.Common.{◌≡◌, ℕ, ◌+◌, ◌≤◌, List, [], ◌∷◌, ◌++◌, refl, sym, ap, subst, inl, arith, Option, Some, IsSome}
use Rattle.std.specs.Prelude.{map, if◌then◌else◌, ◌==◌, IsPermutation}
use Rattle.metric_laws.specs.Lists.{IsIn}
use Rattle.metric_laws.proofs.Published.{map-in}
use Rattle.tree_shape.specs.declared.entry.InnerEntry.{InnerEntry}
use Rattle.tree_shape.specs.declared.entry.Node.{Node}
use Rattle.tree_shape.specs.declared.entry.Node.TheVariants.{Leaf, Inner}
use Rattle.tree_shape.specs.Tree.{Nodes, inner_entries, times}
use Rattle.tree_shape.proofs.Published.{times-append}
use Rattle.log_model.specs.declared.marks.Mark.{Mark}
use Rattle.log_model.specs.declared.marks.Mark.TheVariants.{Skip, Far, Near}
use Rattle.log_model.specs.Walk.{Search, least_marks, near_ones}
use Rattle.nearest_search.specs.declared.pending.Pending.{Pending}
use Rattle.nearest_search.specs.Counts.{total}
use Rattle.nearest_search.specs.Machine.{pending_of, pendings_of}
use Rattle.nearest_search.specs.Walks.{HasOpened, OpensBefore, named_of}
use Rattle.nearest_search.proofs.Totals.{in-permutation_back, total-append, total-map, total-permutation}

abbrev one_at : ℕ → Pending → ℕ
one_at k x = if x.page == k then 1 else 0

abbrev pub pages : List Pending → List ℕ
pages xs = map (λ x. x.page) xs

times_pages : (k : ℕ) (xs : List Pending) → times k (pages xs) ≡ total (one_at k) xs
times_pages k [] = refl
times_pages k (x ∷ xs) = ap (λ n. one_at k x + n) (times_pages k xs)

near_few : (k : ℕ) (es : List InnerEntry) (ms : List Mark) → total (λ e. if e.child == k then 1 else 0) (near_ones es ms) ≤ times k (map (λ e. e.child) es)
near_few k [] ms = omega arith
near_few k (e ∷ es) [] = omega arith
near_few k (e ∷ es) (Skip ∷ ms) = let ih = near_few k es ms in omega arith
near_few k (e ∷ es) (Far ∷ ms) = let ih = near_few k es ms in omega arith
near_few k (e ∷ es) (Near ∷ ms) = let ih = near_few k es ms in omega arith

-- a node queues no page more often than it names it
queued_few : (k : ℕ) (f : Search) (above : Option ℕ) (node : Node) → total (one_at k) (pendings_of f above node) ≤ times k (map (λ e. e.child) (inner_entries (Some node)))
queued_few k f above (Leaf es) = omega arith
queued_few k f above (Inner level es) =
    let few = near_few k es (least_marks f above (Inner level es)) in
    let same = total-map (one_at k) (pending_of f) (near_ones es (least_marks f above (Inner level es))) in
    omega arith

module _ (nodes : Nodes) (start : List ℕ) (count : ℕ) (queue rest : List Pending) (next : Pending) (popped : IsPermutation queue (next ∷ rest)) (so_far : HasOpened nodes start count (pages queue)) where
  next_waits : IsIn next.page (pages queue)
  next_waits = map-in (λ (x : Pending). x.page) queue next (in-permutation_back queue (next ∷ rest) next popped (inl refl))

  -- the next subtree was opened
  pub walk_opens : (f : Search) (above : Option ℕ) (node : Node) (after : List Pending) → nodes next.page ≡ Some node → IsPermutation (pendings_of f above node ++ rest) after →
      HasOpened nodes start (count + 1) (pages after)
  walk_opens f above node after is pushed = record {
    opened = next.page ∷ so_far.opened;
    walk = (pages queue, so_far.walk, next_waits, subst IsSome (sym is) refl, counts);
    count_is = let c = so_far.count_is in omega arith;
  }
    where
      counts : (k : ℕ) → times k (next.page ∷ pages after) ≤ times k (pages queue ++ named_of nodes next.page)
      counts k =
          let a = times-append k (pages queue) (named_of nodes next.page) in
          let named : times k (named_of nodes next.page) ≡ times k (map (λ e. e.child) (inner_entries (Some node))) =
          ap (λ (n : Option Node). times k (map (λ e. e.child) (inner_entries n))) is in
          let old = times_pages k queue in
          let new = times_pages k after in
          let taken = total-permutation (one_at k) queue (next ∷ rest) popped in
          let put = total-permutation (one_at k) (pendings_of f above node ++ rest) after pushed in
          let both = total-append (one_at k) (pendings_of f above node) rest in
          let few = queued_few k f above node in
          omega arith

  -- the next subtree comes behind as many
  pub opens_before : (most : ℕ) → count ≡ most → OpensBefore nodes start most next.page
  opens_before most is = (pages queue, subst (λ (n : ℕ). HasOpened nodes start n (pages queue)) is so_far, next_waits)
