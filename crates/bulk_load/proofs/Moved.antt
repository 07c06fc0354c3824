-- Nodes that were numbered by themselves, among others.
use Rattle.std.proofs.Common.{◌≡◌, ℕ, zero, suc, ◌+◌, ◌-◌, ◌^◌, ◌<◌, ◌≤◌, List, [], ◌∷◌, ◌++◌, Option, Some, refl, sym, ap, ◌∙◌, arith, length, map, subst, get_or, Result, Ok, Err}
use Rattle.std.specs.Prelude.{All, false, nat_lt, IfOk, slice_get}
use Rattle.std.proofs.lemmas.Bool.Decides.{nat_tests}
use Rattle.std.specs.List.{AllByRecursion}
use Rattle.std.specs.declared.alloc.AllocError.{AllocError}
use Rattle.std.proofs.Common.{◌≢◌, drop, length-append}
use Rattle.std.proofs.Math.ListN.{set}
use Rattle.std.proofs.lemmas.List.{map-append, drop_more, drop-set-lt}
use Rattle.std.proofs.lemmas.List.Elements.{All-from_recursion}
use Rattle.metric_laws.specs.Space.{IsSpace}
use Rattle.metric_laws.proofs.Published.{all_append, all_weaker, length_map}
use Rattle.tree_shape.specs.declared.entry.InnerEntry.{InnerEntry}
use Rattle.tree_shape.specs.declared.entry.Node.{Node}
use Rattle.tree_shape.specs.declared.entry.Node.TheVariants.{Leaf, Inner}
use Rattle.tree_growth.specs.declared.rules.Group.{Group}
use Rattle.tree_growth.specs.Bulk.{Load, groups_at}
use Rattle.bulk_load.specs.Sets.{IsValidLoad, IsSetFor, IsGroupFor}
use Rattle.bulk_load.specs.Postorder.{is_top, last_of, below_groups, group_entry, group_entries, nodes_at}
use Rattle.bulk_load.specs.Apart.{apart, entry_to, node_to, AreChildrenBelow, IsMadeOf, AreMadeOf}
use Rattle.bulk_load.specs.declared.sharing.Made.{Made}
use Rattle.bulk_load.proofs.Committed.{nodes_some}
use Rattle.bulk_load.proofs.Looped.{groups_good}
use Rattle.bulk_load.proofs.Sizes.{increasing_few}
use Rattle.bulk_load.proofs.Suited.{increasing, nodes_few}

-- by itself each number is its own place
apart_is : (c : ℕ) → apart c ≡ c
apart_is c = let high : nat_lt c 0 ≡ false = grind (arith, nat_tests) in rw high (omega arith)

module _ (l : Load) (number : ℕ → ℕ) (i : ℕ) where
  abbrev moved : ℕ → ℕ
  moved c = number (i + c)

  long_by : (xs ys : List Node) → xs ≡ map (node_to moved) ys → length xs ≡ length ys
  long_by xs ys is = ap length is ∙ length_map (node_to moved) ys

  below_moved : (f b : Group → ℕ → List Node) → ((g : Group) (j : ℕ) → f g (i + j) ≡ map (node_to moved) (b g j)) → (j : ℕ) (gs : List Group) →
      below_groups f (i + j) gs ≡ map (node_to moved) (below_groups b j gs)
  below_moved f b each j [] = refl
  below_moved f b each j (g ∷ gs) =
      let long = long_by (f g (i + j)) (b g j) (each g j) in
      let place : i + j + length (f g (i + j)) ≡ i + (j + length (b g j)) = omega (arith, long) in
      ap (λ (xs : List Node). xs ++ below_groups f (i + j + length (f g (i + j))) gs) (each g j) ∙ ap (λ (k : ℕ). map (node_to moved) (b g j) ++ below_groups f k gs) place
      ∙ ap (λ (xs : List Node). map (node_to moved) (b g j) ++ xs) (below_moved f b each (j + length (b g j)) gs) ∙ sym (map-append (node_to moved) (b g j) (below_groups b (j + length (b g j)) gs))

  entries_moved : (seed : Option ℕ) (f b : Group → ℕ → List Node) → ((g : Group) (j : ℕ) → f g (i + j) ≡ map (node_to moved) (b g j)) → ((g : Group) (j : ℕ) → 1 ≤ length (b g j)) → (j : ℕ) (gs : List Group) →
      group_entries l number seed f (i + j) gs ≡ map (entry_to moved) (group_entries l apart seed b j gs)
  entries_moved seed f b each some j [] = refl
  entries_moved seed f b each some j (g ∷ gs) =
      let long = long_by (f g (i + j)) (b g j) (each g j) in
      let one = some g j in
      let place : i + j + length (f g (i + j)) ≡ i + (j + length (b g j)) = omega (arith, long) in
      let own = apart_is (j + length (b g j) - 1) in
      let child : last_of number (i + j) (f g (i + j)) ≡ moved (last_of apart j (b g j)) = ap number (let e : i + j + length (f g (i + j)) - 1 ≡ i + apart (j + length (b g j) - 1) = omega (arith, long, one, own) in e) in
      ap (λ (k : ℕ). group_entry l seed g k ∷ group_entries l number seed f (i + j + length (f g (i + j))) gs) child
      ∙ ap (λ (k : ℕ). group_entry l seed g (moved (last_of apart j (b g j))) ∷ group_entries l number seed f k gs) place
      ∙ ap (λ (es : List InnerEntry). group_entry l seed g (moved (last_of apart j (b g j))) ∷ es) (entries_moved seed f b each some (j + length (b g j)) gs)

  -- the nodes from place i on are those by themselves, with their children's pages
  pub nodes_moved : (h : ℕ) (seed : Option ℕ) (set : List ℕ) (j : ℕ) → nodes_at l number h seed set (i + j) ≡ map (node_to moved) (nodes_at l apart h seed set j)
  nodes_moved zero seed set j = refl
  nodes_moved (suc h) seed set j =
      inner (groups_at l (is_top seed) (suc h) set) (λ g k. nodes_at l number h (Some g.seed) g.members k) (λ g k. nodes_at l apart h (Some g.seed) g.members k)
      (λ g k. nodes_moved h (Some g.seed) g.members k) (λ g k. nodes_some l apart h (Some g.seed) g.members k)
    where
      inner : (gs : List Group) (f b : Group → ℕ → List Node) → ((g : Group) (k : ℕ) → f g (i + k) ≡ map (node_to moved) (b g k)) → ((g : Group) (k : ℕ) → 1 ≤ length (b g k)) →
          below_groups f (i + j) gs ++ Inner (suc h) (group_entries l number seed f (i + j) gs) ∷ [] ≡ map (node_to moved) (below_groups b j gs ++ Inner (suc h) (group_entries l apart seed b j gs) ∷ [])
      inner gs f b each some =
          ap (λ (xs : List Node). xs ++ Inner (suc h) (group_entries l number seed f (i + j) gs) ∷ []) (below_moved f b each j gs)
          ∙ ap (λ (es : List InnerEntry). map (node_to moved) (below_groups b j gs) ++ Inner (suc h) es ∷ []) (entries_moved seed f b each some j gs)
          ∙ sym (map-append (node_to moved) (below_groups b j gs) (Inner (suc h) (group_entries l apart seed b j gs) ∷ []))

  pub nodes_from : (h : ℕ) (seed : Option ℕ) (set : List ℕ) → nodes_at l number h seed set i ≡ map (node_to moved) (nodes_at l apart h seed set 0)
  nodes_from h seed set = ap (nodes_at l number h seed set) (let e : i ≡ i + 0 = omega arith in e) ∙ nodes_moved h seed set 0

-- a bound may be larger
children_more : (m n : ℕ) → m ≤ n → (node : Node) → AreChildrenBelow m node → AreChildrenBelow n node
children_more m n up (Leaf es) low = tt
children_more m n up (Inner level es) low = all_weaker (λ e. e.child < m) (λ e. e.child < n) es (λ e h. omega (arith, h, up)) low

module _ (l : Load) where
  below_low : (b : Group → ℕ → List Node) → ((g : Group) (j : ℕ) → AllByRecursion (AreChildrenBelow (j + length (b g j))) (b g j)) → (n j : ℕ) (gs : List Group) → j + length (below_groups b j gs) ≤ n →
      AllByRecursion (AreChildrenBelow n) (below_groups b j gs)
  below_low b each n j [] up = tt
  below_low b each n j (g ∷ gs) up =
      let more = length-append (b g j) (below_groups b (j + length (b g j)) gs) in
      all_append (AreChildrenBelow n) (b g j) (below_groups b (j + length (b g j)) gs)
      (all_weaker (AreChildrenBelow (j + length (b g j))) (AreChildrenBelow n) (b g j) (children_more (j + length (b g j)) n (omega (arith, more, up))) (each g j))
      (below_low b each n (j + length (b g j)) gs (omega (arith, more, up)))

  entries_low : (seed : Option ℕ) (b : Group → ℕ → List Node) → ((g : Group) (j : ℕ) → 1 ≤ length (b g j)) → (n j : ℕ) (gs : List Group) → j + length (below_groups b j gs) ≤ n →
      AllByRecursion (λ (e : InnerEntry). e.child < n) (group_entries l apart seed b j gs)
  entries_low seed b some n j [] up = tt
  entries_low seed b some n j (g ∷ gs) up =
      let more = length-append (b g j) (below_groups b (j + length (b g j)) gs) in
      let own = apart_is (j + length (b g j) - 1) in
      let one = some g j in (omega (arith, more, own, one, up), entries_low seed b some n (j + length (b g j)) gs (omega (arith, more, up)))

  -- by itself a subtree has no child number but its own
  pub nodes_low : (h : ℕ) (seed : Option ℕ) (set : List ℕ) (j : ℕ) → AllByRecursion (AreChildrenBelow (j + length (nodes_at l apart h seed set j))) (nodes_at l apart h seed set j)
  nodes_low zero seed set j = (tt, tt)
  nodes_low (suc h) seed set j =
      inner (groups_at l (is_top seed) (suc h) set) (λ g k. nodes_at l apart h (Some g.seed) g.members k) (λ g k. nodes_low h (Some g.seed) g.members k) (λ g k. nodes_some l apart h (Some g.seed) g.members k)
    where
      inner : (gs : List Group) (b : Group → ℕ → List Node) → ((g : Group) (k : ℕ) → AllByRecursion (AreChildrenBelow (k + length (b g k))) (b g k)) → ((g : Group) (k : ℕ) → 1 ≤ length (b g k)) →
          AllByRecursion (AreChildrenBelow (j + length (below_groups b j gs ++ Inner (suc h) (group_entries l apart seed b j gs) ∷ []))) (below_groups b j gs ++ Inner (suc h) (group_entries l apart seed b j gs) ∷ [])
      inner gs b each some =
          let n : ℕ = j + length (below_groups b j gs ++ Inner (suc h) (group_entries l apart seed b j gs) ∷ []) in
          let more = length-append (below_groups b j gs) (Inner (suc h) (group_entries l apart seed b j gs) ∷ []) in
          all_append (AreChildrenBelow n) (below_groups b j gs) (Inner (suc h) (group_entries l apart seed b j gs) ∷ []) (below_low b each n j gs (omega (arith, more))) (entries_low seed b some n j gs (omega (arith, more)), tt)

-- a subtree by itself is small
pub apart_few : (l : Load) → IsSpace l.space → IsValidLoad l → length l.points ≤ 2 ^ 24 → (h : ℕ) (g : Group) (set : List ℕ) (old : List Node) → IsGroupFor l h g → set ≡ g.members → old ≡ [] →
    length old + length (nodes_at l apart h (Some g.seed) set (length old)) ≤ 2 ^ 26
apart_few l space valid few h g set old good same none =
    subst (λ (ns : List Node). length ns + length (nodes_at l apart h (Some g.seed) set (length ns)) ≤ 2 ^ 26) (sym none)
    (subst (λ (ks : List ℕ). 0 + length (nodes_at l apart h (Some g.seed) ks 0) ≤ 2 ^ 26) (sym same)
    (let a = nodes_few l space valid apart h (Some g.seed) g.members 0 good.1 in
    let b = increasing_few (length l.points) g.members (All-from_recursion (λ k. k < length l.points) g.members good.1.places) (increasing 0 g.members good.1.ascends) in omega (arith, a, b, few)))

-- what was made one by one
pub all_made : (l : Load) (seed : Option ℕ) (h : ℕ) (gs : List Group) (parts : List (Result Made AllocError)) → length parts ≡ length gs →
    ((i : ℕ) (part : Result Made AllocError) (g : Group) → slice_get parts i ≡ Some part → i < length gs → IfOk part (IsMadeOf l seed h (get_or gs i g))) → AreMadeOf l seed h gs parts
all_made l seed h [] [] same each = tt
all_made l seed h [] (part ∷ parts) same each = absurd (omega arith)
all_made l seed h (g ∷ gs) [] same each = absurd (omega arith)
all_made l seed h (g ∷ gs) (Ok made ∷ parts) same each = (each 0 (Ok made) g refl (omega arith), all_made l seed h gs parts (omega arith) (λ i part other at low. each (suc i) part other at (omega arith)))
all_made l seed h (g ∷ gs) (Err e ∷ parts) same each = all_made l seed h gs parts (omega arith) (λ i part other at low. each (suc i) part other at (omega arith))

-- what holds of the entries that are left, after one of them is written
pub all_left : (P : InnerEntry → Type 0) (es : List InnerEntry) (k : ℕ) (x d : InnerEntry) → k < length es → AllByRecursion P (drop k es) → AllByRecursion P (drop (k + 1) (set es k x))
all_left P es k x d low all = subst (AllByRecursion P) (sym (drop-set-lt (k + 1) es k x (omega arith))) (subst (AllByRecursion P) (drop_more es k d low) all).1

-- every group of a set makes a subtree
pub all_good : (l : Load) → IsSpace l.space → IsValidLoad l → (level : ℕ) (seed : Option ℕ) (set : List ℕ) (gs : List Group) → level ≢ 0 → IsSetFor l (is_top seed) level set → gs ≡ groups_at l (is_top seed) level set →
    All (IsGroupFor l (level - 1)) gs
all_good l space valid level seed set gs high k is =
    All-from_recursion (IsGroupFor l (level - 1)) gs (subst (AllByRecursion (IsGroupFor l (level - 1))) (sym is) (groups_good l space valid level seed set high k))
