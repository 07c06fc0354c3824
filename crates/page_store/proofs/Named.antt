-- The pages that the nodes of some pages name.
use Rattle.std.proofs.Common.{◌≡◌, ℕ, ◌+◌, ◌≤◌, Bool, true, false, List, [], ◌∷◌, ◌++◌, refl, ap, ◌∙◌, arith, Some}
use Rattle.std.specs.Prelude.{◌==◌, if◌then◌else◌, cond, filter, map, not}
use Rattle.std.specs.List.{flat_map}
use Rattle.std.proofs.lemmas.Bool.Decides.{nat_tests}
use Rattle.metric_laws.proofs.Published.{flat_map-append}
use Rattle.tree_shape.specs.declared.entry.Node.{Node}
use Rattle.tree_shape.specs.Tree.{Nodes, inner_entries, times}
use Rattle.tree_shape.proofs.Published.{times-append, counted}
use Rattle.page_store.specs.Reached.{named_in}
use Rattle.page_store.specs.Numbers.{numbered}
use Rattle.page_store.specs.Succession.{named_by, without}

-- the pages that one page's node names
abbrev pub in_node : Nodes → ℕ → List ℕ
in_node nodes page = map (λ e. e.child) (inner_entries (nodes page))

-- ---- numbers in a filtered list

pub times-kept : (p : ℕ → Bool) (k : ℕ) (xs : List ℕ) → p k ≡ true → times k (filter p xs) ≡ times k xs
times-kept p k [] e = refl
times-kept p k (x ∷ xs) e = cases (p x) refl (times-kept p k xs e)
  where
    cases : (b : Bool) → p x ≡ b → times k (filter p xs) ≡ times k xs → times k (cond b (x ∷ filter p xs) (filter p xs)) ≡ times k (x ∷ xs)
    cases true passes ih = omega arith
    cases false stops ih = other (x == k) refl
      where
        other : (b : Bool) → (x == k) ≡ b → times k (filter p xs) ≡ (if b then 1 else 0) + times k xs
        other true same = let s : x ≡ k = grind (arith, nat_tests) in let both : p x ≡ p k = ap p s in absurd (cc)
        other false same = omega arith

pub times-dropped : (p : ℕ → Bool) (k : ℕ) (xs : List ℕ) → p k ≡ false → times k (filter p xs) ≡ 0
times-dropped p k [] e = refl
times-dropped p k (x ∷ xs) e = cases (p x) refl (times-dropped p k xs e)
  where
    cases : (b : Bool) → p x ≡ b → times k (filter p xs) ≡ 0 → times k (cond b (x ∷ filter p xs) (filter p xs)) ≡ 0
    cases false stops ih = ih
    cases true passes ih = other (x == k) refl
      where
        other : (b : Bool) → (x == k) ≡ b → (if b then 1 else 0) + times k (filter p xs) ≡ 0
        other true same = let s : x ≡ k = grind (arith, nat_tests) in let both : p x ≡ p k = ap p s in absurd (cc)
        other false same = omega arith

-- ---- a list without one of its pages

abbrev removed : ℕ → List ℕ → List ℕ
removed p [] = []
removed p (x ∷ xs) = if x == p then xs else x ∷ removed p xs

module _ (p k : ℕ) where
  times-removed : (tree : List ℕ) → 1 ≤ times p tree → times k tree ≡ times k (removed p tree) + (if p == k then 1 else 0)
  times-removed [] some = absurd (omega arith)
  times-removed (x ∷ xs) some = tested (x == p) refl (times-removed xs)
    where
      tested : (b : Bool) → (x == p) ≡ b → (1 ≤ times p xs → times k xs ≡ times k (removed p xs) + (if p == k then 1 else 0)) →
          times k (x ∷ xs) ≡ times k (if b then xs else x ∷ removed p xs) + (if p == k then 1 else 0)
      tested true e ih = let s : x ≡ p = grind (arith, nat_tests) in let c : ◌≡◌ {A = ℕ} (if x == k then 1 else 0) (if p == k then 1 else 0) = ap (λ (y : ℕ). if y == k then 1 else 0) s in omega arith
      tested false e ih = let z : ◌≡◌ {A = ℕ} (if x == p then 1 else 0) 0 = ap (λ (b : Bool). if b then 1 else 0) e in let r = ih (omega arith) in omega arith

  named-removed : (nodes : Nodes) (tree : List ℕ) → 1 ≤ times p tree → times k (named_in nodes tree) ≡ times k (named_in nodes (removed p tree)) + times k (in_node nodes p)
  named-removed nodes [] some = absurd (omega arith)
  named-removed nodes (x ∷ xs) some = tested (x == p) refl (named-removed nodes xs)
    where
      tested : (b : Bool) → (x == p) ≡ b → (1 ≤ times p xs → times k (named_in nodes xs) ≡ times k (named_in nodes (removed p xs)) + times k (in_node nodes p)) →
          times k (named_in nodes (x ∷ xs)) ≡ times k (named_in nodes (if b then xs else x ∷ removed p xs)) + times k (in_node nodes p)
      tested true e ih =
          let s : x ≡ p = grind (arith, nat_tests) in
          let c : times k (in_node nodes x) ≡ times k (in_node nodes p) = ap (λ (y : ℕ). times k (in_node nodes y)) s in
          let a = times-append k (in_node nodes x) (named_in nodes xs) in
          omega arith
      tested false e ih =
          let z : ◌≡◌ {A = ℕ} (if x == p then 1 else 0) 0 = ap (λ (b : Bool). if b then 1 else 0) e in
          let r = ih (omega arith) in
          let a = times-append k (in_node nodes x) (named_in nodes xs) in
          let b = times-append k (in_node nodes x) (named_in nodes (removed p xs)) in
          omega arith

-- some of a tree's pages name no page more often than all of them
pub fewer_named : (nodes : Nodes) (some tree : List ℕ) → ((k : ℕ) → times k some ≤ times k tree) → (k : ℕ) → times k (named_in nodes some) ≤ times k (named_in nodes tree)
fewer_named nodes [] tree among k = omega arith
fewer_named nodes (p ∷ some) tree among k =
    let one : 1 ≤ times p tree = (let c = counted p some in let a = among p in omega arith) in
    let rest = fewer_named nodes some (removed p tree) (λ j. let a = among j in let w = times-removed p j tree one in omega arith) k in
    let a = times-append k (in_node nodes p) (named_in nodes some) in
    let w = named-removed p k nodes tree one in
    omega arith

-- ---- a list without some of its pages

-- the pages that pass and those that don't name what all name
parts_named : (nodes : Nodes) (p : ℕ → Bool) (tree : List ℕ) (k : ℕ) → times k (named_in nodes (filter p tree)) + times k (named_in nodes (filter (λ page. not (p page)) tree)) ≡ times k (named_in nodes tree)
parts_named nodes p [] k = refl
parts_named nodes p (x ∷ xs) k = cases (p x) refl (parts_named nodes p xs k)
  where
    cases : (b : Bool) → p x ≡ b → times k (named_in nodes (filter p xs)) + times k (named_in nodes (filter (λ page. not (p page)) xs)) ≡ times k (named_in nodes xs) →
        times k (named_in nodes (cond b (x ∷ filter p xs) (filter p xs))) + times k (named_in nodes (cond (not b) (x ∷ filter (λ page. not (p page)) xs) (filter (λ page. not (p page)) xs))) ≡ times k (named_in nodes (x ∷ xs))
    cases true e ih = let a = times-append k (in_node nodes x) (named_in nodes xs) in let b = times-append k (in_node nodes x) (named_in nodes (filter p xs)) in omega arith
    cases false e ih = let a = times-append k (in_node nodes x) (named_in nodes xs) in let b = times-append k (in_node nodes x) (named_in nodes (filter (λ page. not (p page)) xs)) in omega arith

-- where some pages are of the tree, and each stands once in either, the others and they are the tree's
pub with_left_pages : (left tree : List ℕ) (k : ℕ) → times k left ≤ 1 → times k left ≤ times k tree → times k tree ≤ 1 → times k (without left tree) + times k left ≡ times k tree
with_left_pages left tree k one among once = cases (times k left == 0) refl
  where
    cases : (b : Bool) → (times k left == 0) ≡ b → times k (without left tree) + times k left ≡ times k tree
    cases true e = let w = times-kept (λ page. times page left == 0) k tree e in let z : times k left ≡ 0 = grind (arith, nat_tests) in omega arith
    cases false e = let w = times-dropped (λ page. times page left == 0) k tree e in let some : 1 ≤ times k left = grind (arith, nat_tests) in omega arith

-- and they name what the tree's name
pub without_named : (nodes : Nodes) (left tree : List ℕ) → ((k : ℕ) → times k left ≤ 1) → ((k : ℕ) → times k left ≤ times k tree) → ((k : ℕ) → times k tree ≤ 1) → (k : ℕ) →
    times k (named_in nodes (without left tree)) + times k (named_in nodes left) ≡ times k (named_in nodes tree)
without_named nodes left tree one among once k =
    let f = fewer_named nodes left (filter (λ page. not (times page left == 0)) tree) (λ j. let s = same j in omega arith) k in
    let g = fewer_named nodes (filter (λ page. not (times page left == 0)) tree) left (λ j. let s = same j in omega arith) k in
    let p = parts_named nodes (λ page. times page left == 0) tree k in
    omega arith
  where
    same : (j : ℕ) → times j (filter (λ page. not (times page left == 0)) tree) ≡ times j left
    same j = cases (times j left == 0) refl
      where
        cases : (b : Bool) → (times j left == 0) ≡ b → times j (filter (λ page. not (times page left == 0)) tree) ≡ times j left
        cases true e =
            let z : times j left ≡ 0 = grind (arith, nat_tests) in
            let f : times j (filter (λ page. not (times page left == 0)) tree) ≡ 0 = times-dropped (λ page. not (times page left == 0)) j tree (ap not e) in
            omega arith
        cases false e =
            let some : 1 ≤ times j left = grind (arith, nat_tests) in
            let f : times j (filter (λ page. not (times page left == 0)) tree) ≡ times j tree = times-kept (λ page. not (times page left == 0)) j tree (ap not e) in
            let o = one j in let a = among j in let t = once j in
            omega arith

-- ---- new nodes

-- the child numbers in some nodes
abbrev pub names_of : List Node → List ℕ
names_of nodes = flat_map (λ n. map (λ e. e.child) (inner_entries (Some n))) nodes

pub named_numbered : (number : ℕ → ℕ) (i : ℕ) (nodes : List Node) → named_by (numbered number i nodes) ≡ names_of nodes
named_numbered number i [] = refl
named_numbered number i (n ∷ nodes) = ap (λ (r : List ℕ). map (λ e. e.child) (inner_entries (Some n)) ++ r) (named_numbered number (i + 1) nodes)

pub names_more : (old more new : List Node) (k : ℕ) → new ≡ old ++ more → times k (names_of new) ≡ times k (names_of old) + times k (names_of more)
names_more old more new k is =
    ap (λ (xs : List Node). times k (names_of xs)) is ∙ ap (times k) (flat_map-append (λ n. map (λ e. e.child) (inner_entries (Some n))) old more) ∙ times-append k (names_of old) (names_of more)
