-- The parts of a walk by child numbers that is whole.
use Rattle.std.proofs.Common.{◌≡◌, ℕ, ◌+◌, ◌-◌, ◌≤◌, List, [], ◌∷◌, ◌++◌, refl, sym, ap, subst, Some, arith, length, append_assoc}
use Rattle.std.specs.List.{AllByRecursion}
use Rattle.tree_shape.specs.declared.entry.Node.{Node}
use Rattle.tree_shape.specs.Tree.{Nodes}
use Rattle.page_store.specs.Tours.{children, Tours, IsWhole}
use Rattle.page_store.proofs.Published.{same_some}

-- a walk that is whole opens what is first, and then the rest
record IsSplit (nodes : Nodes) (ps qs os : List ℕ) : Type 0 where
  first : List ℕ
  last : List ℕ
  first_walk : Tours nodes ps first []
  last_walk : Tours nodes qs last []
  count : length first + length last ≡ length os

split : (nodes : Nodes) (ps qs os : List ℕ) → Tours nodes (ps ++ qs) os [] → IsSplit nodes ps qs os
split nodes [] qs os walk = record { first = []; last = os; first_walk = refl; last_walk = walk; count = omega arith }
split nodes (p ∷ ps) qs [] walk = absurd (let e : ◌≡◌ {A = List ℕ} [] (p ∷ (ps ++ qs)) = walk in cc)
split nodes (p ∷ ps) qs (o ∷ os) walk =
    let deep = split nodes (children walk.0 ++ ps) qs os (subst (λ (l : List ℕ). Tours nodes l os []) (sym (append_assoc (children walk.0) ps qs)) walk.3) in
    let count = deep.count in
    record { first = o ∷ deep.first; last = deep.last; first_walk = (walk.0, walk.1, walk.2, deep.first_walk); last_walk = deep.last_walk; count = omega arith }

each_whole : (nodes : Nodes) (cs os : List ℕ) (most : ℕ) → Tours nodes cs os [] → length os ≤ most → AllByRecursion (λ c. IsWhole nodes c most) cs
each_whole nodes [] os most walk few = tt
each_whole nodes (c ∷ cs) os most walk few =
    let parts = split nodes (c ∷ []) cs os walk in
    let count = parts.count in
    (record { pages = parts.first; walk = parts.first_walk; few = omega arith }, each_whole nodes cs parts.last most parts.last_walk (omega arith))

-- a whole walk opens its first page, and has less room for each that this one names
pub whole_opens : (nodes : Nodes) (page room : ℕ) → IsWhole nodes page room → (node : Node) × (nodes page ≡ Some node) × (1 ≤ room)
whole_opens nodes page room whole = opens whole.pages whole.walk whole.few
  where
    opens : (os : List ℕ) → Tours nodes (page ∷ []) os [] → length os ≤ room → (node : Node) × (nodes page ≡ Some node) × (1 ≤ room)
    opens [] walk few = absurd (let e : ◌≡◌ {A = List ℕ} [] (page ∷ []) = walk in cc)
    opens (o ∷ os) walk few = (walk.0, walk.1, omega (arith, few))

pub whole_below : (nodes : Nodes) (page room : ℕ) (node : Node) → IsWhole nodes page room → nodes page ≡ Some node → AllByRecursion (λ c. IsWhole nodes c (room - 1)) (children node)
whole_below nodes page room node whole is = below whole.pages whole.walk whole.few
  where
    nothing : (l : List ℕ) → l ++ [] ≡ l
    nothing [] = refl
    nothing (x ∷ xs) = ap (λ (ys : List ℕ). x ∷ ys) (nothing xs)

    below : (os : List ℕ) → Tours nodes (page ∷ []) os [] → length os ≤ room → AllByRecursion (λ c. IsWhole nodes c (room - 1)) (children node)
    below [] walk few = absurd (let e : ◌≡◌ {A = List ℕ} [] (page ∷ []) = walk in cc)
    below (o ∷ os) walk few =
        let same = same_some nodes page node walk.0 is walk.1 in
        subst (λ (m : Node). AllByRecursion (λ c. IsWhole nodes c (room - 1)) (children m)) (sym same)
        (each_whole nodes (children walk.0) os (room - 1) (subst (λ (l : List ℕ). Tours nodes l os []) (nothing (children walk.0)) walk.3) (omega (arith, few)))
