-- Each inner node of a sound tree has an entry.
use Rattle.std.proofs.Common.{ℕ, zero, suc, ◌<◌, ◌≤◌, List, [], ◌∷◌, arith}
use Rattle.std.specs.Prelude.{IsTrue}
use Rattle.std.specs.List.{AllByRecursion}
use Rattle.metric_laws.specs.Space.{Space}
use Rattle.tree_shape.specs.Fill.{least_for, root_least}
use Rattle.tree_shape.specs.Plain.{Branch, Plain, Tall}
use Rattle.tree_shape.specs.Sound.{BranchCovers, IsSoundPlain, IsSoundTall}
use Rattle.tree_shape.proofs.Published.{three_at_least}
use Rattle.tree_growth.specs.Insertion.{HasEntries}

module _ (s : Space) (few : s.dimension ≤ 64) where
  pub has_entries : (h least : ℕ) → (0 < h → 1 ≤ least) → (t : Plain h) → IsSoundPlain s h least t → HasEntries h t
  has_entries zero least some os sound = tt
  has_entries (suc h) least some bs sound =
      ((let e = sound.0.enough in let l = some (omega arith) in omega arith), each bs (λ t k. has_entries h (least_for s.dimension) (λ z. let three = three_at_least s.dimension few in omega arith) t k) sound.1)
    where
      each : (cs : List (Branch (Plain h))) → ((t : Plain h) → IsSoundPlain s h (least_for s.dimension) t → HasEntries h t) →
          AllByRecursion (λ b. IsTrue (s.is_point b.point) × BranchCovers s h b × IsSoundPlain s h (least_for s.dimension) b.below) cs → AllByRecursion (λ b. HasEntries h b.below) cs
      each [] ih all = tt
      each (c ∷ cs) ih all = (ih c.below all.0.2, each cs ih all.1)

pub sound_has_entries : (s : Space) → s.dimension ≤ 64 → (t : Tall) → IsSoundTall s t → HasEntries t.height t.tree
sound_has_entries s few t sound = has_entries s few t.height (root_least t.height) (some t.height) t.tree sound
  where
    some : (h : ℕ) → 0 < h → 1 ≤ root_least h
    some zero high = absurd (omega arith)
    some (suc h) high = omega arith
