-- How high a sound tree is.
use Rattle.std.proofs.Common.{◌≡◌, ℕ, zero, suc, ◌+◌, ◌*◌, ◌/◌, ◌^◌, ◌<◌, ◌≤◌, Bool, true, false, List, [], ◌∷◌, refl, arith, length, subst, ◌-◌, Option, Some, None}
use Rattle.std.specs.Prelude.{map, nat_le}
use Rattle.std.specs.List.{AllByRecursion, flat_map}
use Rattle.std.proofs.Math.Nat.{mul-le-mul_right, pow-succ'}
use Rattle.std.proofs.lemmas.Nat.{le-div}
use Rattle.std.proofs.lemmas.List.{length-append, length-map}
use Rattle.std.proofs.lemmas.Bool.Decides.{nat_tests}
use Rattle.metric_laws.specs.Space.{Space}
use Rattle.metric_laws.proofs.Published.{all_weaker}
use Rattle.tree_shape.specs.declared.entry.InnerEntry.{InnerEntry}
use Rattle.tree_shape.specs.declared.live.Live.{Live}
use Rattle.tree_shape.specs.Fill.{least_for, most_for, root_least}
use Rattle.tree_shape.specs.Tree.{Nodes, IsSoundAt, IsSoundTree, IsSoundEntry, objects, objects_at}
use Rattle.tree_shape.proofs.Counting.{each_once_back}

-- a node that is not the root has at least three entries
pub three_at_least : (dim : ℕ) → dim ≤ 64 → 3 ≤ least_for dim
three_at_least dim few = le-div 3 (most_for dim + 1) 5 (omega arith) (let w = wide in omega arith)
  where
    wide : 14 ≤ 4080 / (20 + 4 * dim)
    wide = le-div 14 4080 (20 + 4 * dim) (omega arith) (omega arith)

-- lists of m elements at least, one after another
pub flat_long : {X Y : Type 0} (f : X → List Y) (m : ℕ) (xs : List X) → AllByRecursion (λ x. m ≤ length (f x)) xs → length xs * m ≤ length (flat_map f xs)
flat_long f m [] all = omega arith
flat_long f m (x ∷ xs) all =
    let ih = flat_long f m xs all.1 in let here = all.0 in let long = length-append (f x) (flat_map f xs) in omega arith

module _ (s : Space) (few : s.dimension ≤ 64) (nodes : Nodes) where
  pub objects_many : (h least : ℕ) (above : Option (List ℕ)) (page : ℕ) → IsSoundAt s nodes h least above page → least * 3 ^ h ≤ length (objects_at nodes h page)
  objects_many zero least above page sound = rw sound.1 (let e = sound.2.enough in omega arith)
  objects_many (suc h) least above page sound = rw sound.1 (many sound.0 sound.2.enough (each sound.0 (λ e k. objects_many h (least_for s.dimension) (Some e.point) e.child k) sound.3))
    where
      child : (e : InnerEntry) → least_for s.dimension * 3 ^ h ≤ length (objects_at nodes h e.child) → 3 ^ suc h ≤ length (objects_at nodes h e.child)
      child e many = let three = mul-le-mul_right {m = 3} {n = least_for s.dimension} (3 ^ h) (three_at_least s.dimension few) in let power = pow-succ' 3 h in omega arith

      each : (es : List InnerEntry) → ((e : InnerEntry) → IsSoundAt s nodes h (least_for s.dimension) (Some e.point) e.child → least_for s.dimension * 3 ^ h ≤ length (objects_at nodes h e.child)) → AllByRecursion (λ e. IsSoundEntry s above (objects_at nodes h e.child) e × IsSoundAt s nodes h (least_for s.dimension) (Some e.point) e.child) es →
          AllByRecursion (λ e. 3 ^ suc h ≤ length (objects_at nodes h e.child)) es
      each es ih all = all_weaker (λ e. IsSoundEntry s above (objects_at nodes h e.child) e × IsSoundAt s nodes h (least_for s.dimension) (Some e.point) e.child)
          (λ e. 3 ^ suc h ≤ length (objects_at nodes h e.child)) es (λ e k. child e (ih e k.1)) all

      many : (es : List InnerEntry) → least ≤ length es → AllByRecursion (λ e. 3 ^ suc h ≤ length (objects_at nodes h e.child)) es →
          least * 3 ^ suc h ≤ length (flat_map (λ e. objects_at nodes h e.child) es)
      many es enough all =
          let long = flat_long (λ e. objects_at nodes h e.child) (3 ^ suc h) es all in
          let wide = mul-le-mul_right {m = least} {n = length es} (3 ^ suc h) enough in omega arith

pub power_rises : (n k h : ℕ) → n + k ≡ h → 3 ^ k ≤ 3 ^ h
power_rises zero k h same = subst (λ (j : ℕ). 3 ^ k ≤ 3 ^ j) {x = k} {y = h} (omega arith) (omega arith)
power_rises (suc n) k h same =
    subst (λ (j : ℕ). 3 ^ k ≤ 3 ^ j) {x = suc (n + k)} {y = h} (omega arith)
    (let ih = power_rises n k (n + k) refl in let power = pow-succ' 3 (n + k) in omega arith)

-- above a height of 14 there are too many objects
pub not_higher : (h : ℕ) → 15 ≤ h → 2 ^ 24 < 2 * 3 ^ h
not_higher h high = let r = power_rises (h - 15) 15 h (omega arith) in omega arith

pub height_is_small : (s : Space) (nodes : Nodes) (t : Live) → s.dimension ≤ 64 → IsSoundTree s nodes t →
    (1 ≤ t.height → 2 * 3 ^ t.height ≤ t.count) × (t.count ≤ 2 ^ 24 → t.height ≤ 14)
height_is_small s nodes t few sound = (enough, low)
  where
    counted : length (objects nodes t) ≡ t.count
    counted = (let e = each_once_back t.count (map (λ e. e.id) (objects nodes t)) sound.ids in let k = e.2 in rw length-map at k)

    root : (h : ℕ) → 1 ≤ h → root_least h ≡ 2
    root zero some = absurd (omega arith)
    root (suc h) some = refl

    enough : 1 ≤ t.height → 2 * 3 ^ t.height ≤ t.count
    enough some = subst (λ (k : ℕ). k * 3 ^ t.height ≤ t.count) (root t.height some)
        (let many = objects_many s few nodes t.height (root_least t.height) None t.root sound.parts in let c = counted in omega arith)

    low : t.count ≤ 2 ^ 24 → t.height ≤ 14
    low small = cases (nat_le t.height 14) refl
      where
        cases : (b : Bool) → nat_le t.height 14 ≡ b → t.height ≤ 14
        cases true e = grind (arith, nat_tests)
        cases false e =
            let high : 15 ≤ t.height = grind (arith, nat_tests) in
            let e = enough (omega arith) in let n = not_higher t.height high in absurd (omega arith)
