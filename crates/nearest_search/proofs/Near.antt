-- What is near in an opened node.
use Rattle.std.proofs.Common.{◌≡◌, ℕ, zero, suc, ◌+◌, ◌-◌, ◌≤◌, Bool, true, false, cond, List, [], ◌∷◌, refl, ap, arith, Option, Some, None}
use Rattle.std.specs.Prelude.{IsTrue, map, filter, nat_le, if◌then◌else◌}
use Rattle.std.specs.List.{AllByRecursion}
use Rattle.std.proofs.lemmas.Bool.Decides.{nat_tests}
use Rattle.metric_laws.specs.Space.{Space, IsSpace}
use Rattle.metric_laws.specs.Pruning.{parent_rules_out, centre_rules_out}
use Rattle.tree_shape.specs.declared.entry.LeafEntry.{LeafEntry}
use Rattle.tree_shape.specs.declared.entry.InnerEntry.{InnerEntry}
use Rattle.tree_shape.specs.declared.entry.Node.TheVariants.{Leaf}
use Rattle.tree_shape.specs.Tree.{Nodes, IsSoundAt, IsSoundObject, objects_at, parent_distance}
use Rattle.tree_shape.specs.Fill.{least_for}
use Rattle.tree_shape.proofs.Published.{SoundSubtree}
use Rattle.log_model.specs.declared.marks.Mark.TheVariants.{Skip, Far, Near}
use Rattle.log_model.specs.Walk.{Search, away, is_skipped, allows_object, least_for_object, least_for_subtree, near_ones, hit_of}
use Rattle.log_model.proofs.Published.{is_answer, FitsAbove, point_above, leaf_marked_near, held, object_allowed, zip-map}
use Rattle.nearest_search.specs.Counts.{total, one_within, within}
use Rattle.nearest_search.specs.Machine.{level_of, count_near, count_below, pending_of, reaches, opens, opens_of}

-- the parent test never says more than the centre test would
pub skip_far : (dp de dq stored rho radius : ℕ) → stored ≡ de → parent_rules_out dp stored rho radius ≡ true → dp ≤ de + dq → de ≤ dq + dp → nat_le dq (rho + radius) ≡ false
skip_far dp de dq stored rho radius is test t1 t2 = grind (arith, nat_tests)

pub level_leaf : (nodes : Nodes) (page : ℕ) (es : List LeafEntry) → nodes page ≡ Some (Leaf es) → level_of (nodes page) ≡ 0
level_leaf nodes page es is = ap level_of is

-- on a sound tree the level of the page's node is its height
pub level_is : (s : Space) (nodes : Nodes) (h least : ℕ) (above : Option (List ℕ)) (page : ℕ) → IsSoundAt s nodes h least above page → level_of (nodes page) ≡ h
level_is s nodes zero least above page sound = ap level_of sound.1
level_is s nodes (suc h) least above page sound = ap level_of sound.1

module _ (f : Search) (axioms : IsSpace f.space) (q_fits : IsTrue (f.space.is_point f.point)) where
  -- on a sound tree the least marks are Near where the sphere reaches into the search's
  pub near_reaches : (nodes : Nodes) (h : ℕ) (above : Option (List ℕ)) → FitsAbove f.space above → (es : List InnerEntry) →
      AllByRecursion (SoundSubtree f.space nodes h above) es →
      near_ones es (map (least_for_subtree f (point_above f above)) es) ≡ filter (reaches f) es
  near_reaches nodes h above fit [] sound = refl
  near_reaches nodes h above fit (e ∷ es) sound =
      cases (is_skipped f (point_above f above) e.parent e.radius) (centre_rules_out (away f e.point) f.rho e.radius) refl refl (near_reaches nodes h above fit es sound.1)
    where
      skipped : (u : Option (List ℕ)) → FitsAbove f.space u → e.parent ≡ parent_distance f.space u e.point → is_skipped f (point_above f u) e.parent e.radius ≡ true → reaches f e ≡ false
      skipped None fit is test = absurd (cc)
      skipped (Some u) fit is test =
          skip_far (away f u) (f.space.dist e.point u) (away f e.point) e.parent f.rho e.radius is test
          (rw (axioms.symmetric e.point u sound.0.0.point_fits fit) (axioms.triangle u e.point f.point fit sound.0.0.point_fits q_fits))
          (rw (axioms.symmetric u f.point fit q_fits) (axioms.triangle e.point f.point u sound.0.0.point_fits q_fits fit))

      far : centre_rules_out (away f e.point) f.rho e.radius ≡ true → reaches f e ≡ false
      far c = grind (arith, nat_tests)

      near : centre_rules_out (away f e.point) f.rho e.radius ≡ false → reaches f e ≡ true
      near c = grind (arith, nat_tests)

      cases : (s c : Bool) → is_skipped f (point_above f above) e.parent e.radius ≡ s → centre_rules_out (away f e.point) f.rho e.radius ≡ c →
          near_ones es (map (least_for_subtree f (point_above f above)) es) ≡ filter (reaches f) es →
          near_ones (e ∷ es) ((if s then Skip else (if c then Far else Near)) ∷ map (least_for_subtree f (point_above f above)) es)
          ≡ cond (reaches f e) (e ∷ filter (reaches f) es) (filter (reaches f) es)
      cases true c i j ih = rw (skipped above fit sound.0.0.parent_is i) ih
      cases false true i j ih = rw (far j) ih
      cases false false i j ih = rw (near j) (ap (λ r. e ∷ r) ih)

  -- the objects that an opened leaf names
  pub leaf_answers : (above : Option (List ℕ)) → FitsAbove f.space above → (es : List LeafEntry) → AllByRecursion (IsSoundObject f.space above) es →
      near_ones es (map (least_for_object f (point_above f above)) es) ≡ filter (is_answer f) es
  leaf_answers above fit es sound =
      leaf_marked_near f axioms q_fits above fit es (map (least_for_object f (point_above f above)) es) sound
      (zip-map (allows_object f (point_above f above)) (least_for_object f (point_above f above)) (object_allowed f (point_above f above)) es)

  -- no object of a sphere that doesn't reach is within the radius
  pub out_of_reach : (nodes : Nodes) (h : ℕ) (above : Option (List ℕ)) (e : InnerEntry) → SoundSubtree f.space nodes h above e → reaches f e ≡ false →
      (r : ℕ) → r ≤ f.rho → count_near f r (objects_at nodes h e.child) ≡ 0
  out_of_reach nodes h above e sound out r low = none (objects_at nodes h e.child) (held f.space nodes h above e sound)
    where
      one : (o : LeafEntry) → IsTrue (f.space.is_point o.point) → f.space.dist o.point e.point ≤ e.radius → ◌≡◌ {A = ℕ} (if nat_le (away f o.point) r then 1 else 0) 0
      one o o_fits near =
          let t = axioms.triangle e.point o.point f.point sound.0.point_fits o_fits q_fits in
          let y = axioms.symmetric e.point o.point sound.0.point_fits o_fits in
          grind (arith, nat_tests)

      none : (os : List LeafEntry) → AllByRecursion (λ o. IsTrue (f.space.is_point o.point) × (f.space.dist o.point e.point ≤ e.radius)) os → count_near f r os ≡ 0
      none [] all = refl
      none (o ∷ os) all = let i = one o all.0.0 all.0.1 in let ih = none os all.1 in omega arith

  -- what a leaf names, by count
  pub leaf_covered : (es : List LeafEntry) (r : ℕ) → r ≤ f.rho → count_near f r es ≡ within r (map (λ h. h.dist) (map (hit_of f) (filter (is_answer f) es)))
  leaf_covered [] r low = refl
  leaf_covered (e ∷ es) r low = cases (is_answer f e) refl (leaf_covered es r low)
    where
      cases : (b : Bool) → is_answer f e ≡ b → count_near f r es ≡ within r (map (λ h. h.dist) (map (hit_of f) (filter (is_answer f) es))) →
          one_within r (away f e.point) + count_near f r es ≡ within r (map (λ h. h.dist) (map (hit_of f) (cond b (e ∷ filter (is_answer f) es) (filter (is_answer f) es))))
      cases true i ih = ap (λ n. one_within r (away f e.point) + n) ih
      cases false i ih = let z : ◌≡◌ {A = ℕ} (if nat_le (away f e.point) r then 1 else 0) 0 = grind (arith, nat_tests) in omega arith

  -- what an inner node names, by count
  pub inner_covered : (nodes : Nodes) (h : ℕ) (above : Option (List ℕ)) (es : List InnerEntry) → AllByRecursion (SoundSubtree f.space nodes h above) es → (r : ℕ) → r ≤ f.rho →
      total (λ e. count_near f r (objects_at nodes h e.child)) es ≡ total (count_below f nodes r) (map (pending_of f) (filter (reaches f) es))
  inner_covered nodes h above [] sound r low = refl
  inner_covered nodes h above (e ∷ es) sound r low = cases (reaches f e) refl (inner_covered nodes h above es sound.1 r low)
    where
      cases : (b : Bool) → reaches f e ≡ b →
          total (λ e. count_near f r (objects_at nodes h e.child)) es ≡ total (count_below f nodes r) (map (pending_of f) (filter (reaches f) es)) →
          count_near f r (objects_at nodes h e.child) + total (λ e. count_near f r (objects_at nodes h e.child)) es
          ≡ total (count_below f nodes r) (map (pending_of f) (cond b (e ∷ filter (reaches f) es) (filter (reaches f) es)))
      cases true i ih = rw (level_is f.space nodes h (least_for f.space.dimension) (Some e.point) e.child sound.0.1) (ap (λ n. count_near f r (objects_at nodes h e.child) + n) ih)
      cases false i ih = let z = out_of_reach nodes h above e sound.0 i r low in omega arith

-- the pages that the final walk opens below the entries, where the search at the time reached at least as far
pub opens_covered : (w : ℕ → ℕ) (f g : Search) → f.space ≡ g.space → (nodes : Nodes) (h : ℕ) (above : Option (List ℕ)) (es : List InnerEntry) → AllByRecursion (SoundSubtree f.space nodes h above) es →
    ((p : List ℕ) → away f p ≡ away g p) → g.rho ≤ f.rho →
    total (λ e. if reaches g e then opens w g nodes h e.child else 0) es ≡ total (opens_of w g nodes) (map (pending_of f) (filter (reaches f) es))
opens_covered w f g same nodes h above [] sound measure low = refl
opens_covered w f g same nodes h above (e ∷ es) sound measure low = cases (reaches f e) (reaches g e) refl refl (opens_covered w f g same nodes h above es sound.1 measure low)
  where
    wider : reaches g e ≡ true → reaches f e ≡ true
    wider i = let m = measure e.point in grind (arith, nat_tests)

    lower : (b : Bool) → reaches g e ≡ b → nat_le (away f e.point - e.radius) g.rho ≡ b
    lower true i = let m = measure e.point in grind (arith, nat_tests)
    lower false i = let m = measure e.point in grind (arith, nat_tests)

    cases : (b c : Bool) → reaches f e ≡ b → reaches g e ≡ c →
        total (λ e. if reaches g e then opens w g nodes h e.child else 0) es ≡ total (opens_of w g nodes) (map (pending_of f) (filter (reaches f) es)) →
        (if c then opens w g nodes h e.child else 0) + total (λ e. if reaches g e then opens w g nodes h e.child else 0) es
        ≡ total (opens_of w g nodes) (map (pending_of f) (cond b (e ∷ filter (reaches f) es) (filter (reaches f) es)))
    cases true c i j ih = rw (lower c j, level_is f.space nodes h (least_for f.space.dimension) (Some e.point) e.child sound.0.1) (ap (λ n. (if c then opens w g nodes h e.child else 0) + n) ih)
    cases false true i j ih = absurd (let w = wider j in cc)
    cases false false i j ih = omega arith
