-- Entries that are not marked Near hold no answer.
use Rattle.std.proofs.Common.{◌≡◌, ℕ, ◌+◌, ◌≤◌, Bool, true, false, List, [], ◌∷◌, ◌++◌, refl, ap, Option, Some, None, arith}
use Rattle.std.specs.Prelude.{IsTrue, nat_le, filter}
use Rattle.std.specs.List.{AllByRecursion, AllZip, flat_map}
use Rattle.std.proofs.lemmas.Bool.Decides.{nat_tests}
use Rattle.metric_laws.specs.Space.{Space, IsSpace}
use Rattle.metric_laws.specs.Pruning.{parent_rules_out, centre_rules_out}
use Rattle.metric_laws.proofs.Published.{filter_none, all_weaker, all_both}
use Rattle.tree_shape.specs.declared.entry.LeafEntry.{LeafEntry}
use Rattle.tree_shape.specs.declared.entry.InnerEntry.{InnerEntry}
use Rattle.tree_shape.specs.Tree.{Nodes, IsSoundObject, objects_at, parent_distance}
use Rattle.tree_shape.specs.Fill.{least_for}
use Rattle.tree_shape.proofs.Published.{objects_fit, Fits, SoundSubtree}
use Rattle.log_model.specs.declared.marks.Mark.{Mark}
use Rattle.log_model.specs.declared.marks.Mark.TheVariants.{Skip, Far, Near}
use Rattle.log_model.specs.Walk.{Search, away, is_skipped, allows_object, allows_subtree, near_ones}

-- how far the routing point above is
abbrev pub point_above : Search → Option (List ℕ) → Option ℕ
point_above f None = None
point_above f (Some p) = Some (away f p)

-- the routing point above is a point
abbrev pub FitsAbove : Space → Option (List ℕ) → Type 0
FitsAbove s None = Unit {0}
FitsAbove s (Some p) = IsTrue (s.is_point p)

-- an object within the search's radius
abbrev pub is_answer : Search → LeafEntry → Bool
is_answer f o = nat_le (away f o.point) f.rho

-- the objects below an entry of a sound tree are points within its radius
pub held : (s : Space) (nodes : Nodes) (h : ℕ) (above : Option (List ℕ)) (e : InnerEntry) → SoundSubtree s nodes h above e →
    AllByRecursion (λ o. IsTrue (s.is_point o.point) × (s.dist o.point e.point ≤ e.radius)) (objects_at nodes h e.child)
held s nodes h above e sound = all_both (Fits s) (λ o. s.dist o.point e.point ≤ e.radius) (objects_at nodes h e.child)
    (objects_fit s nodes h (least_for s.dimension) (Some e.point) e.child sound.1) sound.0.covers

-- the parent test on numbers: dp and dq are the distances to the search's point, de that of the two points
pub parent_far : (a dp de dq near stored rho radius : ℕ) → stored ≡ de → parent_rules_out dp stored rho radius ≡ true → near ≤ radius →
    dp ≤ de + dq → de ≤ dq + dp → dq ≤ near + a → nat_le a rho ≡ false
parent_far a dp de dq near stored rho radius is test close t1 t2 t3 = grind (arith, nat_tests)

module _ (f : Search) (axioms : IsSpace f.space) (q_fits : IsTrue (f.space.is_point f.point)) where
  -- a point that the parent test passes is too far, and so is each object of its sphere
  pub skipped_far : (above : Option (List ℕ)) → FitsAbove f.space above → (e o : List ℕ) → IsTrue (f.space.is_point e) → IsTrue (f.space.is_point o) →
      (stored radius : ℕ) → stored ≡ parent_distance f.space above e → f.space.dist o e ≤ radius →
      is_skipped f (point_above f above) stored radius ≡ true → nat_le (away f o) f.rho ≡ false
  skipped_far None fit e o e_fits o_fits stored radius is near skip = absurd (cc)
  skipped_far (Some u) fit e o e_fits o_fits stored radius is near skip =
      parent_far (away f o) (away f u) (f.space.dist e u) (away f e) (f.space.dist o e) stored f.rho radius is skip near
      (rw (axioms.symmetric e u e_fits fit) (axioms.triangle u e f.point fit e_fits q_fits))
      (rw (axioms.symmetric u f.point fit q_fits) (axioms.triangle e f.point u e_fits q_fits fit))
      (rw (axioms.symmetric o e o_fits e_fits) (axioms.triangle e o f.point e_fits o_fits q_fits))

  -- the same of the centre test
  pub far_off : (e o : List ℕ) → IsTrue (f.space.is_point e) → IsTrue (f.space.is_point o) → (radius : ℕ) → f.space.dist o e ≤ radius →
      centre_rules_out (away f e) f.rho radius ≡ true → nat_le (away f o) f.rho ≡ false
  far_off e o e_fits o_fits radius near test =
      let t = axioms.triangle e o f.point e_fits o_fits q_fits in
      let y = axioms.symmetric e o e_fits o_fits in
      grind (arith, nat_tests)

  -- the objects of a leaf that are marked Near are its answers
  pub leaf_marked_near : (above : Option (List ℕ)) → FitsAbove f.space above → (es : List LeafEntry) (marks : List Mark) →
      AllByRecursion (IsSoundObject f.space above) es → AllZip (λ e m. IsTrue (allows_object f (point_above f above) e m)) es marks →
      near_ones es marks ≡ filter (is_answer f) es
  leaf_marked_near above fit [] [] sound allowed = refl
  leaf_marked_near above fit [] (m ∷ ms) sound allowed = absurd allowed
  leaf_marked_near above fit (e ∷ es) [] sound allowed = absurd allowed
  leaf_marked_near above fit (e ∷ es) (Skip ∷ ms) sound allowed =
      let no = skipped_far above fit e.point e.point sound.0.point_fits sound.0.point_fits e.parent 0 sound.0.parent_is (at_itself e.point sound.0.point_fits) allowed.0 in
      rw no (leaf_marked_near above fit es ms sound.1 allowed.1)
    where
      at_itself : (p : List ℕ) → IsTrue (f.space.is_point p) → f.space.dist p p ≤ 0
      at_itself p is_point = let z = axioms.zero_same p is_point in omega arith
  leaf_marked_near above fit (e ∷ es) (Far ∷ ms) sound allowed =
      let no = far_off e.point e.point sound.0.point_fits sound.0.point_fits 0 (at_itself e.point sound.0.point_fits) allowed.0 in
      rw no (leaf_marked_near above fit es ms sound.1 allowed.1)
    where
      at_itself : (p : List ℕ) → IsTrue (f.space.is_point p) → f.space.dist p p ≤ 0
      at_itself p is_point = let z = axioms.zero_same p is_point in omega arith
  leaf_marked_near above fit (e ∷ es) (Near ∷ ms) sound allowed =
      rw allowed.0 (ap (λ r. e ∷ r) (leaf_marked_near above fit es ms sound.1 allowed.1))

  -- the subtrees that are marked Near hold all the answers
  pub inner_near : (nodes : Nodes) (h : ℕ) (above : Option (List ℕ)) → FitsAbove f.space above → (es : List InnerEntry) (marks : List Mark) →
      AllByRecursion (SoundSubtree f.space nodes h above) es → AllZip (λ e m. IsTrue (allows_subtree f (point_above f above) e m)) es marks →
      flat_map (λ e. filter (is_answer f) (objects_at nodes h e.child)) (near_ones es marks)
      ≡ flat_map (λ e. filter (is_answer f) (objects_at nodes h e.child)) es
  inner_near nodes h above fit [] [] sound allowed = refl
  inner_near nodes h above fit [] (m ∷ ms) sound allowed = absurd allowed
  inner_near nodes h above fit (e ∷ es) [] sound allowed = absurd allowed
  inner_near nodes h above fit (e ∷ es) (Skip ∷ ms) sound allowed =
      let none = filter_none (is_answer f) (objects_at nodes h e.child)
      (all_weaker _ (λ o. is_answer f o ≡ false) (objects_at nodes h e.child)
      (λ o k. skipped_far above fit e.point o.point sound.0.0.point_fits k.0 e.parent e.radius sound.0.0.parent_is k.1 allowed.0)
      (held f.space nodes h above e sound.0)) in
      rw none (inner_near nodes h above fit es ms sound.1 allowed.1)
  inner_near nodes h above fit (e ∷ es) (Far ∷ ms) sound allowed =
      let none = filter_none (is_answer f) (objects_at nodes h e.child)
      (all_weaker _ (λ o. is_answer f o ≡ false) (objects_at nodes h e.child)
      (λ o k. far_off e.point o.point sound.0.0.point_fits k.0 e.radius k.1 allowed.0)
      (held f.space nodes h above e sound.0)) in
      rw none (inner_near nodes h above fit es ms sound.1 allowed.1)
  inner_near nodes h above fit (e ∷ es) (Near ∷ ms) sound allowed =
      ap (λ r. filter (is_answer f) (objects_at nodes h e.child) ++ r) (inner_near nodes h above fit es ms sound.1 allowed.1)
