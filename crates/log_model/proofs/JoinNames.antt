-- A sound join walk names the pairs within the radius.
use Rattle.std.proofs.Common.{◌≡◌, ℕ, zero, suc, ◌+◌, ◌<◌, ◌≤◌, ◌⊎◌, Bool, true, false, cond, List, [], ◌∷◌, ◌++◌, refl, sym, ap, inl, inr, arith, ◌∙◌, subst, Option, Some, None}
use Rattle.std.specs.Prelude.{IsTrue, not, map, filter, nat_le, nat_lt, if◌then◌else◌, ◌&&◌}
use Rattle.std.specs.List.{AllByRecursion, AllZip, flat_map}
use Rattle.std.proofs.lemmas.Bool.Decides.{nat_tests}
use Rattle.metric_laws.specs.Space.{Space, IsSpace}
use Rattle.metric_laws.specs.Pruning.{pair_rules_out, parent_rules_out}
use Rattle.metric_laws.specs.Lists.{IsIn}
use Rattle.metric_laws.proofs.Published.{all_in, in-append_left, in-append_right, in-append}
use Rattle.tree_shape.specs.declared.entry.LeafEntry.{LeafEntry}
use Rattle.tree_shape.specs.declared.entry.InnerEntry.{InnerEntry}
use Rattle.tree_shape.specs.declared.entry.Node.{Node}
use Rattle.tree_shape.specs.declared.entry.Node.TheVariants.{Leaf, Inner}
use Rattle.tree_shape.specs.Tree.{Nodes, IsSoundAt, IsSoundObject, objects_at, parent_distance}
use Rattle.tree_shape.specs.Fill.{least_for}
use Rattle.tree_shape.proofs.Published.{SoundSubtree, objects_fit}
use Rattle.log_model.specs.declared.marks.Mark.{Mark}
use Rattle.log_model.specs.declared.marks.Mark.TheVariants.{Skip, Far, Near}
use Rattle.log_model.specs.Walk.{near_ones}
use Rattle.log_model.proofs.Walk.{same_node, map-append}
use Rattle.scan_model.specs.declared.hit.Pair.{Pair}
use Rattle.log_model.specs.Items.{Item, Subtree, Object}
use Rattle.log_model.specs.declared.pairs.JoinNeed.{JoinNeed}
use Rattle.log_model.specs.declared.marks.JoinRecord.{JoinRecord}
use Rattle.log_model.specs.JoinWalk.{JoinSearch, rank_of, centre_of, radius_of, page_of, apart_of, Entry, object_entry, subtree_entry, entries_of, opens_right, with_entry, is_object, is_hit, is_need, far_apart, far_stored, within_apart, id_of, dist_of, join_far, join_skips, allows_entry, JoinAllowed, pair_of, join_needs, join_hits, side_of, JoinWalksBy}

-- an object by its id and its point
pub record Thing : Type 0 where
  pub id : ℕ
  pub point : List ℕ

abbrev pub thing_of : LeafEntry → Thing
thing_of o = record { id = o.id; point = o.point }

abbrev pub things_at : Nodes → ℕ → ℕ → List Thing
things_at nodes zero page = []
things_at nodes (suc h) page = map thing_of (objects_at nodes h page)

-- the objects of an item
abbrev pub item_things : Nodes → Item → List Thing
item_things nodes (Subtree page rank centre radius) = things_at nodes rank page
item_things nodes (Object id point) = record { id = id; point = point } ∷ []

abbrev pub FitsCentre : Space → Option (List ℕ) → Type 0
FitsCentre s None = Unit {0}
FitsCentre s (Some c) = IsTrue (s.is_point c)

abbrev pub CoversAll : Space → Option (List ℕ) → ℕ → List LeafEntry → Type 0
CoversAll s None radius os = Unit {0}
CoversAll s (Some c) radius os = AllByRecursion (λ o. s.dist o.point c ≤ radius) os

pub record IsSoundSubtree (s : Space) (nodes : Nodes) (page rank : ℕ) (centre : Option (List ℕ)) (radius : ℕ) : Type 0 where
  pub height : ℕ
  pub least : ℕ
  pub rank_is : rank ≡ suc height
  pub sound : IsSoundAt s nodes height least centre page
  pub is_point : FitsCentre s centre
  pub covers : CoversAll s centre radius (objects_at nodes height page)

abbrev pub IsSoundItem : Space → Nodes → Item → Type 0
IsSoundItem s nodes (Subtree page rank centre radius) = IsSoundSubtree s nodes page rank centre radius
IsSoundItem s nodes (Object id point) = IsTrue (s.is_point point)

-- a pair of objects within rho
pub record IsPairIn (s : Space) (rho : ℕ) (xs ys : List Thing) (z : Pair) : Type 0 where
  pub x : Thing
  pub y : Thing
  pub x_in : IsIn x xs
  pub y_in : IsIn y ys
  pub near : s.dist x.point y.point ≤ rho
  pub is : z ≡ record { left = x.id; right = y.id; dist = s.dist x.point y.point }

-- an entry of a sound node under this centre
pub record IsSoundMember (s : Space) (nodes : Nodes) (above : Option (List ℕ)) (e : Entry) : Type 0 where
  pub centre : List ℕ
  pub centre_is : centre_of e.item ≡ Some centre
  pub is_point : IsTrue (s.is_point centre)
  pub stored_is : e.stored ≡ parent_distance s above centre
  pub item : IsSoundItem s nodes e.item

abbrev pub IsHeld : Space → List ℕ → ℕ → Thing → Type 0
IsHeld s c radius x = IsTrue (s.is_point x.point) × (s.dist x.point c ≤ radius)

module _ (s : Space) (axioms : IsSpace s) where
  -- the objects of a sound item with a centre are points within its radius
  pub held_item : (nodes : Nodes) (item : Item) (c : List ℕ) → IsSoundItem s nodes item → centre_of item ≡ Some c → AllByRecursion (IsHeld s c (radius_of item)) (item_things nodes item)
  held_item nodes (Object id point) c sound is =
      let e : point ≡ c = cc in let z = axioms.zero_same point sound in
      ((sound, (let n : s.dist point c ≤ 0 = rw (← e) (omega arith) in n)), tt)
  held_item nodes (Subtree page rank None radius) c sound is = absurd (cc)
  held_item nodes (Subtree page rank (Some d) radius) c sound is =
      let e : d ≡ c = cc in
      rw sound.rank_is (each e (objects_at nodes sound.height page) (objects_fit s nodes sound.height sound.least (Some d) page sound.sound) sound.covers)
    where
      each : d ≡ c → (os : List LeafEntry) → AllByRecursion (λ o. IsTrue (s.is_point o.point)) os → AllByRecursion (λ o. s.dist o.point d ≤ radius) os → AllByRecursion (IsHeld s c radius) (map thing_of os)
      each e [] fit near = tt
      each e (o ∷ os) fit near = ((fit.0, (rw e at near.0)), each e os fit.1 near.1)

  -- two spheres that are far apart hold no pair
  pub far_none : (rho : ℕ) (left right : Nodes) (a b : Item) (c d : List ℕ) → IsSoundItem s left a → IsSoundItem s right b → centre_of a ≡ Some c → centre_of b ≡ Some d →
      IsTrue (s.is_point c) → IsTrue (s.is_point d) → rho + radius_of a + radius_of b < s.dist c d → (z : Pair) → IsPairIn s rho (item_things left a) (item_things right b) z → ⊥
  far_none rho left right a b c d a_sound b_sound a_is b_is c_fits d_fits far z p =
      let x = all_in (IsHeld s c (radius_of a)) (item_things left a) p.x (held_item left a c a_sound a_is) p.x_in in
      let y = all_in (IsHeld s d (radius_of b)) (item_things right b) p.y (held_item right b d b_sound b_is) p.y_in in
      numbers (s.dist c d) (s.dist c p.x.point) (s.dist p.x.point d) (s.dist p.x.point p.y.point) (s.dist p.y.point d) (s.dist p.x.point c) (radius_of a) (radius_of b)
      (axioms.triangle c p.x.point d c_fits x.0 d_fits) (axioms.triangle p.x.point p.y.point d x.0 y.0 d_fits) (axioms.symmetric c p.x.point c_fits x.0) x.1 y.1 p.near far
    where
      numbers : (cd cx xd xy yd xc ra rb : ℕ) → cd ≤ cx + xd → xd ≤ xy + yd → cx ≡ xc → xc ≤ ra → yd ≤ rb → xy ≤ rho → rho + ra + rb < cd → ⊥
      numbers cd cx xd xy yd xc ra rb t1 t2 e a b n f = omega arith

  pub leaf_members : (nodes : Nodes) (above : Option (List ℕ)) (es : List LeafEntry) → AllByRecursion (IsSoundObject s above) es → AllByRecursion (IsSoundMember s nodes above) (map object_entry es)
  leaf_members nodes above [] all = tt
  leaf_members nodes above (o ∷ os) all =
      (record { centre = o.point; centre_is = refl; is_point = all.0.point_fits; stored_is = all.0.parent_is; item = all.0.point_fits }, leaf_members nodes above os all.1)

  pub inner_members : (nodes : Nodes) (h : ℕ) (above : Option (List ℕ)) (es : List InnerEntry) → AllByRecursion (SoundSubtree s nodes h above) es →
      AllByRecursion (IsSoundMember s nodes above) (map (subtree_entry (suc h)) es)
  inner_members nodes h above [] all = tt
  inner_members nodes h above (e ∷ es) all = (
    record {
      centre = e.point;
      centre_is = refl;
      is_point = all.0.0.point_fits;
      stored_is = all.0.0.parent_is;
      item = record { height = h; least = least_for s.dimension; rank_is = refl; sound = all.0.1; is_point = all.0.0.point_fits; covers = all.0.0.covers };
    },
    inner_members nodes h above es all.1,
  )

  -- the entries of a sound page
  pub members : (nodes : Nodes) (h least : ℕ) (above : Option (List ℕ)) (page : ℕ) (node : Node) → IsSoundAt s nodes h least above page → nodes page ≡ Some node →
      AllByRecursion (IsSoundMember s nodes above) (entries_of node)
  members nodes zero least above page node sound is =
      rw (same_node (nodes page) node (Leaf sound.0) is sound.1) (leaf_members nodes above sound.0 sound.3)
  members nodes (suc h) least above page node sound is =
      rw (same_node (nodes page) node (Inner (suc h) sound.0) is sound.1) (inner_members nodes h above sound.0 sound.3)

  pub leaf_split : (nodes : Nodes) (es : List LeafEntry) → map thing_of es ≡ flat_map (λ e. item_things nodes e.item) (map object_entry es)
  leaf_split nodes [] = refl
  leaf_split nodes (o ∷ os) = ap (λ r. thing_of o ∷ r) (leaf_split nodes os)

  pub inner_split : (nodes : Nodes) (h : ℕ) (es : List InnerEntry) → map thing_of (flat_map (λ e. objects_at nodes h e.child) es) ≡ flat_map (λ e. item_things nodes e.item) (map (subtree_entry (suc h)) es)
  inner_split nodes h [] = refl
  inner_split nodes h (e ∷ es) = map-append thing_of (objects_at nodes h e.child) (flat_map (λ e. objects_at nodes h e.child) es) ∙ ap (λ r. map thing_of (objects_at nodes h e.child) ++ r) (inner_split nodes h es)

  -- its objects are those of its entries
  pub split : (nodes : Nodes) (h least : ℕ) (above : Option (List ℕ)) (page : ℕ) (node : Node) → IsSoundAt s nodes h least above page → nodes page ≡ Some node →
      things_at nodes (suc h) page ≡ flat_map (λ e. item_things nodes e.item) (entries_of node)
  split nodes zero least above page node sound is =
      rw (same_node (nodes page) node (Leaf sound.0) is sound.1, sound.1) (leaf_split nodes sound.0)
  split nodes (suc h) least above page node sound is =
      rw (same_node (nodes page) node (Inner (suc h) sound.0) is sound.1, sound.1) (inner_split nodes h sound.0)

-- the parent test on numbers, for a pair
pub skip_numbers : (ab ea eb stored rho radius : ℕ) → stored ≡ ea → parent_rules_out ab stored rho radius ≡ true → ab ≤ ea + eb → ea ≤ eb + ab → rho + radius < eb
skip_numbers ab ea eb stored rho radius is test t1 t2 = grind (arith, nat_tests)

pub far_numbers : (d rho a b : ℕ) → pair_rules_out d rho a b ≡ true → rho + a + b < d
far_numbers d rho a b test = grind (arith, nat_tests)

-- members of the objects of some entries
pub in_split : (nodes : Nodes) (es : List Entry) (x : Thing) → IsIn x (flat_map (λ e. item_things nodes e.item) es) → (e : Entry) × IsIn e es × IsIn x (item_things nodes e.item)
in_split nodes [] x i = absurd i
in_split nodes (e ∷ es) x i =
    elim (in-append (item_things nodes e.item) (flat_map (λ e. item_things nodes e.item) es) x i)
    [ inl k ↦ (e, inl refl, k) | inr k ↦ (let deep = in_split nodes es x k in (deep.0, inr deep.1, deep.2)) ]

pub split_in : (nodes : Nodes) (es : List Entry) (e : Entry) (x : Thing) → IsIn e es → IsIn x (item_things nodes e.item) → IsIn x (flat_map (λ e. item_things nodes e.item) es)
split_in nodes [] e x k i = absurd k
split_in nodes (d ∷ es) e x k i =
    elim k [
      | inl same ↦ in-append_left (item_things nodes d.item) (flat_map (λ e. item_things nodes e.item) es) x (subst (λ (v : Entry). IsIn x (item_things nodes v.item)) same i)
      | inr w ↦ in-append_right (item_things nodes d.item) (flat_map (λ e. item_things nodes e.item) es) x (split_in nodes es e x w i)
    ]

-- a pair among those of these needs
abbrev pub AnyPair : Space → ℕ → Nodes → Nodes → List JoinNeed → Pair → Type 0
AnyPair s rho left right [] z = ⊥
AnyPair s rho left right (n ∷ ns) z = IsPairIn s rho (item_things left n.left) (item_things right n.right) z ⊎ AnyPair s rho left right ns z

pub record IsSoundNeed (s : Space) (left right : Nodes) (n : JoinNeed) : Type 0 where
  pub left_sound : IsSoundItem s left n.left
  pub right_sound : IsSoundItem s right n.right
  pub apart_is : n.apart ≡ apart_of s (centre_of n.left) (centre_of n.right)

pub item_fits : (s : Space) (nodes : Nodes) (item : Item) (c : List ℕ) → IsSoundItem s nodes item → centre_of item ≡ Some c → IsTrue (s.is_point c)
item_fits s nodes (Object id point) c sound is = let e : point ≡ c = cc in rw e at sound
item_fits s nodes (Subtree page rank None radius) c sound is = absurd (cc)
item_fits s nodes (Subtree page rank (Some d) radius) c sound is = let e : d ≡ c = cc in rw e at sound.is_point

-- the pair of an entry with the other item, and the other item, by side
abbrev pub with_side : Space → JoinNeed → Entry → Bool → JoinNeed
with_side s n e b =
    if b
    then record { left = n.left; right = e.item; apart = apart_of s (centre_of n.left) (centre_of e.item) }
    else record { left = e.item; right = n.right; apart = apart_of s (centre_of e.item) (centre_of n.right) }

abbrev pub other_side : JoinNeed → Bool → Item
other_side n b = if b then n.left else n.right

abbrev pub opened_side : JoinNeed → Bool → Item
opened_side n b = if b then n.right else n.left

module _ (j : JoinSearch) (axioms : IsSpace j.space) (left right : Nodes) where
  abbrev pub PairIn : JoinNeed → Pair → Type 0
  PairIn n z = IsPairIn j.space j.rho (item_things left n.left) (item_things right n.right) z

  abbrev pub Member : JoinNeed → Bool → Entry → Type 0
  Member n b e = IsSoundMember j.space (side_of left right b) (centre_of (opened_side n b)) e

  -- the far test on two items
  pub far_items : (a b : Item) → IsSoundItem j.space left a → IsSoundItem j.space right b → (p q : ℕ) → p + q ≡ radius_of a + radius_of b →
      far_apart (apart_of j.space (centre_of a) (centre_of b)) j.rho p q ≡ true → (z : Pair) → IsPairIn j.space j.rho (item_things left a) (item_things right b) z → ⊥
  far_items a b a_sound b_sound p q sum test z pair = cases (centre_of a) (centre_of b) refl refl test
    where
      cases : (ca cb : Option (List ℕ)) → centre_of a ≡ ca → centre_of b ≡ cb → far_apart (apart_of j.space ca cb) j.rho p q ≡ true → ⊥
      cases None cb i k t = cc
      cases (Some c) None i k t = cc
      cases (Some c) (Some d) i k t =
          let f = far_numbers (j.space.dist c d) j.rho p q t in
          far_none j.space axioms j.rho left right a b c d a_sound b_sound i k (item_fits j.space left a c a_sound i) (item_fits j.space right b d b_sound k) (omega arith) z pair

  pub far_pair : (n : JoinNeed) → IsSoundNeed j.space left right n → (e : Entry) → Member n (opens_right n) e → join_far j n e ≡ true → (z : Pair) → PairIn (with_entry j.space n e) z → ⊥
  far_pair n sound e member test z pair = cases (opens_right n) member test pair
    where
      cases : (b : Bool) → Member n b e → far_apart (with_side j.space n e b).apart j.rho (radius_of e.item) (radius_of (other_side n b)) ≡ true → PairIn (with_side j.space n e b) z → ⊥
      cases true m t p = far_items n.left e.item sound.left_sound m.item (radius_of e.item) (radius_of n.left) (omega arith) t z p
      cases false m t p = far_items e.item n.right m.item sound.right_sound (radius_of e.item) (radius_of n.right) refl t z p

  pub skip_pair : (n : JoinNeed) → IsSoundNeed j.space left right n → (e : Entry) → Member n (opens_right n) e → join_skips j.rho n e ≡ true → (z : Pair) → PairIn (with_entry j.space n e) z → ⊥
  skip_pair n sound e member test z pair =
      sides (opens_right n) (centre_of n.left) (centre_of n.right) refl refl member (rw sound.apart_is at test) pair
    where
      sides : (b : Bool) (cl cr : Option (List ℕ)) → centre_of n.left ≡ cl → centre_of n.right ≡ cr → Member n b e →
          far_stored (apart_of j.space cl cr) e.stored j.rho (radius_of e.item + radius_of (other_side n b)) ≡ true → PairIn (with_side j.space n e b) z → ⊥
      sides b None cr i k m t p = cc
      sides b (Some c) None i k m t p = cc
      sides true (Some c) (Some d) i k m t p =
          let c_fits = item_fits j.space left n.left c sound.left_sound i in
          let d_fits = item_fits j.space right n.right d sound.right_sound k in
          let stored : e.stored ≡ j.space.dist m.centre d = m.stored_is ∙ ap (λ (o : Option (List ℕ)). parent_distance j.space o m.centre) k in
          let far = skip_numbers (j.space.dist c d) (j.space.dist m.centre d) (j.space.dist c m.centre) e.stored j.rho (radius_of e.item + radius_of n.left) stored t
          (let u = axioms.triangle c m.centre d c_fits m.is_point d_fits in omega arith)
          (let u = axioms.triangle m.centre c d m.is_point c_fits d_fits in let v = axioms.symmetric m.centre c m.is_point c_fits in omega arith) in
          far_none j.space axioms j.rho left right n.left e.item c m.centre sound.left_sound m.item i m.centre_is c_fits m.is_point (omega arith) z p
      sides false (Some c) (Some d) i k m t p =
          let c_fits = item_fits j.space left n.left c sound.left_sound i in
          let d_fits = item_fits j.space right n.right d sound.right_sound k in
          let stored : e.stored ≡ j.space.dist m.centre c = m.stored_is ∙ ap (λ (o : Option (List ℕ)). parent_distance j.space o m.centre) i in
          let far = skip_numbers (j.space.dist c d) (j.space.dist m.centre c) (j.space.dist m.centre d) e.stored j.rho (radius_of e.item + radius_of n.right) stored t
          (let u = axioms.triangle c m.centre d c_fits m.is_point d_fits in let v = axioms.symmetric c m.centre c_fits m.is_point in omega arith)
          (let u = axioms.triangle m.centre d c m.is_point d_fits c_fits in let v = axioms.symmetric d c d_fits c_fits in omega arith) in
          far_none j.space axioms j.rho left right e.item n.right m.centre d m.item sound.right_sound m.centre_is k m.is_point d_fits (omega arith) z p

  -- the pair with an entry is sound
  pub next_sound : (n : JoinNeed) → IsSoundNeed j.space left right n → (e : Entry) → Member n (opens_right n) e → IsSoundNeed j.space left right (with_entry j.space n e)
  next_sound n sound e member = cases (opens_right n) member
    where
      cases : (b : Bool) → Member n b e → IsSoundNeed j.space left right (with_side j.space n e b)
      cases true m = record { left_sound = sound.left_sound; right_sound = m.item; apart_is = refl }
      cases false m = record { left_sound = m.item; right_sound = sound.right_sound; apart_is = refl }

  -- two objects
  pub hit_pair : (m : JoinNeed) → IsSoundNeed j.space left right m → is_hit m ≡ true → within_apart m.apart j.rho ≡ true → (z : Pair) → z ≡ pair_of m → PairIn m z
  hit_pair m sound hit near z is = cases m.left m.right m.apart sound.apart_is hit near is
    where
      cases : (a b : Item) (o : Option ℕ) → o ≡ apart_of j.space (centre_of a) (centre_of b) →
          (is_object a && is_object b) ≡ true → within_apart o j.rho ≡ true → z ≡ record { left = id_of a; right = id_of b; dist = dist_of o } →
          IsPairIn j.space j.rho (item_things left a) (item_things right b) z
      cases (Subtree page rank centre radius) b o e h w is = absurd (cc)
      cases (Object i p) (Subtree page rank centre radius) o e h w is = absurd (cc)
      cases (Object i p) (Object k q) o e h w is =
          record { x = record { id = i; point = p }; y = record { id = k; point = q }; x_in = inl refl; y_in = inl refl; near = (low (rw e at w)); is = (rw e at is) }
        where
          low : nat_le (j.space.dist p q) j.rho ≡ true → j.space.dist p q ≤ j.rho
          low t = grind (arith, nat_tests)

  pub pair_hit : (m : JoinNeed) → IsSoundNeed j.space left right m → is_hit m ≡ true → (z : Pair) → PairIn m z → z ≡ pair_of m
  pair_hit m sound hit z pair = cases m.left m.right m.apart sound.apart_is hit pair
    where
      cases : (a b : Item) (o : Option ℕ) → o ≡ apart_of j.space (centre_of a) (centre_of b) →
          (is_object a && is_object b) ≡ true → IsPairIn j.space j.rho (item_things left a) (item_things right b) z → z ≡ record { left = id_of a; right = id_of b; dist = dist_of o }
      cases (Subtree page rank centre radius) b o e h p = absurd (cc)
      cases (Object i u) (Subtree page rank centre radius) o e h p = absurd (cc)
      cases (Object i u) (Object k v) o e h p =
          rw e (p.is ∙ same (only p.x (record { id = i; point = u }) p.x_in) (only p.y (record { id = k; point = v }) p.y_in))
        where
          only : (x y : Thing) → IsIn x (y ∷ []) → x ≡ y
          only x y w = elim w [ inl e ↦ e | inr f ↦ absurd f ]

          same : p.x ≡ record { id = i; point = u } → p.y ≡ record { id = k; point = v } →
              ◌≡◌ {A = Pair} (record { left = p.x.id; right = p.y.id; dist = j.space.dist p.x.point p.y.point }) (record { left = i; right = k; dist = j.space.dist u v })
          same f g = cc

  -- the answers and the needed pairs that near pairs make
  abbrev pub NamedBy : List JoinNeed → Pair → Type 0
  NamedBy ms z = IsIn z (map pair_of (filter is_hit ms)) ⊎ AnyPair j.space j.rho left right (filter is_need ms) z

  pub named_here : (m : JoinNeed) (rest : List JoinNeed) → IsSoundNeed j.space left right m → (z : Pair) → PairIn m z → NamedBy (m ∷ rest) z
  named_here m rest sound z p = cases (is_hit m) refl
    where
      cases : (b : Bool) → is_hit m ≡ b → IsIn z (map pair_of (cond b (m ∷ filter is_hit rest) (filter is_hit rest)))
          ⊎ AnyPair j.space j.rho left right (cond (not b) (m ∷ filter is_need rest) (filter is_need rest)) z
      cases true e = inl (inl (pair_hit m sound e z p))
      cases false e = inr (inl p)

  pub named_more : (m : JoinNeed) (rest : List JoinNeed) (z : Pair) → NamedBy rest z → NamedBy (m ∷ rest) z
  named_more m rest z named = cases (is_hit m)
    where
      cases : (b : Bool) → IsIn z (map pair_of (cond b (m ∷ filter is_hit rest) (filter is_hit rest)))
          ⊎ AnyPair j.space j.rho left right (cond (not b) (m ∷ filter is_need rest) (filter is_need rest)) z
      cases true = elim named [ inl k ↦ inl (inr k) | inr k ↦ inr k ]
      cases false = elim named [ inl k ↦ inl k | inr k ↦ inr (inr k) ]

  pub unnamed : (m : JoinNeed) (rest : List JoinNeed) → IsSoundNeed j.space left right m → IsTrue (if is_hit m then within_apart m.apart j.rho else true) → (z : Pair) →
      NamedBy (m ∷ rest) z → PairIn m z ⊎ NamedBy rest z
  unnamed m rest sound allowed z named = cases (is_hit m) refl allowed named
    where
      cases : (b : Bool) → is_hit m ≡ b → IsTrue (if b then within_apart m.apart j.rho else true) →
          IsIn z (map pair_of (cond b (m ∷ filter is_hit rest) (filter is_hit rest)))
          ⊎ AnyPair j.space j.rho left right (cond (not b) (m ∷ filter is_need rest) (filter is_need rest)) z → PairIn m z ⊎ NamedBy rest z
      cases true e near named = elim named [ inl k ↦ elim k [ inl same ↦ inl (hit_pair m sound e near z same) | inr w ↦ inr (inl w) ] | inr k ↦ inr (inr k) ]
      cases false e near named = elim named [ inl k ↦ inr (inl k) | inr k ↦ elim k [ inl p ↦ inl p | inr w ↦ inr (inr w) ] ]

  module _ (n : JoinNeed) (sound : IsSoundNeed j.space left right n) where
    abbrev pub Members : List Entry → Type 0
    Members es = AllByRecursion (Member n (opens_right n)) es

    abbrev pub Allowed : List Entry → List Mark → Type 0
    Allowed es ms = AllZip (λ e m. IsTrue (allows_entry j n e m)) es ms

    abbrev pub near_of : List Entry → List Mark → List JoinNeed
    near_of es ms = map (with_entry j.space n) (near_ones es ms)

    pub entries_named : (es : List Entry) (ms : List Mark) → Members es → Allowed es ms → (z : Pair) (e : Entry) → IsIn e es → PairIn (with_entry j.space n e) z → NamedBy (near_of es ms) z
    entries_named [] ms members allowed z e k p = absurd k
    entries_named (d ∷ es) [] members allowed z e k p = absurd allowed
    entries_named (d ∷ es) (Skip ∷ ms) members allowed z e k p =
        elim k [
          | inl same ↦ absurd (skip_pair n sound d members.0 allowed.0 z (subst (λ (v : Entry). PairIn (with_entry j.space n v) z) same p))
          | inr w ↦ entries_named es ms members.1 allowed.1 z e w p
        ]
    entries_named (d ∷ es) (Far ∷ ms) members allowed z e k p =
        elim k [
          | inl same ↦ absurd (far_pair n sound d members.0 allowed.0 z (subst (λ (v : Entry). PairIn (with_entry j.space n v) z) same p))
          | inr w ↦ entries_named es ms members.1 allowed.1 z e w p
        ]
    entries_named (d ∷ es) (Near ∷ ms) members allowed z e k p =
        elim k [
          | inl same ↦ named_here (with_entry j.space n d) (near_of es ms) (next_sound n sound d members.0) z (subst (λ (v : Entry). PairIn (with_entry j.space n v) z) same p)
          | inr w ↦ named_more (with_entry j.space n d) (near_of es ms) z (entries_named es ms members.1 allowed.1 z e w p)
        ]

    abbrev pub EntryPair : List Entry → Pair → Type 0
    EntryPair es z = (e : Entry) × IsIn e es × PairIn (with_entry j.space n e) z

    pub later : (d : Entry) (es : List Entry) (z : Pair) → EntryPair es z → EntryPair (d ∷ es) z
    later d es z k = (k.0, inr k.1, k.2)

    pub named_entries : (es : List Entry) (ms : List Mark) → Members es → Allowed es ms → (z : Pair) → NamedBy (near_of es ms) z → EntryPair es z
    named_entries [] ms members allowed z named = elim named [ inl k ↦ absurd k | inr k ↦ absurd k ]
    named_entries (d ∷ es) [] members allowed z named = absurd allowed
    named_entries (d ∷ es) (Skip ∷ ms) members allowed z named = later d es z (named_entries es ms members.1 allowed.1 z named)
    named_entries (d ∷ es) (Far ∷ ms) members allowed z named = later d es z (named_entries es ms members.1 allowed.1 z named)
    named_entries (d ∷ es) (Near ∷ ms) members allowed z named =
        elim (unnamed (with_entry j.space n d) (near_of es ms) (next_sound n sound d members.0) allowed.0 z named)
        [ inl p ↦ (d, inl refl, p) | inr w ↦ later d es z (named_entries es ms members.1 allowed.1 z w) ]

  -- needed pairs are sound, and not of two objects
  abbrev pub IsGood : JoinNeed → Type 0
  IsGood n = IsSoundNeed j.space left right n × (is_hit n ≡ false)

  pub near_good : (n : JoinNeed) → IsSoundNeed j.space left right n → (es : List Entry) (ms : List Mark) → AllByRecursion (Member n (opens_right n)) es →
      AllByRecursion IsGood (filter is_need (map (with_entry j.space n) (near_ones es ms)))
  near_good n sound [] ms members = tt
  near_good n sound (e ∷ es) [] members = tt
  near_good n sound (e ∷ es) (Skip ∷ ms) members = near_good n sound es ms members.1
  near_good n sound (e ∷ es) (Far ∷ ms) members = near_good n sound es ms members.1
  near_good n sound (e ∷ es) (Near ∷ ms) members = cases (is_hit (with_entry j.space n e)) refl (near_good n sound es ms members.1)
    where
      cases : (b : Bool) → is_hit (with_entry j.space n e) ≡ b → AllByRecursion IsGood (filter is_need (map (with_entry j.space n) (near_ones es ms))) →
          AllByRecursion IsGood (cond (not b) (with_entry j.space n e ∷ filter is_need (map (with_entry j.space n) (near_ones es ms))) (filter is_need (map (with_entry j.space n) (near_ones es ms))))
      cases true k rest = rest
      cases false k rest = ((next_sound n sound e members.0, k), rest)

  pub item_opens : (nodes : Nodes) (it : Item) → IsSoundItem j.space nodes it → (rank_of it ≡ 0 → ⊥) → (node : Node) → nodes (page_of it) ≡ Some node →
      AllByRecursion (IsSoundMember j.space nodes (centre_of it)) (entries_of node) × (item_things nodes it ≡ flat_map (λ e. item_things nodes e.item) (entries_of node))
  item_opens nodes (Object id point) sound some node is = absurd (some refl)
  item_opens nodes (Subtree page rank centre radius) sound some node is = (
    members j.space axioms nodes sound.height sound.least centre page node sound.sound is,
    rw sound.rank_is (split j.space axioms nodes sound.height sound.least centre page node sound.sound is),
  )

  -- the item that is opened is none of rank 0
  pub opens_some : (n : JoinNeed) → IsSoundNeed j.space left right n → is_hit n ≡ false → rank_of (opened_side n (opens_right n)) ≡ 0 → ⊥
  opens_some n sound mixed none = cases n.left n.right (opens_right n) sound.left_sound sound.right_sound mixed refl none
    where
      cases : (a b : Item) (c : Bool) → IsSoundItem j.space left a → IsSoundItem j.space right b → (is_object a && is_object b) ≡ false → nat_lt (rank_of a) (rank_of b) ≡ c →
          rank_of (if c then b else a) ≡ 0 → ⊥
      cases (Object i u) (Object k v) c a_sound b_sound h e z = cc
      cases (Object i u) (Subtree page rank centre radius) true a_sound b_sound h e z = let r = b_sound.rank_is in omega arith
      cases (Object i u) (Subtree page rank centre radius) false a_sound b_sound h e z = let r = b_sound.rank_is in grind (arith, nat_tests)
      cases (Subtree page rank centre radius) b true a_sound b_sound h e z = grind (arith, nat_tests)
      cases (Subtree page rank centre radius) b false a_sound b_sound h e z = let r = a_sound.rank_is in omega arith

  pub to_entry : (n : JoinNeed) (es : List Entry) (z : Pair) → item_things (side_of left right (opens_right n)) (opened_side n (opens_right n)) ≡ flat_map (λ e. item_things (side_of left right (opens_right n)) e.item) es →
      PairIn n z → (e : Entry) × IsIn e es × PairIn (with_entry j.space n e) z
  to_entry n es z whole p = cases (opens_right n) whole
    where
      cases : (b : Bool) → item_things (side_of left right b) (opened_side n b) ≡ flat_map (λ e. item_things (side_of left right b) e.item) es → (e : Entry) × IsIn e es × PairIn (with_side j.space n e b) z
      cases true w =
          let k = in_split right es p.y (subst (λ (xs : List Thing). IsIn p.y xs) w p.y_in) in
          (k.0, k.1, record { x = p.x; y = p.y; x_in = p.x_in; y_in = k.2; near = p.near; is = p.is })
      cases false w =
          let k = in_split left es p.x (subst (λ (xs : List Thing). IsIn p.x xs) w p.x_in) in
          (k.0, k.1, record { x = p.x; y = p.y; x_in = k.2; y_in = p.y_in; near = p.near; is = p.is })

  pub from_entry : (n : JoinNeed) (es : List Entry) (z : Pair) → item_things (side_of left right (opens_right n)) (opened_side n (opens_right n)) ≡ flat_map (λ e. item_things (side_of left right (opens_right n)) e.item) es →
      (e : Entry) → IsIn e es → PairIn (with_entry j.space n e) z → PairIn n z
  from_entry n es z whole e k p = cases (opens_right n) whole p
    where
      cases : (b : Bool) → item_things (side_of left right b) (opened_side n b) ≡ flat_map (λ e. item_things (side_of left right b) e.item) es → PairIn (with_side j.space n e b) z → PairIn n z
      cases true w p = record { x = p.x; y = p.y; x_in = p.x_in; y_in = subst (λ (xs : List Thing). IsIn p.y xs) (sym w) (split_in right es e p.y k p.y_in); near = p.near; is = p.is }
      cases false w p = record { x = p.x; y = p.y; x_in = subst (λ (xs : List Thing). IsIn p.x xs) (sym w) (split_in left es e p.x k p.x_in); y_in = p.y_in; near = p.near; is = p.is }

  pub any_append : (ms ns : List JoinNeed) (z : Pair) → AnyPair j.space j.rho left right (ms ++ ns) z → AnyPair j.space j.rho left right ms z ⊎ AnyPair j.space j.rho left right ns z
  any_append [] ns z k = inr k
  any_append (m ∷ ms) ns z k = elim k [ inl p ↦ inl (inl p) | inr w ↦ elim (any_append ms ns z w) [ inl u ↦ inl (inr u) | inr u ↦ inr u ] ]

  pub append_left : (ms ns : List JoinNeed) (z : Pair) → AnyPair j.space j.rho left right ms z → AnyPair j.space j.rho left right (ms ++ ns) z
  append_left [] ns z k = absurd k
  append_left (m ∷ ms) ns z k = elim k [ inl p ↦ inl p | inr w ↦ inr (append_left ms ns z w) ]

  pub append_right : (ms ns : List JoinNeed) (z : Pair) → AnyPair j.space j.rho left right ns z → AnyPair j.space j.rho left right (ms ++ ns) z
  append_right [] ns z k = k
  append_right (m ∷ ms) ns z k = inr (append_right ms ns z k)

  -- the walk names the pairs of the needed items that are within rho, and no others
  abbrev pub JoinNames : List JoinRecord → Type 0
  JoinNames rs = (ns : List JoinNeed) (hits : List Pair) → AllByRecursion IsGood ns → JoinWalksBy JoinAllowed j left right ns rs hits → (z : Pair) →
      (IsIn z hits → AnyPair j.space j.rho left right ns z) × (AnyPair j.space j.rho left right ns z → IsIn z hits)

  pub join_names : (rs : List JoinRecord) → JoinNames rs
  join_names [] [] hits good walk z = ((λ k. let w : IsIn z [] = rw walk at k in w), (λ k. absurd k))
  join_names [] (n ∷ ns) hits good walk z = absurd walk
  join_names (r ∷ rs) [] hits good walk z = absurd walk
  join_names (r ∷ rs) (n ∷ ns) hits good walk z =
      let node : Node = walk.0 in
      let it : Item = opened_side n (opens_right n) in
      let opens = item_opens (side_of left right (opens_right n)) it (item_sound (opens_right n)) (opens_some n good.0.0 good.0.1) node walk.1 in
      let es : List Entry = entries_of node in
      let ms : List Mark = r.marks in
      let rest = join_names rs (join_needs j n node r.marks ++ ns) walk.5.0
      (both (join_needs j n node r.marks) (near_good n good.0.0 es ms opens.0) good.1) walk.5.1 z in (
        λ k. elim (in-append (join_hits j n node r.marks) walk.5.0 z (subst (λ (hs : List Pair). IsIn z hs) walk.5.2 k)) [
          | inl h ↦ inl (up opens.1 (named_entries n good.0.0 es ms opens.0 walk.4 z (inl h)))
          | inr h ↦ elim (any_append (join_needs j n node r.marks) ns z (rest.0 h))
              [ inl u ↦ inl (up opens.1 (named_entries n good.0.0 es ms opens.0 walk.4 z (inr u))) | inr u ↦ inr u ]
        ],
        λ k. subst (λ (hs : List Pair). IsIn z hs) (sym walk.5.2)
            (elim k [
              | inl p ↦ (let e = to_entry n es z opens.1 p in
                  elim (entries_named n good.0.0 es ms opens.0 walk.4 z e.0 e.1 e.2) [
                    | inl h ↦ in-append_left (join_hits j n node r.marks) walk.5.0 z h
                    | inr u ↦ in-append_right (join_hits j n node r.marks) walk.5.0 z (rest.1 (append_left (join_needs j n node r.marks) ns z u))
                  ])
              | inr w ↦ in-append_right (join_hits j n node r.marks) walk.5.0 z (rest.1 (append_right (join_needs j n node r.marks) ns z w))
            ]),
      )
    where
      item_sound : (b : Bool) → IsSoundItem j.space (side_of left right b) (opened_side n b)
      item_sound true = good.0.0.right_sound
      item_sound false = good.0.0.left_sound

      both : (xs : List JoinNeed) → AllByRecursion IsGood xs → AllByRecursion IsGood ns → AllByRecursion IsGood (xs ++ ns)
      both [] a b = b
      both (x ∷ xs) a b = (a.0, both xs a.1 b)

      up : item_things (side_of left right (opens_right n)) (opened_side n (opens_right n)) ≡ flat_map (λ e. item_things (side_of left right (opens_right n)) e.item) (entries_of walk.0) →
          (e : Entry) × IsIn e (entries_of walk.0) × PairIn (with_entry j.space n e) z → PairIn n z
      up whole e = from_entry n (entries_of walk.0) z whole e.0 e.1 e.2
