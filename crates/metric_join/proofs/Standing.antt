-- The pairs that wait: which items they hold, and how much there is still to walk.
use Rattle.std.proofs.Common.{◌≡◌, ℕ, zero, suc, ◌+◌, ◌-◌, ◌*◌, ◌^◌, ◌<◌, ◌≤◌, Bool, true, false, List, [], ◌∷◌, ◌++◌, refl, sym, ap, subst, ◌∙◌, arith, length, map}
use Rattle.std.specs.Prelude.{IsTrue, not, filter, nat_lt, ◌&&◌, if◌then◌else◌}
use Rattle.std.specs.List.{AllByRecursion}
use Rattle.std.proofs.Math.Nat.{pow-suc, one-le-pow, suc-mul}
use Rattle.std.proofs.lemmas.Bool.Decides.{nat_tests}
use Rattle.std.proofs.lemmas.List.{length-map}
use Rattle.metric_laws.specs.Space.{Space}
use Rattle.metric_laws.proofs.Published.{all_filter}
use Rattle.tree_shape.specs.declared.live.Live.{Live}
use Rattle.tree_shape.specs.declared.entry.LeafEntry.{LeafEntry}
use Rattle.tree_shape.specs.declared.entry.InnerEntry.{InnerEntry}
use Rattle.tree_shape.specs.declared.entry.Node.{Node}
use Rattle.tree_shape.specs.declared.entry.Node.TheVariants.{Leaf, Inner}
use Rattle.node_page.specs.Nodes.{IsValidNode}
use Rattle.page_store.specs.Reading.{nodes_of}
use Rattle.page_store.specs.Shelf.{Shelf}
use Rattle.log_model.specs.declared.marks.Mark.{Mark}
use Rattle.log_model.specs.declared.marks.Mark.TheVariants.{Skip, Far, Near}
use Rattle.log_model.specs.Items.{Item, Subtree, Object}
use Rattle.log_model.specs.declared.pairs.JoinNeed.{JoinNeed}
use Rattle.log_model.specs.Walk.{near_ones}
use Rattle.log_model.specs.JoinWalk.{JoinSearch, Entry, object_entry, subtree_entry, entries_of, rank_of, page_of, is_object, opens_right, with_entry, is_need}
use Rattle.log_model.proofs.Published.{with_side, opened_side}
use Rattle.log_model.specs.JoinSteps.{needs_among}
use Rattle.page_store.specs.Tours.{children, IsWhole}
use Rattle.metric_join.specs.declared.walking.Waiting.{Waiting}
use Rattle.metric_join.specs.Steps.{following, weight, weight_of, needs_in, marks_for, pairs_for, IsStanding, IsWaiting}

-- the opened item of a pair that is needed is a subtree, and the walk from it is whole

module _ (left right : Shelf) (lroom rroom : ℕ) where
  whole_left : (a b : Item) → IsTrue (not (is_object a && is_object b)) → IsStanding left a lroom → IsStanding right b rroom → nat_lt (rank_of a) (rank_of b) ≡ false → IsTrue left.is_known →
      IsWhole (nodes_of left.read) (page_of a) lroom
  whole_left (Subtree page rank centre radius) b need sa sb opens is_known = sa.1 is_known
  whole_left (Object id point) (Subtree page rank centre radius) need sa sb opens is_known = let some = sb.0 in absurd (let e : ⊥ = grind (arith, nat_tests) in e)
  whole_left (Object id point) (Object id2 point2) need sa sb opens is_known = absurd (cc)

  whole_right : (a b : Item) → IsStanding right b rroom → nat_lt (rank_of a) (rank_of b) ≡ true → IsTrue right.is_known → IsWhole (nodes_of right.read) (page_of b) rroom
  whole_right a (Subtree page rank centre radius) sb opens is_known = sb.1 is_known
  whole_right a (Object id point) sb opens is_known = absurd (let e : ⊥ = grind (arith, nat_tests) in e)

-- the side and the room of the opened item
abbrev pub shelf_on : Shelf → Shelf → Bool → Shelf
shelf_on left right b = if b then right else left

abbrev pub room_on : Waiting → Bool → ℕ
room_on w b = if b then w.right_room else w.left_room

module _ (l r : Live) (left right : Shelf) (lefts rights : ℕ) (w : Waiting) (waits : IsWaiting l r left right lefts rights w) where
  pub opened_whole : (b : Bool) → opens_right w.need ≡ b → IsTrue (shelf_on left right b).is_known → IsWhole (nodes_of (shelf_on left right b).read) (page_of (opened_side w.need b)) (room_on w b)
  opened_whole false opens is_known = whole_left left right w.left_room w.right_room w.need.left w.need.right waits.need waits.left_stands waits.right_stands opens is_known
  opened_whole true opens is_known = whole_right left right w.left_room w.right_room w.need.left w.need.right waits.right_stands opens is_known

-- the items of a node's entries
objects_stand : (shelf : Shelf) (room : ℕ) (es : List LeafEntry) → AllByRecursion (λ e. IsStanding shelf e.item room) (map object_entry es)
objects_stand shelf room [] = tt
objects_stand shelf room (e ∷ es) = (tt, objects_stand shelf room es)

subtrees_stand : (shelf : Shelf) (room level : ℕ) (es : List InnerEntry) → 1 ≤ level → (IsTrue shelf.is_known → AllByRecursion (λ c. IsWhole (nodes_of shelf.read) c room) (map (λ e. e.child) es)) →
    AllByRecursion (λ e. IsStanding shelf e.item room) (map (subtree_entry level) es)
subtrees_stand shelf room level [] some whole = tt
subtrees_stand shelf room level (e ∷ es) some whole = ((some, λ is_known. (whole is_known).0), subtrees_stand shelf room level es some (λ is_known. (whole is_known).1))

pub entries_stand : (shelf : Shelf) (room dim : ℕ) (node : Node) → IsValidNode dim node → (IsTrue shelf.is_known → AllByRecursion (λ c. IsWhole (nodes_of shelf.read) c room) (children node)) →
    AllByRecursion (λ e. IsStanding shelf e.item room) (entries_of node)
entries_stand shelf room dim (Leaf es) valid whole = objects_stand shelf room es
entries_stand shelf room dim (Inner level es) valid whole = subtrees_stand shelf room level es valid.0 whole

-- the pairs that follow

abbrev pub left_after : Waiting → Bool → ℕ
left_after w b = if b then w.left_room else w.left_room - 1

abbrev pub right_after : Waiting → Bool → ℕ
right_after w b = if b then w.right_room - 1 else w.right_room

following_is : (w : Waiting) (n : JoinNeed) (b : Bool) → opens_right w.need ≡ b → following w n ≡ record { need = n; left_room = left_after w b; right_room = right_after w b }
following_is w n b opens = ap (λ (c : Bool). if c then record { need = n; left_room = w.left_room; right_room = w.right_room - 1 } else record { need = n; left_room = w.left_room - 1; right_room = w.right_room }) opens ∙ cases b
  where
    cases : (c : Bool) → ◌≡◌ {A = Waiting} (if c then record { need = n; left_room = w.left_room; right_room = w.right_room - 1 } else record { need = n; left_room = w.left_room - 1; right_room = w.right_room })
        (record { need = n; left_room = left_after w c; right_room = right_after w c })
    cases true = refl
    cases false = refl

pub needs_follow : (w : Waiting) (ns : List JoinNeed) → needs_in (map (following w) ns) ≡ ns
needs_follow w [] = refl
needs_follow w (n ∷ ns) = λ i. need_is (opens_right w.need) refl i ∷ needs_follow w ns i
  where
    need_is : (b : Bool) → opens_right w.need ≡ b → (following w n).need ≡ n
    need_is b opens = ap (λ (v : Waiting). v.need) (following_is w n b opens)

abbrev Stands : Shelf → Shelf → ℕ → ℕ → JoinNeed → Type 0
Stands left right lroom rroom n = IsStanding left n.left lroom × IsStanding right n.right rroom

stands_with : (left right : Shelf) (lroom rroom : ℕ) (s : Space) (n : JoinNeed) (e : Entry) (b : Bool) → opens_right n ≡ b →
    Stands left right lroom rroom (with_side s n e b) → Stands left right lroom rroom (with_entry s n e)
stands_with left right lroom rroom s n e b opens stands = subst (λ (c : Bool). Stands left right lroom rroom (with_side s n e c)) (sym opens) stands

near_stand : (left right : Shelf) (lroom rroom : ℕ) (s : Space) (n : JoinNeed) (es : List Entry) (ms : List Mark) → AllByRecursion (λ e. Stands left right lroom rroom (with_entry s n e)) es →
    AllByRecursion (Stands left right lroom rroom) (map (with_entry s n) (near_ones es ms))
near_stand left right lroom rroom s n [] ms all = tt
near_stand left right lroom rroom s n (e ∷ es) [] all = tt
near_stand left right lroom rroom s n (e ∷ es) (Skip ∷ ms) all = near_stand left right lroom rroom s n es ms all.1
near_stand left right lroom rroom s n (e ∷ es) (Far ∷ ms) all = near_stand left right lroom rroom s n es ms all.1
near_stand left right lroom rroom s n (e ∷ es) (Near ∷ ms) all = (all.0, near_stand left right lroom rroom s n es ms all.1)

holds_filtered : {X : Type 0} (p : X → Bool) (xs : List X) → AllByRecursion (λ x. IsTrue (p x)) (filter p xs)
holds_filtered p [] = tt
holds_filtered p (x ∷ xs) = cases (p x) refl (holds_filtered p xs)
  where
    cases : (b : Bool) → p x ≡ b → AllByRecursion (λ y. IsTrue (p y)) (filter p xs) → AllByRecursion (λ y. IsTrue (p y)) (if b then x ∷ filter p xs else filter p xs)
    cases true is rest = (is, rest)
    cases false is rest = rest

module _ (l r : Live) (left right : Shelf) (lefts rights : ℕ) (w : Waiting) (b : Bool) (opens : opens_right w.need ≡ b)
    (left_room : l.pages ≤ left_after w b + lefts) (right_room : r.pages ≤ right_after w b + rights) where
  follows : (ns : List JoinNeed) → AllByRecursion (Stands left right (left_after w b) (right_after w b)) ns → AllByRecursion (λ n. IsTrue (is_need n)) ns →
      AllByRecursion (IsWaiting l r left right lefts rights) (map (following w) ns)
  follows [] stands needs = tt
  follows (n ∷ ns) stands needs = (
    subst (IsWaiting l r left right lefts rights) (sym (following_is w n b opens))
        (record { need = needs.0; left_stands = stands.0.0; right_stands = stands.0.1; left_room = left_room; right_room = right_room }),
    follows ns stands.1 needs.1,
  )

  pub needs_wait : (j : JoinSearch) (es : List Entry) → AllByRecursion (λ e. Stands left right (left_after w b) (right_after w b) (with_side j.space w.need e b)) es →
      AllByRecursion (IsWaiting l r left right lefts rights) (map (following w) (needs_among (pairs_for j w.need es)))
  needs_wait j es all =
      follows (needs_among (pairs_for j w.need es))
      (all_filter (Stands left right (left_after w b) (right_after w b)) is_need (pairs_for j w.need es)
      (near_stand left right (left_after w b) (right_after w b) j.space w.need es (marks_for j w.need es) (each es all)))
      (holds_filtered is_need (pairs_for j w.need es))
    where
      each : (xs : List Entry) → AllByRecursion (λ e. Stands left right (left_after w b) (right_after w b) (with_side j.space w.need e b)) xs →
          AllByRecursion (λ e. Stands left right (left_after w b) (right_after w b) (with_entry j.space w.need e)) xs
      each [] stands = tt
      each (x ∷ xs) stands = (stands_with left right (left_after w b) (right_after w b) j.space w.need x b opens stands.0, each xs stands.1)

-- as many pairs are needed as there are entries at the most

near_few : {X : Type 0} (es : List X) (ms : List Mark) → length (near_ones es ms) ≤ length es
near_few [] ms = omega arith
near_few (e ∷ es) [] = omega arith
near_few (e ∷ es) (Skip ∷ ms) = let ih = near_few es ms in omega arith
near_few (e ∷ es) (Far ∷ ms) = let ih = near_few es ms in omega arith
near_few (e ∷ es) (Near ∷ ms) = let ih = near_few es ms in omega arith

filter_few : {X : Type 0} (p : X → Bool) (xs : List X) → length (filter p xs) ≤ length xs
filter_few p [] = omega arith
filter_few p (x ∷ xs) = cases (p x) (filter_few p xs)
  where
    cases : (b : Bool) → length (filter p xs) ≤ length xs → length (if b then x ∷ filter p xs else filter p xs) ≤ suc (length xs)
    cases true few = omega (arith, few)
    cases false few = omega (arith, few)

pub needs_few : (j : JoinSearch) (n : JoinNeed) (es : List Entry) → length (needs_among (pairs_for j n es)) ≤ length es
needs_few j n es =
    let one = filter_few is_need (pairs_for j n es) in
    let two = length-map (near_ones es (marks_for j n es)) (with_entry j.space n) in
    let three = near_few es (marks_for j n es) in
    omega arith

pub entries_few : (dim : ℕ) (node : Node) → IsValidNode dim node → length (entries_of node) ≤ 32
entries_few dim (Leaf es) valid =
    let few = valid.0 in
    let same = length-map es object_entry in
    omega arith
entries_few dim (Inner level es) valid =
    let few = valid.3 in
    let same = length-map es (subtree_entry level) in
    omega arith

-- how much there is still to walk

weight_append : (vs ws : List Waiting) → weight (vs ++ ws) ≡ weight vs + weight ws
weight_append [] ws = omega arith
weight_append (v ∷ vs) ws = let ih = weight_append vs ws in omega arith

weight_follows : (w : Waiting) (b : Bool) → opens_right w.need ≡ b → (ns : List JoinNeed) (k : ℕ) → length ns ≤ k → weight (map (following w) ns) ≤ k * 33 ^ (left_after w b + right_after w b)
weight_follows w b opens [] k few = omega arith
weight_follows w b opens (n ∷ ns) zero few = absurd (omega arith)
weight_follows w b opens (n ∷ ns) (suc k) few =
    let ih = weight_follows w b opens ns k (omega (arith, few)) in
    let one : weight_of (following w n) ≡ 33 ^ (left_after w b + right_after w b) = ap weight_of (following_is w n b opens) in
    let more = suc-mul k (33 ^ (left_after w b + right_after w b)) in
    omega (arith, ih, one, more)

pub lighter : (w : Waiting) (b : Bool) → opens_right w.need ≡ b → 1 ≤ room_on w b → (ns : List JoinNeed) (rest : List Waiting) → length ns ≤ 32 →
    weight (map (following w) ns ++ rest) < weight_of w + weight rest
lighter w b opens room ns rest few =
    let below = weight_follows w b opens ns 32 few in
    let both = weight_append (map (following w) ns) rest in
    let one = less b room in
    let power : weight_of w ≡ 33 ^ (left_after w b + right_after w b) * 33 = ap (λ (k : ℕ). 33 ^ k) one ∙ pow-suc 33 (left_after w b + right_after w b) in
    let some = one-le-pow (left_after w b + right_after w b) 33 (let e : 0 < 33 = omega arith in e) in
    omega (arith, below, both, power, some)
  where
    less : (c : Bool) → 1 ≤ room_on w c → w.left_room + w.right_room ≡ suc (left_after w c + right_after w c)
    less true some = omega arith
    less false some = omega arith
