-- What an insertion places.
use Rattle.std.proofs.Common.{◌≡◌, ◌≢◌, ℕ, zero, suc, ◌-◌, ◌*◌, ◌^◌, ◌<◌, ◌≤◌, List, [], ◌∷◌, refl, sym, ap, ◌∙◌, arith, length, subst, inl, inr, length-append}
use Rattle.std.specs.Prelude.{Option, None, IsTrue}
use Rattle.std.specs.List.{AllByRecursion}
use Rattle.metric_laws.specs.Space.{Space, IsSpace}
use Rattle.tree_shape.specs.declared.live.Live.{Live}
use Rattle.tree_shape.specs.declared.entry.Node.{Node}
use Rattle.tree_shape.specs.Fill.{most_for, least_for}
use Rattle.tree_shape.specs.Plain.{tree_at, tree_of}
use Rattle.tree_shape.proofs.Published.{three_at_least}
use Rattle.tree_growth.specs.Insertion.{Rules, rules, rules_for, inserted}
use Rattle.node_page.specs.Heads.{IsValidHead}
use Rattle.node_page.specs.Nodes.{IsValidNode}
use Rattle.node_page.specs.declared.head.Head.{Head}
use Rattle.page_store.specs.declared.staging.Placed.{Placed}
use Rattle.page_store.specs.Shelf.{Shelf}
use Rattle.page_store.specs.Reading.{nodes_of}
use Rattle.page_store.proofs.Published.{limit_small, numbered_long}
use Rattle.insert_path.specs.declared.faults.PlaceFault.TheVariants.{NoRoom}
use Rattle.insert_path.specs.declared.grew.Grew.{Grew}
use Rattle.insert_path.specs.declared.grew.Grew.TheVariants.{One, Two}
use Rattle.insert_path.specs.Walk.{inner_ball}
use Rattle.insert_path.specs.Causes.{HasPlaceCause}
use Rattle.insert_path.specs.Placing.{place_fault, fresh, fresh_root, fresh_of, HasWalked}
use Rattle.insert_path.specs.Descent.{Plan, rules_of, leaf_ball, leaf_with, inner_with, IsStaged, Descends, Roots, Walks}
use Rattle.insert_path.proofs.Level.{small_descends}
use Rattle.insert_path.proofs.Walked.{descends_parity, descends_long, descends_left}
use Rattle.insert_path.proofs.Rooted.{root_faultless, root_long, root_writable}
use Rattle.insert_path.proofs.Writable.{descends_writable}
use Rattle.page_store.specs.declared.settling.RoomFault.TheVariants.{NoRoom as Room}
use Rattle.page_store.specs.Placing.{HasRoomCause}
use Rattle.page_store.specs.Numbers.{numbered}

pub count_small : (head : Head) (count : ℕ) → IsValidHead head → count ≤ head.limit → count ≢ head.limit → count < 2 ^ 24
count_small head count valid most other = let l = limit_small head.limit valid.limit in omega (arith, l, most, other)

-- the rules of a plan whose nodes are filled as the space asks
pub rules_same : (s : Space) (promote split most least dim : ℕ) → most ≡ most_for dim → least ≡ least_for dim → s.dimension ≡ dim → rules_for s promote split most least ≡ rules s promote split
rules_same s promote split most least dim is_most is_least dimension =
    ap (λ (m : ℕ). rules_for s promote split m least) (is_most ∙ ap most_for (sym dimension)) ∙ ap (λ (l : ℕ). rules_for s promote split (most_for s.dimension) l) (is_least ∙ ap least_for (sym dimension))

-- the page of a node that has grown is one that was given
abbrev pub IsGiven : (ℕ → ℕ) → ℕ → Grew → Type 0
IsGiven number many (One page) = (i : ℕ) × (i < many) × (page ≡ number i)
IsGiven number many (Two c d) = Unit {0}

pub staged_given : {E : Type 0} (P : Plan) (ball : E → _) (set : E → ℕ → E) (make : List E → Node) (es : List E) (old new : List Node) (g : Grew) → IsStaged P ball set make es old new g → IsGiven P.number (length new) g
staged_given P ball set make es old new g staged = elim staged [
  | inl w ↦ subst (IsGiven P.number (length new)) (sym w.grew) (length old, (let n = ap length w.staged ∙ length-append old (make es ∷ []) in omega (arith, n)), refl)
  | inr k ↦ subst (IsGiven P.number (length new)) (sym k.1.grew) tt
]

pub descends_given : (P : Plan) (shelf : Shelf) (h page : ℕ) (above : Option (List ℕ)) (l0 : List ℕ) (old : List Node) (l1 : List ℕ) (nodes : List Node) (g : Grew) → Descends P shelf h page above l0 old l1 nodes g → IsGiven P.number (length nodes) g
descends_given P shelf zero page above l0 old l1 nodes g d = staged_given P leaf_ball leaf_with _ _ old nodes g d.3
descends_given P shelf (suc h) page above l0 old l1 nodes g d = staged_given P inner_ball inner_with _ _ d.2 nodes g d.8

pub walks_given : (P : Plan) (shelf : Shelf) (t : Live) (left : List ℕ) (nodes : List Node) (root height : ℕ) → Walks P shelf t left nodes root height → (i : ℕ) × (i < length nodes) × (root ≡ P.number i)
walks_given P shelf t left nodes root height w = cases w.1 (descends_given P shelf t.height t.root None [] [] left w.0 w.1 w.2) w.3
  where
    cases : (g : Grew) → IsGiven P.number (length w.0) g → Roots P.number t.height g w.0 nodes root height → (i : ℕ) × (i < length nodes) × (root ≡ P.number i)
    cases (One page) given roots = (given.0, (let n = ap length roots.0 in let l = given.1 in omega (arith, n, l)), roots.1 ∙ given.2)
    cases (Two c d) given roots = (length w.0, (let n = ap length roots.1 ∙ length-append w.0 _ in omega (arith, n)), roots.2)

pub walks_height : (P : Plan) (shelf : Shelf) (t : Live) (left : List ℕ) (nodes : List Node) (root height : ℕ) → t.height ≤ 14 → Walks P shelf t left nodes root height → height ≤ 14
walks_height P shelf t left nodes root height high w = cases w.1 w.3
  where
    cases : (g : Grew) → Roots P.number t.height g w.0 nodes root height → height ≤ 14
    cases (One page) roots = let e = roots.2 in omega (arith, e, high)
    cases (Two c d) roots = let e = roots.3 in let l = roots.0 in omega (arith, e, l)

pub walks_writable : (P : Plan) (shelf : Shelf) (t : Live) (left : List ℕ) (nodes : List Node) (root height : ℕ) → P.most ≡ most_for shelf.dim → 1 ≤ P.least → 2 * P.least ≤ P.most → length P.object.point ≡ shelf.dim → Walks P shelf t left nodes root height →
    AllByRecursion (IsValidNode shelf.dim) nodes
walks_writable P shelf t left nodes root height most some room long w =
    let below = descends_writable P shelf most some long t.height t.root None [] [] left w.0 w.1 w.2 tt in
    root_writable shelf.dim P.number t.height w.1 w.0 nodes root height (omega (arith, most, some, room)) w.3 below.1 (small_descends P shelf t.height t.root None [] [] left w.0 w.1 w.2) below.0

pub walks_long : (P : Plan) (shelf : Shelf) → IsTrue shelf.is_known → (t : Live) (left : List ℕ) (nodes : List Node) (root height : ℕ) → Walks P shelf t left nodes root height →
    length nodes ≡ length (fresh_of (rules_of P) P.object (tree_of (nodes_of shelf.read) t))
walks_long P shelf is_known t left nodes root height w =
    let deep = descends_long P shelf is_known t.height t.root None [] [] left w.0 w.1 w.2 in
    let top = root_long P.number t.height w.1 w.0 nodes root height w.3 (inserted (rules_of P) P.object t.height (tree_at (nodes_of shelf.read) t.height t.root))
    (descends_parity P shelf is_known t.height t.root None [] [] left w.0 w.1 w.2) in
    let all = length-append (fresh (rules_of P) P.object t.height (tree_at (nodes_of shelf.read) t.height t.root)) (fresh_root t.height (inserted (rules_of P) P.object t.height (tree_at (nodes_of shelf.read) t.height t.root))) in
    omega (arith, deep, top, all)

-- there is no room
pub room_cause : (P : Plan) (old new : Shelf) (R : Rules) (numbers : List ℕ) (t : Live) (left : List ℕ) (nodes : List Node) (root height pages needed : ℕ) → rules_of P ≡ R → Walks P old t left nodes root height →
    HasRoomCause t (length nodes - length numbers) (Room pages needed) → HasPlaceCause P.space R numbers t P.object old new (NoRoom pages needed)
room_cause P old new R numbers t left nodes root height pages needed same w cause = (
  cause.0,
  cause.2,
  λ is_known. (
    ap (λ (Q : Rules). place_fault P.space Q old.read t P.object) (sym same) ∙ root_faultless P old is_known t left w.0 nodes w.1 root height w.2 w.3,
    cause.1 ∙ ap (λ (k : ℕ). k - length numbers) (walks_long P old is_known t left nodes root height w ∙ ap (λ (Q : Rules). length (fresh_of Q P.object (tree_of (nodes_of old.read) t))) same),
  ),
)

-- what the walk made
pub has_walked : (P : Plan) (shelf : Shelf) (R : Rules) → IsTrue shelf.is_known → (t : Live) (nodes : List Node) (root height : ℕ) (placed : Placed) → rules_of P ≡ R → placed.staged ≡ numbered P.number 0 nodes → Walks P shelf t placed.left nodes root height →
    HasWalked P.space R shelf.read t P.object placed
has_walked P shelf R is_known t nodes root height placed same staged w = record {
  faultless = ap (λ (Q : Rules). place_fault P.space Q shelf.read t P.object) (sym same) ∙ root_faultless P shelf is_known t placed.left w.0 nodes w.1 root height w.2 w.3;
  many = ap length staged ∙ numbered_long P.number 0 nodes ∙ walks_long P shelf is_known t placed.left nodes root height w ∙ ap (λ (Q : Rules). length (fresh_of Q P.object (tree_of (nodes_of shelf.read) t))) same;
  left = descends_left P shelf is_known t.height t.root None [] [] placed.left w.0 w.1 w.2;
}

-- the numbers of entries that a node may have
pub fill_room : (s : Space) (most least dim : ℕ) → IsSpace s → s.dimension ≡ dim → most ≡ most_for dim → least ≡ least_for dim → (1 ≤ least) × (2 * least ≤ most)
fill_room s most least dim space dimension is_most is_least =
    let few = space.few_coordinates in
    let three = three_at_least dim (omega (arith, few, dimension)) in
    (omega (arith, three, is_least), omega (arith, is_most, is_least))
