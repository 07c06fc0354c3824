-- Insertion (VLDB 1997, section 3.3).
use Rattle.std.specs.Prelude.{◌≡◌, ℕ, zero, suc, ◌+◌, ◌-◌, ◌<◌, max, Bool, not, List, [], ◌∷◌, ◌++◌, length, map, filter, Option, Some, None, if◌then◌else◌, nat_le, count_by}
use Rattle.std.specs.List.{AllByRecursion}
use Rattle.metric_laws.specs.Space.{Space}
use Rattle.tree_shape.specs.Fill.{most_for, least_for}
use Rattle.tree_shape.specs.Plain.{Object, Branch, Plain, Tall, objects_of}
use Rattle.tree_growth.specs.Dealing.{Ball, Split, first_least, split_of}
use Rattle.tree_growth.specs.declared.rules.Aim.{Aim}

-- the entries as a new point sees them; the first has the place `i`
abbrev pub aims : Space → List ℕ → ℕ → List Ball → List Aim
aims s p i [] = []
aims s p i (b ∷ bs) = record { place = i; radius = b.1; dist = s.dist p b.0 } ∷ aims s p (i + 1) bs

abbrev pub is_inside : Aim → Bool
is_inside a = nat_le a.dist a.radius

abbrev pub is_outside : Aim → Bool
is_outside a = not (is_inside a)

-- by how much the covering radius has to grow
abbrev pub excess : Aim → ℕ
excess a = a.dist - a.radius

abbrev pub place_of : Option Aim → ℕ
place_of None = 0
place_of (Some a) = a.place

abbrev pub or_else : Option Aim → Option Aim → Option Aim
or_else None b = b
or_else (Some a) b = Some a

-- the nearest of the entries that cover the point; where none does, the entry whose covering radius grows least; ties go to the
-- lowest place
abbrev pub chosen_of : List Aim → Option Aim
chosen_of seen = or_else (first_least (λ a. a.dist) (filter is_inside seen)) (first_least excess (filter is_outside seen))

abbrev pub chosen : Space → List Ball → List ℕ → ℕ
chosen s bs p = place_of (chosen_of (aims s p 0 bs))

-- the rules that an insertion follows: the greatest number of a node's entries, the distance, the choice and the split
pub record Rules : Type 0 where
  pub most : ℕ
  pub dist : List ℕ → List ℕ → ℕ
  pub choose : List Ball → List ℕ → ℕ
  pub split : List Ball → Split

-- the rules of a space with a promotion and a partition, for nodes of at most `most` and at least `least` entries
abbrev pub rules_for : Space → ℕ → ℕ → ℕ → ℕ → Rules
rules_for s promote split most least = record { most = most; dist = s.dist; choose = chosen s; split = split_of s promote split least }

abbrev pub rules : Space → ℕ → ℕ → Rules
rules s promote split = rules_for s promote split (most_for s.dimension) (least_for s.dimension)

-- what a node has grown into: itself, or two halves with their routing points and radii
pub data Grown (X : Type 0) : Type 0 where
  One : X → Grown X
  Two : Branch X → Branch X → Grown X

-- the elements that a mask takes, and the elements that it leaves, in their old order
abbrev pub taken : {X : Type 0} → List Bool → List X → List X
taken [] xs = []
taken (m ∷ ms) [] = []
taken (m ∷ ms) (x ∷ xs) = if m then x ∷ taken ms xs else taken ms xs

abbrev pub left : {X : Type 0} → List Bool → List X → List X
left [] xs = xs
left (m ∷ ms) [] = []
left (m ∷ ms) (x ∷ xs) = if m then left ms xs else x ∷ left ms xs

abbrev pub branch : {X : Type 0} → Ball → X → Branch X
branch b x = record { point = b.0; radius = b.1; below = x }

-- a node with more than the most entries is split
abbrev pub fit : {X : Type 0} → Rules → (X → Ball) → List X → Grown (List X)
fit R ball xs =
    if nat_le (length xs) R.most then One xs
    else Two (branch (R.split (map ball xs)).first (taken (R.split (map ball xs)).mask xs))
    (branch (R.split (map ball xs)).second (left (R.split (map ball xs)).mask xs))

-- a branch whose subtree has grown: its radius reaches the new point; of two halves the first takes the branch's place, and the
-- second is appended
abbrev pub with_grown : {X : Type 0} → ℕ → Branch X → Grown X → List (Branch X) → List (Branch X)
with_grown d b (One x) bs = record { point = b.point; radius = max b.radius d; below = x } ∷ bs
with_grown d b (Two c e) bs = c ∷ (bs ++ e ∷ [])

-- the branches of a node, where the branch at a place grows
abbrev pub grown_at : {X : Type 0} → (X → Grown X) → (List ℕ → ℕ) → ℕ → List (Branch X) → List (Branch X)
grown_at grow far i [] = []
grown_at grow far zero (b ∷ bs) = with_grown (far b.point) b (grow b.below) bs
grown_at grow far (suc i) (b ∷ bs) = b ∷ grown_at grow far i bs

abbrev pub object_ball : Object → Ball
object_ball o = (o.point, 0)

abbrev pub branch_ball : {X : Type 0} → Branch X → Ball
branch_ball b = (b.point, b.radius)

-- what a tree grows into when an object is added, which is appended to a leaf
abbrev pub inserted : Rules → Object → (h : ℕ) → Plain h → Grown (Plain h)
inserted R o zero os = fit R object_ball (os ++ o ∷ [])
inserted R o (suc h) bs =
    fit R branch_ball (grown_at (inserted R o h) (R.dist o.point) (R.choose (map branch_ball bs) o.point) bs)

-- a split root gets a new root of two entries
abbrev pub new_root : (h : ℕ) → Grown (Plain h) → Tall
new_root h (One t) = record { height = h; tree = t }
new_root h (Two c d) = record { height = suc h; tree = c ∷ d ∷ [] }

-- the tree with an object more
abbrev pub placed_by : Rules → Object → Tall → Tall
placed_by R o t = new_root t.height (inserted R o t.height t.tree)

abbrev pub placed : Space → ℕ → ℕ → Object → Tall → Tall
placed s promote split o t = placed_by (rules s promote split) o t

-- each inner node has an entry
abbrev pub HasEntries : (h : ℕ) → Plain h → Type 0
HasEntries zero os = Unit {0}
HasEntries (suc h) bs = (0 < length bs) × AllByRecursion (λ b. HasEntries h b.below) bs

-- an insertion adds its object and loses none: of each kind of objects there are as many as before, and one more if the new object
-- is of that kind
abbrev pub InsertionAddsOne : Type 0
InsertionAddsOne =
    (s : Space) (promote split : ℕ) (o : Object) (t : Tall) → HasEntries t.height t.tree → (kind : Object → Bool) →
    count_by kind (objects_of (placed s promote split o t)) ≡ count_by kind (objects_of t) + (if kind o then 1 else 0)
