-- The first fault of a page is none exactly where the page spells a node.
use Rattle.std.proofs.Common.{◌≡◌, ℕ, zero, suc, ◌+◌, ◌*◌, ◌-◌, ◌≤◌, ◌==◌, ◌&&◌, not, nat_lt, nat_le, Bool, true, false, List, [], ◌∷◌, ◌++◌, length, slice_index, Option, Some, None, if◌then◌else◌, refl, sym, ◌∙◌, ap, subst, arith, eq-eqb}
use Rattle.std.specs.List.{AllByRecursion}
use Rattle.std.proofs.lemmas.Bool.{eqb-true, eqb-false, leb-true, ltb-true, lt-ltb}
use Rattle.std.proofs.lemmas.Bool.Decides.{nat_tests}
use Rattle.metric_laws.specs.Space.{bound}
use Rattle.tree_shape.specs.Fill.{most_for}
use Rattle.tree_shape.specs.declared.entry.LeafEntry.{LeafEntry}
use Rattle.tree_shape.specs.declared.entry.InnerEntry.{InnerEntry}
use Rattle.tree_shape.specs.declared.entry.Node.{Node}
use Rattle.tree_shape.specs.declared.entry.Node.TheVariants.{Leaf, Inner}
use Rattle.node_page.specs.declared.node.Version.TheVariants.{First, Second}
use Rattle.node_page.specs.Bytes.{number_at, are_zero}
use Rattle.node_page.specs.declared.node.Version.{Version}
use Rattle.node_page.specs.declared.node.NodeFault.{NodeFault}
use Rattle.node_page.specs.declared.node.NodeFault.TheVariants.{Kind, Count, Distance, Tail}
use Rattle.node_page.specs.Nodes.{firsts, all_of, parent_place, leaf_in, inner_at, place_of, place_in, count_of, HasCount, SpellsIn, IsValidNode, near_at, is_count, are_near, is_rest_zero, fault_in, node_in}
use Rattle.node_page.proofs.Rest.{zero_by_test, test_by_zero}
use Rattle.node_page.proofs.SlotLaws.{both}
use Rattle.node_page.proofs.Listing.{length-firsts, count_few, within_page}

-- ---- all entries

all_one : {E : Type 0} (P : E → Type 0) (xs : List E) (x : E) → AllByRecursion P xs → P x → AllByRecursion P (xs ++ x ∷ [])
all_one P [] x all here = (here, tt)
all_one P (y ∷ ys) x all here = (all.0, all_one P ys x all.1 here)

one_all : {E : Type 0} (P : E → Type 0) (xs : List E) (x : E) → AllByRecursion P (xs ++ x ∷ []) → AllByRecursion P xs × P x
one_all P [] x all = (tt, all.0)
one_all P (y ∷ ys) x all = (let rest = one_all P ys x all.1 in ((all.0, rest.0), rest.1))

all_by_test : {E : Type 0} (P : E → Type 0) (f : ℕ → E) (t : ℕ → Bool) → ((i : ℕ) → t i ≡ true → P (f i)) → (n : ℕ) → all_of t n ≡ true → AllByRecursion P (firsts f n)
unfolding firsts all_of
all_by_test P f t is_known zero is = tt
all_by_test P f t is_known (suc n) is =
    let each = both (all_of t n) (t n) is in
    all_one P (firsts f n) (f n) (all_by_test P f t is_known n each.0) (is_known n each.1)

test_by_all : {E : Type 0} (P : E → Type 0) (f : ℕ → E) (t : ℕ → Bool) → ((i : ℕ) → P (f i) → t i ≡ true) → (n : ℕ) → AllByRecursion P (firsts f n) → all_of t n ≡ true
unfolding firsts all_of
test_by_all P f t is_known zero all = refl
test_by_all P f t is_known (suc n) all =
    let each = one_all P (firsts f n) (f n) all in
    rw (test_by_all P f t is_known n each.0, is_known n each.1) refl

le_test : (m n : ℕ) → m ≤ n → nat_le m n ≡ true
le_test m n le = grind (arith, nat_tests)

near_leaf : (version : Version) (dim : ℕ) (page : List ℕ) (at : ℕ) → near_at version true page at ≡ true → (leaf_in version dim page at).parent ≤ bound
unfolding near_at leaf_in
near_leaf version dim page at is =
    let parent = number_at (at + parent_place version true) 8 page in
    leb-true parent bound (both (nat_le parent bound) true is).0

leaf_near : (version : Version) (dim : ℕ) (page : List ℕ) (at : ℕ) → (leaf_in version dim page at).parent ≤ bound → near_at version true page at ≡ true
unfolding near_at leaf_in
leaf_near version dim page at le = rw (le_test (number_at (at + parent_place version true) 8 page) bound le) refl

-- an inner entry is the same in both versions
inner_parent : (version : Version) → parent_place version false ≡ 12
inner_parent First = refl
inner_parent Second = refl

near_inner : (version : Version) (dim : ℕ) (page : List ℕ) (at : ℕ) → near_at version false page at ≡ true → ((inner_at dim page at).radius ≤ bound) × ((inner_at dim page at).parent ≤ bound)
unfolding near_at inner_at
near_inner version dim page at is =
    let is12 = subst (λ (n : ℕ). (nat_le (number_at (at + n) 8 page) bound && nat_le (number_at (at + 4) 8 page) bound) ≡ true) (inner_parent version) is in
    let each = both (nat_le (number_at (at + 12) 8 page) bound) (nat_le (number_at (at + 4) 8 page) bound) is12 in
    (leb-true (number_at (at + 4) 8 page) bound each.1, leb-true (number_at (at + 12) 8 page) bound each.0)

inner_near : (version : Version) (dim : ℕ) (page : List ℕ) (at : ℕ) → ((inner_at dim page at).radius ≤ bound) × ((inner_at dim page at).parent ≤ bound) → near_at version false page at ≡ true
unfolding near_at inner_at
inner_near version dim page at le =
    subst (λ (n : ℕ). (nat_le (number_at (at + n) 8 page) bound && nat_le (number_at (at + 4) 8 page) bound) ≡ true) (sym (inner_parent version))
    (rw (le_test (number_at (at + 12) 8 page) bound le.1, le_test (number_at (at + 4) 8 page) bound le.0) refl)

-- ---- the count and the rest

some_count : (dim count : ℕ) → is_count dim false count ≡ true → 1 ≤ count
unfolding is_count
some_count dim count is = ltb-true 0 count (both (nat_le count (most_for dim)) (nat_lt 0 count) is).1

leaf_count : (dim count : ℕ) → count ≤ most_for dim → is_count dim true count ≡ true
unfolding is_count
leaf_count dim count few = rw (le_test count (most_for dim) few) refl

inner_count : (dim count : ℕ) → count ≤ most_for dim → 1 ≤ count → is_count dim false count ≡ true
unfolding is_count
inner_count dim count few some = rw (le_test count (most_for dim) few, lt-ltb 0 count some) refl

has_count : (version : Version) (dim : ℕ) (page : List ℕ) (leaf : Bool) → is_count dim leaf (count_of page) ≡ true → is_rest_zero version dim leaf page (count_of page) ≡ true
    → HasCount version leaf dim page (count_of page)
unfolding is_rest_zero
has_count version dim page leaf few is =
    let start = count_of page in
    let place = place_in version leaf dim start in
    let rest = both3 (are_zero 1 1 page) (are_zero 4 12 page) (are_zero place (4096 - place) page) is in
    let at_most = count_few dim leaf start few in
    let end : place + (4096 - place) ≡ 4096 = omega (arith, within_page version leaf dim start at_most) in
    record {
      told = refl;
      at_most = at_most;
      first = zero_by_test 1 1 page rest.0;
      between = zero_by_test 4 12 page rest.1;
      behind = λ k from to. zero_by_test place (4096 - place) page rest.2 k from (omega (arith, end, to));
    }
  where
    both3 : (a b c : Bool) → (a && b && c) ≡ true → (a ≡ true) × (b ≡ true) × (c ≡ true)
    both3 true true true is = (refl, refl, refl)
    both3 true true false is = absurd cc
    both3 true false c is = absurd cc
    both3 false b c is = absurd cc

rest_zero : (version : Version) (leaf : Bool) (dim : ℕ) (page : List ℕ) (count : ℕ) → HasCount version leaf dim page count → is_rest_zero version dim leaf page count ≡ true
unfolding is_rest_zero
rest_zero version leaf dim page count has =
    let place = place_in version leaf dim count in
    let end : place + (4096 - place) ≡ 4096 = omega (arith, within_page version leaf dim count has.at_most) in
    let behind = test_by_zero place (4096 - place) page (λ k from to. has.behind k from (omega (arith, end, to))) in
    rw (test_by_zero 1 1 page has.first, test_by_zero 4 12 page has.between, behind) refl

-- ---- the tests

-- the first of four tests that fails
abbrev first_of : Bool → Bool → Bool → Bool → Option NodeFault
first_of a b c d = if not a then Some Kind else if not b then Some Count else if not c then Some Distance else if not d then Some Tail else None

all_pass : (a b c d : Bool) → first_of a b c d ≡ None → (a ≡ true) × (b ≡ true) × (c ≡ true) × (d ≡ true)
all_pass true true true true is = (refl, refl, refl, refl)
all_pass true true true false is = absurd cc
all_pass true true false d is = absurd cc
all_pass true false c d is = absurd cc
all_pass false b c d is = absurd cc

pass_all : (a b c d : Bool) → a ≡ true → b ≡ true → c ≡ true → d ≡ true → first_of a b c d ≡ None
pass_all a b c d ea eb ec ed = rw (ea, eb, ec, ed) refl

-- ---- a page with no fault

abbrev leaves : Version → ℕ → List ℕ → ℕ → List LeafEntry
leaves version dim page count = firsts (λ i. leaf_in version dim page (place_in version true dim i)) count

abbrev inners : ℕ → List ℕ → ℕ → List InnerEntry
inners dim page count = firsts (λ i. inner_at dim page (place_of dim i)) count

-- an inner entry has one place in both versions
inner_place : (version : Version) (dim i : ℕ) → place_in version false dim i ≡ place_of dim i
inner_place First dim i = refl
inner_place Second dim i = refl

spells_leaf : (version : Version) (dim : ℕ) (page : List ℕ) (count : ℕ) → slice_index page 0 ≡ 0 → HasCount version true dim page count → are_near version dim true page count ≡ true
    → SpellsIn version dim page (Leaf (leaves version dim page count))
unfolding are_near
spells_leaf version dim page count level has near =
    let long : length (leaves version dim page count) ≡ count = length-firsts (λ i. leaf_in version dim page (place_in version true dim i)) count in (
      level,
      subst (HasCount version true dim page) (sym long) has,
      ap (leaves version dim page) (sym long),
      all_by_test (λ e. e.parent ≤ bound) (λ i. leaf_in version dim page (place_in version true dim i)) (λ i. near_at version true page (place_in version true dim i))
          (λ i is. near_leaf version dim page (place_in version true dim i) is) count near,
    )

spells_inner : (version : Version) (dim : ℕ) (page : List ℕ) (count : ℕ) → 1 ≤ slice_index page 0 → slice_index page 0 ≤ 14 → HasCount version false dim page count → 1 ≤ count
    → are_near version dim false page count ≡ true → SpellsIn version dim page (Inner (slice_index page 0) (inners dim page count))
unfolding are_near
spells_inner version dim page count low high has some near =
    let long : length (inners dim page count) ≡ count = length-firsts (λ i. inner_at dim page (place_of dim i)) count in (
      refl,
      low,
      high,
      subst (HasCount version false dim page) (sym long) has,
      omega (arith, long, some),
      ap (inners dim page) (sym long),
      all_by_test (λ e. (e.radius ≤ bound) × (e.parent ≤ bound)) (λ i. inner_at dim page (place_of dim i)) (λ i. near_at version false page (place_in version false dim i))
          (λ i is. near_inner version dim page (place_of dim i) (subst (λ (at : ℕ). near_at version false page at ≡ true) (inner_place version dim i) is)) count near,
    )

-- a page with no fault spells its node
pub spells_by_none : (version : Version) (dim : ℕ) (page : List ℕ) → fault_in version dim page ≡ None → SpellsIn version dim page (node_in version dim page)
unfolding fault_in node_in
spells_by_none version dim page none = by_level (slice_index page 0 == 0) refl
  where
    tests : (nat_le (slice_index page 0) 14 ≡ true) × (is_count dim (slice_index page 0 == 0) (count_of page) ≡ true)
        × (are_near version dim (slice_index page 0 == 0) page (count_of page) ≡ true) × (is_rest_zero version dim (slice_index page 0 == 0) page (count_of page) ≡ true)
    tests = all_pass (nat_le (slice_index page 0) 14) (is_count dim (slice_index page 0 == 0) (count_of page)) (are_near version dim (slice_index page 0 == 0) page (count_of page))
        (is_rest_zero version dim (slice_index page 0 == 0) page (count_of page)) none

    -- the tests at a page whose level is 0 or is not
    by_level : (b : Bool) → (slice_index page 0 == 0) ≡ b → SpellsIn version dim page (if b then Leaf (leaves version dim page (count_of page)) else Inner (slice_index page 0) (inners dim page (count_of page)))
    by_level true is =
        let few = subst (λ (b : Bool). is_count dim b (count_of page) ≡ true) is tests.1 in
        let near = subst (λ (b : Bool). are_near version dim b page (count_of page) ≡ true) is tests.2 in
        let rest = subst (λ (b : Bool). is_rest_zero version dim b page (count_of page) ≡ true) is tests.3 in
        spells_leaf version dim page (count_of page) (eqb-true (slice_index page 0) 0 is) (has_count version dim page true few rest) near
    by_level false is =
        let few = subst (λ (b : Bool). is_count dim b (count_of page) ≡ true) is tests.1 in
        let near = subst (λ (b : Bool). are_near version dim b page (count_of page) ≡ true) is tests.2 in
        let rest = subst (λ (b : Bool). is_rest_zero version dim b page (count_of page) ≡ true) is tests.3 in
        let not_leaf = eqb-false (slice_index page 0) 0 is in
        spells_inner version dim page (count_of page) (omega (arith, not_leaf)) (leb-true (slice_index page 0) 14 tests.0) (has_count version dim page false few rest)
        (some_count dim (count_of page) few) near

-- ---- a page that spells a node

none_by : (version : Version) (dim : ℕ) (page : List ℕ) (leaf : Bool) (count : ℕ) → slice_index page 0 ≤ 14 → (slice_index page 0 == 0) ≡ leaf → HasCount version leaf dim page count
    → is_count dim leaf count ≡ true → are_near version dim leaf page count ≡ true → fault_in version dim page ≡ None
unfolding fault_in
none_by version dim page leaf count high level has few near =
    pass_all (nat_le (slice_index page 0) 14) (is_count dim (slice_index page 0 == 0) (count_of page)) (are_near version dim (slice_index page 0 == 0) page (count_of page))
    (is_rest_zero version dim (slice_index page 0 == 0) page (count_of page))
    (le_test (slice_index page 0) 14 high)
    (rw (level, has.told) few)
    (rw (level, has.told) near)
    (rw (level, has.told) (rest_zero version leaf dim page count has))

-- a page that spells a node has no fault
pub none_by_spells : (version : Version) (dim : ℕ) (page : List ℕ) (node : Node) → SpellsIn version dim page node → fault_in version dim page ≡ None
unfolding are_near
none_by_spells version dim page (Leaf es) (level, has, are, near) =
    none_by version dim page true (length es) (omega (arith, level)) (eq-eqb (slice_index page 0) 0 level) has (leaf_count dim (length es) has.at_most)
    (test_by_all (λ e. e.parent ≤ bound) (λ i. leaf_in version dim page (place_in version true dim i)) (λ i. near_at version true page (place_in version true dim i))
    (λ i le. leaf_near version dim page (place_in version true dim i) le) (length es) (subst (AllByRecursion (λ e. e.parent ≤ bound)) are near))
none_by_spells version dim page (Inner level es) (told, low, high, has, some, are, near) =
    none_by version dim page false (length es) (omega (arith, told, high)) (grind (arith, nat_tests, told, low)) has (inner_count dim (length es) has.at_most some)
    (test_by_all (λ e. (e.radius ≤ bound) × (e.parent ≤ bound)) (λ i. inner_at dim page (place_of dim i)) (λ i. near_at version false page (place_in version false dim i))
    (λ i le. subst (λ (at : ℕ). near_at version false page at ≡ true) (sym (inner_place version dim i)) (inner_near version dim page (place_of dim i) le)) (length es)
    (subst (AllByRecursion (λ e. (e.radius ≤ bound) × (e.parent ≤ bound))) are near))

-- the node that a page spells is the one that is told
pub node_is : (version : Version) (dim : ℕ) (page : List ℕ) (node : Node) → SpellsIn version dim page node → node_in version dim page ≡ node
unfolding node_in
node_is version dim page (Leaf es) (level, has, are, near) =
    ap (λ (b : Bool). if b then Leaf (leaves version dim page (count_of page)) else Inner (slice_index page 0) (inners dim page (count_of page))) (eq-eqb (slice_index page 0) 0 level)
    ∙ ap (λ (n : ℕ). Leaf (leaves version dim page n)) has.told ∙ ap Leaf (sym are)
node_is version dim page (Inner level es) (told, low, high, has, some, are, near) =
    let not_leaf : (slice_index page 0 == 0) ≡ false = grind (arith, nat_tests, told, low) in
    ap (λ (b : Bool). if b then Leaf (leaves version dim page (count_of page)) else Inner (slice_index page 0) (inners dim page (count_of page))) not_leaf
    ∙ ap (λ (n : ℕ). Inner (slice_index page 0) (inners dim page n)) has.told ∙ ap (λ (n : ℕ). Inner n (inners dim page (length es))) told ∙ ap (Inner level) (sym are)

-- a page with no fault has at most as many entries as it may
pub few_by_none : (version : Version) (dim : ℕ) (page : List ℕ) → fault_in version dim page ≡ None → count_of page ≤ most_for dim
unfolding fault_in
few_by_none version dim page none =
    let tests = all_pass (nat_le (slice_index page 0) 14) (is_count dim (slice_index page 0 == 0) (count_of page)) (are_near version dim (slice_index page 0 == 0) page (count_of page)) (is_rest_zero version dim (slice_index page 0 == 0) page (count_of page)) none in
    count_few dim (slice_index page 0 == 0) (count_of page) tests.1

-- ---- a spelled node is valid

all_firsts : {E : Type 0} (P : E → Type 0) (f : ℕ → E) → ((i : ℕ) → P (f i)) → (n : ℕ) → AllByRecursion P (firsts f n)
unfolding firsts
all_firsts P f each zero = tt
all_firsts P f each (suc n) = all_one P (firsts f n) (f n) (all_firsts P f each n) (each n)

both_all : {E : Type 0} (P Q R : E → Type 0) → ((e : E) → P e → Q e → R e) → (xs : List E) → AllByRecursion P xs → AllByRecursion Q xs → AllByRecursion R xs
both_all P Q R implies [] ps qs = tt
both_all P Q R implies (x ∷ xs) ps qs = (implies x ps.0 qs.0, both_all P Q R implies xs ps.1 qs.1)

leaf_long : (version : Version) (dim : ℕ) (page : List ℕ) (at : ℕ) → length (leaf_in version dim page at).point ≡ dim
unfolding leaf_in
leaf_long version dim page at = length-firsts (λ j. number_at (at + (parent_place version true + 8) + 4 * j) 4 page) dim

inner_long : (dim : ℕ) (page : List ℕ) (at : ℕ) → length (inner_at dim page at).point ≡ dim
unfolding inner_at
inner_long dim page at = length-firsts (λ j. number_at (at + 20 + 4 * j) 4 page) dim

-- a node that a page spells is one that a page can hold
pub valid_by_spells : (version : Version) (dim : ℕ) (page : List ℕ) (node : Node) → SpellsIn version dim page node → IsValidNode dim node
valid_by_spells version dim page (Leaf es) (level, has, are, near) = (
  has.at_most,
  both_all (λ (e : LeafEntry). length e.point ≡ dim) (λ (e : LeafEntry). e.parent ≤ bound) (λ (e : LeafEntry). (length e.point ≡ dim) × (e.parent ≤ bound)) (λ e long le. (long, le)) es
      (subst (AllByRecursion (λ (e : LeafEntry). length e.point ≡ dim)) (sym are)
      (all_firsts (λ (e : LeafEntry). length e.point ≡ dim) (λ i. leaf_in version dim page (place_in version true dim i)) (λ i. leaf_long version dim page (place_in version true dim i)) (length es)))
      near,
)
valid_by_spells version dim page (Inner level es) (told, low, high, has, some, are, near) = (
  low,
  high,
  some,
  has.at_most,
  both_all (λ (e : InnerEntry). length e.point ≡ dim) (λ (e : InnerEntry). (e.radius ≤ bound) × (e.parent ≤ bound)) (λ (e : InnerEntry). (length e.point ≡ dim) × (e.radius ≤ bound) × (e.parent ≤ bound))
      (λ e long le. (long, le.0, le.1)) es
      (subst (AllByRecursion (λ (e : InnerEntry). length e.point ≡ dim)) (sym are)
      (all_firsts (λ (e : InnerEntry). length e.point ≡ dim) (λ i. inner_at dim page (place_of dim i)) (λ i. inner_long dim page (place_of dim i)) (length es)))
      near,
)
