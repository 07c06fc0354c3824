-- The first fault of a page is none exactly where the page spells a head.
use Rattle.std.proofs.Common.{◌≡◌, ℕ, ◌==◌, ◌||◌, not, Bool, true, false, List, slice_index, Option, Some, None, if◌then◌else◌, refl, eq-eqb}
use Rattle.std.proofs.lemmas.Bool.{eqb-true}
use Rattle.node_page.specs.declared.head.Head.{Head}
use Rattle.node_page.specs.declared.head.HeadFault.{HeadFault}
use Rattle.node_page.specs.declared.head.HeadFault.TheVariants.{Magic, Version, Space, Policy, Limit, Tail}
use Rattle.node_page.specs.Bytes.{number_at, are_zero}
use Rattle.node_page.specs.Heads.{SpellsHead, head_of, head_fault, is_version, is_space, is_policy, is_limit, magic}
use Rattle.node_page.proofs.Rest.{zero_by_test, test_by_zero}

-- the first of seven tests that fails
abbrev first_of : Bool → Bool → Bool → Bool → Bool → Bool → Bool → Option HeadFault
first_of a b c d e f g =
    if not a then Some Magic
    else if not b then Some Version
    else if not c then Some Space
    else if not d then Some Policy
    else if not e then Some Limit
    else if not f || not g then Some Tail
    else None

all_pass : (a b c d e f g : Bool) → first_of a b c d e f g ≡ None → (a ≡ true) × (b ≡ true) × (c ≡ true) × (d ≡ true) × (e ≡ true) × (f ≡ true) × (g ≡ true)
all_pass true true true true true true true is = (refl, refl, refl, refl, refl, refl, refl)
all_pass true true true true true true false is = absurd cc
all_pass true true true true true false g is = absurd cc
all_pass true true true true false f g is = absurd cc
all_pass true true true false e f g is = absurd cc
all_pass true true false d e f g is = absurd cc
all_pass true false c d e f g is = absurd cc
all_pass false b c d e f g is = absurd cc

pass_all : (a b c d e f g : Bool) → a ≡ true → b ≡ true → c ≡ true → d ≡ true → e ≡ true → f ≡ true → g ≡ true → first_of a b c d e f g ≡ None
pass_all a b c d e f g ea eb ec ed ee ef eg = rw (ea, eb, ec, ed, ee, ef, eg) refl

same_number : (m n : ℕ) → (m == n) ≡ true → m ≡ n
same_number m n is = eqb-true m n is

is_same : (m n : ℕ) → m ≡ n → (m == n) ≡ true
is_same m n is = eq-eqb m n is

-- the fields of a page are those of the head that it spells
pub head_is : (page : List ℕ) (head : Head) → SpellsHead page head → head_of page ≡ head
unfolding head_of
head_is page head spells = λ i. record {
  version = spells.version i;
  kind = spells.kind i;
  dim = spells.dim i;
  promote = spells.promote i;
  split = spells.split i;
  limit = spells.limit i;
}

-- a page with no fault spells its fields
pub spells_by_none : (page : List ℕ) → head_fault page ≡ None → SpellsHead page (head_of page)
unfolding head_fault head_of
spells_by_none page none =
    let all = all_pass (number_at 0 8 page == magic) (is_version (number_at 8 2 page)) (is_space (slice_index page 10) (slice_index page 11))
    (is_policy (slice_index page 12) (slice_index page 13)) (is_limit (number_at 16 4 page)) (are_zero 14 2 page) (are_zero 20 4076 page) none in
    record {
      magic = same_number (number_at 0 8 page) magic all.0;
      version = refl;
      kind = refl;
      dim = refl;
      promote = refl;
      split = refl;
      between = zero_by_test 14 2 page all.5;
      limit = refl;
      behind = zero_by_test 20 4076 page all.6;
      valid = record { version = all.1; space = all.2; policy = all.3; limit = all.4 };
    }

-- a page that spells a head has no fault
pub no_head_fault : (page : List ℕ) (head : Head) → SpellsHead page head → head_fault page ≡ None
unfolding head_fault head_of
no_head_fault page head spells =
    pass_all (number_at 0 8 page == magic) (is_version (number_at 8 2 page)) (is_space (slice_index page 10) (slice_index page 11))
    (is_policy (slice_index page 12) (slice_index page 13)) (is_limit (number_at 16 4 page)) (are_zero 14 2 page) (are_zero 20 4076 page)
    (is_same (number_at 0 8 page) magic spells.magic)
    (rw (spells.version) spells.valid.version)
    (rw (spells.kind, spells.dim) spells.valid.space)
    (rw (spells.promote, spells.split) spells.valid.policy)
    (rw (spells.limit) spells.valid.limit)
    (test_by_zero 14 2 page spells.between)
    (test_by_zero 20 4076 page spells.behind)
