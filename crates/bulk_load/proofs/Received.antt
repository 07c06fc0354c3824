-- Steps of the filling.
use Rattle.std.proofs.Common.{◌≡◌, ℕ, zero, suc, ◌+◌, ◌-◌, ◌<◌, ◌≤◌, Bool, true, false, List, [], ◌∷◌, ◌++◌, refl, sym, ap, ◌∙◌, arith, length, length-take, take, get_or}
use Rattle.std.specs.Prelude.{◌==◌, if◌then◌else◌, nat_lt, not, ◌&&◌}
use Rattle.std.proofs.lemmas.List.{take_more, get_or-set_other, length-set}
use Rattle.std.proofs.lemmas.Grind.{get_or-set_at}
use Rattle.std.proofs.Math.ListN.{set}
use Rattle.std.proofs.Common.{◌≢◌}
use Rattle.std.proofs.lemmas.Bool.Decides.{nat_tests}
use Rattle.tree_growth.specs.declared.rules.Member.{Member}
use Rattle.tree_growth.specs.Groups.{Far, in_group, is_candidate, member_of, received, filled_from}
use Rattle.tree_growth.proofs.Published.{one_if, in_group-set}
use Rattle.bulk_load.specs.Candidates.{AreCounts}

in_group-append : (a : ℕ) (ps : List Member) (p : Member) → in_group a (ps ++ p ∷ []) ≡ in_group a ps + (if p.group == a then 1 else 0)
in_group-append a [] p = omega arith
in_group-append a (q ∷ ps) p = let ih = in_group-append a ps p in omega arith

pub in_group_more : (a : ℕ) (ps : List Member) (i : ℕ) (d : Member) → i < length ps → in_group a (take (i + 1) ps) ≡ in_group a (take i ps) + (if (get_or ps i d).group == a then 1 else 0)
in_group_more a ps i d low = ap (in_group a) (take_more ps i d low) ∙ in_group-append a (take i ps) (get_or ps i d)

pub in_group_few : (a : ℕ) (ps : List Member) → in_group a ps ≤ length ps
in_group_few a [] = omega arith
in_group_few a (p ∷ ps) = let ih = in_group_few a ps in let one : ◌≤◌ (if p.group == a then 1 else 0) 1 = grind (arith, nat_tests) in omega arith

pub filled_step : (far : Far) (least a n left : ℕ) (ps : List Member) → n ≡ left + 1 → filled_from far least a n ps ≡ filled_from far least (a + 1) left (received far least a (least - in_group a ps) ps)
filled_step far least a n left ps e = ap (λ (k : ℕ). filled_from far least a k ps) (let s : n ≡ suc left = omega arith in s)

pub now_is : (xs : List ℕ) (q x : ℕ) → q < length xs → x ≡ get_or xs q x → x ≡ get_or xs q 0
now_is [] q x low e = absurd (omega arith)
now_is (y ∷ ys) zero x low e = e
now_is (y ∷ ys) (suc q) x low e = now_is ys q x (omega arith) e

-- one object more in the tally
pub tally_room : (counts : List ℕ) (ps : List Member) (i q x : ℕ) → q < length counts → x ≡ get_or counts q x → ((a : ℕ) → get_or counts a 0 ≡ in_group a (take i ps)) → x ≤ length ps
tally_room counts ps i q x low e each =
    let h = now_is counts q x low e in let w = each q in let f = in_group_few q (take i ps) in let t = length-take i ps in omega arith

pub tally_step : (counts : List ℕ) (ps : List Member) (i x : ℕ) (d : Member) → i < length ps → (get_or ps i d).group < length counts → x ≡ get_or counts (get_or ps i d).group x →
    ((a : ℕ) → get_or counts a 0 ≡ in_group a (take i ps)) → (a : ℕ) → get_or (set counts (get_or ps i d).group (x + 1)) a 0 ≡ in_group a (take (i + 1) ps)
tally_step counts ps i x d low is_point e each a = rw (in_group_more a ps i d low) (cases ((get_or ps i d).group == a) refl)
  where
    cases : (b : Bool) → ((get_or ps i d).group == a) ≡ b → get_or (set counts (get_or ps i d).group (x + 1)) a 0 ≡ in_group a (take i ps) + (if b then 1 else 0)
    cases true is =
        let same : (get_or ps i d).group ≡ a = grind (arith, nat_tests) in
        get_or-set_at counts (get_or ps i d).group a (x + 1) 0 (sym same) is_point
        ∙ (let h = now_is counts (get_or ps i d).group x is_point e in let w = each (get_or ps i d).group in let k = ap (λ (j : ℕ). in_group j (take i ps)) same in omega arith)
    cases false is =
        let apart : a ≢ (get_or ps i d).group = grind (arith, nat_tests) in
        get_or-set_other counts (get_or ps i d).group a (x + 1) 0 apart ∙ (let w = each a in omega arith)

-- a count that rises or falls by one
set_more : (xs : List ℕ) (q b : ℕ) → q < length xs → get_or (set xs q (get_or xs q 0 + 1)) b 0 ≡ get_or xs b 0 + one_if (q == b)
set_more [] q b low = absurd (omega arith)
set_more (x ∷ xs) zero zero low = omega arith
set_more (x ∷ xs) zero (suc b) low = grind (arith, nat_tests)
set_more (x ∷ xs) (suc q) zero low = grind (arith, nat_tests)
set_more (x ∷ xs) (suc q) (suc b) low = let ih = set_more xs q b (omega arith) in grind (arith, nat_tests)

set_less : (xs : List ℕ) (q b : ℕ) → q < length xs → 0 < get_or xs q 0 → get_or (set xs q (get_or xs q 0 - 1)) b 0 + one_if (q == b) ≡ get_or xs b 0
set_less [] q b low some = absurd (omega arith)
set_less (x ∷ xs) zero zero low some = omega arith
set_less (x ∷ xs) zero (suc b) low some = grind (arith, nat_tests)
set_less (x ∷ xs) (suc q) zero low some = grind (arith, nat_tests)
set_less (x ∷ xs) (suc q) (suc b) low some = let ih = set_less xs q b (omega arith) some in grind (arith, nat_tests)

-- what a candidate's group has
pub more_than : (least : ℕ) (all : List Member) (p : Member) → is_candidate least all p ≡ true → least < in_group p.group all
more_than least all p c = second p.is_seed (nat_lt least (in_group p.group all)) refl c
  where
    second : (s t : Bool) → nat_lt least (in_group p.group all) ≡ t → (not s && t) ≡ true → least < in_group p.group all
    second false true e h = grind (arith, nat_tests)
    second false false e h = absurd (let f : false ≡ true = h in cc)
    second true t e h = absurd (let f : false ≡ true = h in cc)

-- there is room for one more
pub moved_room : (counts : List ℕ) (ps : List Member) (group place least : ℕ) → AreCounts counts ps → (get_or ps place (member_of 0)).group < length counts →
    is_candidate least ps (get_or ps place (member_of 0)) ≡ true →
    get_or (set counts (get_or ps place (member_of 0)).group (get_or counts (get_or ps place (member_of 0)).group 0 - 1)) group 0 ≤ length ps
moved_room counts ps group place least are from_low may =
    let from : ℕ = (get_or ps place (member_of 0)).group in
    let some : 0 < get_or counts from 0 = let m = more_than least ps (get_or ps place (member_of 0)) may in let w = are from in omega arith in
    let less = set_less counts from group from_low some in
    let is = are group in
    let few = in_group_few group ps in
    omega arith

-- the counts after a move
pub moved_counts : (counts : List ℕ) (ps : List Member) (group place least : ℕ) → AreCounts counts ps → place < length ps → group < length counts → (get_or ps place (member_of 0)).group < length counts →
    is_candidate least ps (get_or ps place (member_of 0)) ≡ true → (b : ℕ) →
    get_or (set (set counts (get_or ps place (member_of 0)).group (get_or counts (get_or ps place (member_of 0)).group 0 - 1)) group
    (get_or (set counts (get_or ps place (member_of 0)).group (get_or counts (get_or ps place (member_of 0)).group 0 - 1)) group 0 + 1)) b 0
    ≡ in_group b (set ps place (member_of group))
moved_counts counts ps group place least are inside low from_low may b =
    let from : ℕ = (get_or ps place (member_of 0)).group in
    let fewer : List ℕ = set counts from (get_or counts from 0 - 1) in
    let some : 0 < get_or counts from 0 = let m = more_than least ps (get_or ps place (member_of 0)) may in let w = are from in omega arith in
    let less = set_less counts from b from_low some in
    let more = set_more fewer group b (let l = length-set counts from (get_or counts from 0 - 1) in omega arith) in
    let h = in_group-set b place ps (member_of group) (member_of 0) inside in
    let is = are b in
    omega arith
