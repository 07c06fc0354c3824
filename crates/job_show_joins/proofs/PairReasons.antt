-- The tests of marks of a join that are allowed.
use Rattle.std.proofs.Common.{◌≡◌, ℕ, ◌+◌, Bool, true, false, Option, Some, None, refl, sym, subst, ◌∙◌, arith}
use Rattle.std.specs.Prelude.{IsTrue, if◌then◌else◌, ◌&&◌, nat_le, nat_lt}
use Rattle.std.proofs.lemmas.Bool.{true≢false}
use Rattle.std.proofs.lemmas.Bool.Decides.{nat_tests}
use Rattle.metric_laws.specs.Pruning.{gap}
use Rattle.metric_laws.specs.Space.{Space}
use Rattle.log_model.specs.declared.marks.Mark.{Mark}
use Rattle.log_model.specs.declared.marks.Mark.TheVariants.{Skip, Far, Near}
use Rattle.log_model.specs.Items.{Item, Subtree, Object}
use Rattle.log_model.specs.declared.pairs.JoinNeed.{JoinNeed}
use Rattle.log_model.specs.JoinWalk.{Entry, JoinSearch, allows_entry, apart_of, centre_of, far_apart, far_stored, is_hit, is_object, opens_right, other, radius_of, with_entry, within_apart}
use Rattle.job_show.specs.Reasons.{radius_or_zero}
use Rattle.job_show_joins.specs.declared.reasons.PairReach.{PairReach}
use Rattle.job_show_joins.specs.Laws.{ComesOut, PairHolds, gap_to}
use Rattle.job_show_joins.specs.Reasons.{item_radius, pair_reach}

abbrev reach_of : ℕ → Item → Item → PairReach
reach_of rho own beside = record { rho = rho; own = item_radius own; other = item_radius beside }

same_radius : (item : Item) → radius_of item ≡ radius_or_zero (item_radius item)
same_radius (Subtree page rank centre radius) = refl
same_radius (Object id point) = refl

far_holds : (apart : Option ℕ) (rho : ℕ) (own beside : Item) → IsTrue (far_apart apart rho (radius_of own) (radius_of beside)) → ComesOut apart (reach_of rho own beside) true
far_holds None rho own beside allowed = true≢false (sym allowed)
far_holds (Some dist) rho own beside allowed = (λ i. nat_lt (rho + sym (same_radius own) i + sym (same_radius beside) i) dist) ∙ allowed

skip_holds : (above : Option ℕ) (stored rho : ℕ) (own beside : Item) → IsTrue (far_stored above stored rho (radius_of own + radius_of beside)) →
    ComesOut (gap_to above stored) (reach_of rho own beside) true
skip_holds None stored rho own beside allowed = true≢false (sym allowed)
skip_holds (Some above) stored rho own beside allowed =
    let sum : rho + (radius_of own + radius_of beside) ≡ rho + radius_of own + radius_of beside = omega arith in
    far_holds (Some (gap above stored)) rho own beside (subst (λ (n : ℕ). IsTrue (nat_lt n (gap above stored))) sum allowed)

within : (dist rho : ℕ) → nat_le dist rho ≡ true → nat_lt (rho + 0 + 0) dist ≡ false
within dist rho is = grind (arith, nat_tests)

near_holds : (apart : Option ℕ) (rho : ℕ) (own beside : Item) → is_object own ≡ true → is_object beside ≡ true → IsTrue (within_apart apart rho) → ComesOut apart (reach_of rho own beside) false
near_holds None rho own beside one two allowed = true≢false (sym allowed)
near_holds (Some dist) rho (Subtree page rank centre radius) beside one two allowed = absurd (true≢false (sym one))
near_holds (Some dist) rho (Object id point) (Subtree page rank centre radius) one two allowed = absurd (true≢false (sym two))
near_holds (Some dist) rho (Object id point) (Object other_id other_point) one two allowed = within dist rho allowed

first_true : (a b : Bool) → a && b ≡ true → a ≡ true
first_true true b is = refl
first_true false b is = is

second_true : (a b : Bool) → a && b ≡ true → b ≡ true
second_true true b is = is
second_true false b is = absurd (true≢false (sym is))

-- a pair of two objects is of an object beside an object
objects_of : (right : Bool) (s : Space) (n : JoinNeed) (e : Entry) →
    is_hit (if right then record { left = n.left; right = e.item; apart = apart_of s (centre_of n.left) (centre_of e.item) }
    else record { left = e.item; right = n.right; apart = apart_of s (centre_of e.item) (centre_of n.right) }) ≡ true →
    (is_object e.item ≡ true) × (is_object (if right then n.left else n.right) ≡ true)
objects_of true s n e hit = (second_true (is_object n.left) (is_object e.item) hit, first_true (is_object n.left) (is_object e.item) hit)
objects_of false s n e hit = (first_true (is_object e.item) (is_object n.right) hit, second_true (is_object e.item) (is_object n.right) hit)

objects : (j : JoinSearch) (n : JoinNeed) (e : Entry) → is_hit (with_entry j.space n e) ≡ true → (is_object e.item ≡ true) × (is_object (other n) ≡ true)
objects j n e hit = objects_of (opens_right n) j.space n e hit

pub pair_holds : (j : JoinSearch) (n : JoinNeed) (e : Entry) (m : Mark) → (m ≡ Near → is_hit (with_entry j.space n e) ≡ true) → IsTrue (allows_entry j n e m) →
    PairHolds m n.apart e.stored (with_entry j.space n e).apart (pair_reach j n e)
pair_holds j n e Skip hit allowed = skip_holds n.apart e.stored j.rho e.item (other n) allowed
pair_holds j n e Far hit allowed = far_holds (with_entry j.space n e).apart j.rho e.item (other n) allowed
pair_holds j n e Near hit allowed =
    let both = objects j n e (hit refl) in
    near_holds (with_entry j.space n e).apart j.rho e.item (other n) both.0 both.1
    (subst (λ (b : Bool). IsTrue (if b then within_apart (with_entry j.space n e).apart j.rho else true)) (hit refl) allowed)
