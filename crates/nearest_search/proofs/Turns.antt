-- Equal openings have one page and one distance.
use Rattle.std.proofs.Common.{◌≡◌, ℕ, ◌&&◌, Bool, true, false, nat_eq, refl, ap, arith, Option, Some, None}
use Rattle.std.specs.Option.{option_eq}
use Rattle.std.proofs.lemmas.Bool.Decides.{nat_tests}
use Rattle.nearest_search.specs.declared.kept.Turn.{Turn}
use Rattle.nearest_search.specs.Keeping.{is_turn}

both_true : (a b : Bool) → (a && b) ≡ true → (a ≡ true) × (b ≡ true)
both_true true b is = (refl, is)
both_true false b is = absurd (cc)

same_number : (a b : ℕ) → nat_eq a b ≡ true → b ≡ a
same_number a b is = grind (arith, nat_tests)

same_option : (a b : Option ℕ) → option_eq nat_eq a b ≡ true → b ≡ a
same_option None None is = refl
same_option None (Some b) is = absurd (cc)
same_option (Some a) None is = absurd (cc)
same_option (Some a) (Some b) is = ap (λ (n : ℕ). Some n) (same_number a b is)

pub same_turn : (a b : Turn) → is_turn a b ≡ true → (b.page ≡ a.page) × (b.above ≡ a.above)
same_turn a b is =
    let both = both_true (nat_eq a.page b.page) (option_eq nat_eq a.above b.above) is in
    (same_number a.page b.page both.0, same_option a.above b.above both.1)
