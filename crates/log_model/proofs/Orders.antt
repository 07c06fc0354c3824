-- The orders of hits and of pairs, and the plain scan's answers in them.
use Rattle.std.proofs.Common.{◌≡◌, false, List, [], ◌∷◌, arith}
use Rattle.std.specs.Prelude.{IsTrue}
use Rattle.std.proofs.lemmas.Bool.Decides.{nat_tests}
use Rattle.metric_laws.proofs.Published.{all_weaker}
use Rattle.scan_model.specs.declared.hit.Hit.{Hit}
use Rattle.scan_model.specs.declared.hit.Pair.{Pair}
use Rattle.scan_model.specs.Laws.{Ascends, HitBefore, PairBefore}
use Rattle.log_model.specs.Grammar.{JoinedBefore}
use Rattle.log_model.specs.InOrder.{hit_before, pair_before}
use Rattle.log_model.proofs.Order.{IsOrder, IsRising}

pub ascends_weaker : {X : Type 0} (P Q : X → X → Type 0) → ((a b : X) → P a b → Q a b) → (xs : List X) → Ascends P xs → Ascends Q xs
ascends_weaker P Q f [] up = tt
ascends_weaker P Q f (x ∷ xs) up = (all_weaker (P x) (Q x) xs (f x) up.0, ascends_weaker P Q f xs up.1)

hit_trans : (a b c : Hit) → IsTrue (hit_before a b) → IsTrue (hit_before b c) → IsTrue (hit_before a c)
hit_trans a b c h k = grind (arith, nat_tests)

hit_irreflexive : (a : Hit) → IsTrue (hit_before a a) → ⊥
hit_irreflexive a h = grind (arith, nat_tests)

hit_total : (a b : Hit) → hit_before a b ≡ false → hit_before b a ≡ false → a ≡ b
hit_total a b h k = grind (arith, nat_tests)

pub hit_order : IsOrder Hit hit_before
hit_order = record { trans = hit_trans; irreflexive = hit_irreflexive; total = hit_total }

pair_trans : (a b c : Pair) → IsTrue (pair_before a b) → IsTrue (pair_before b c) → IsTrue (pair_before a c)
pair_trans a b c h k = grind (arith, nat_tests)

pair_irreflexive : (a : Pair) → IsTrue (pair_before a a) → ⊥
pair_irreflexive a h = grind (arith, nat_tests)

pair_total : (a b : Pair) → pair_before a b ≡ false → pair_before b a ≡ false → a ≡ b
pair_total a b h k = grind (arith, nat_tests)

pub pair_order : IsOrder Pair pair_before
pair_order = record { trans = pair_trans; irreflexive = pair_irreflexive; total = pair_total }

-- the orders as tests and as facts
hit_test : (a b : Hit) → HitBefore a b → IsTrue (hit_before a b)
hit_test a b h = grind (arith, nat_tests)

pub hit_fact : (a b : Hit) → IsTrue (hit_before a b) → HitBefore a b
hit_fact a b h = grind (arith, nat_tests)

pair_test : (a b : Pair) → PairBefore a b → IsTrue (pair_before a b)
pair_test a b h = grind (arith, nat_tests)

pub pair_fact : (a b : Pair) → IsTrue (pair_before a b) → JoinedBefore a b
pair_fact a b h = grind (arith, nat_tests)

pub rising_hits : (xs : List Hit) → Ascends HitBefore xs → IsRising hit_before hit_order xs
rising_hits xs up = ascends_weaker HitBefore (λ a b. IsTrue (hit_before a b)) hit_test xs up

pub ascending_hits : (xs : List Hit) → IsRising hit_before hit_order xs → Ascends HitBefore xs
ascending_hits xs up = ascends_weaker (λ a b. IsTrue (hit_before a b)) HitBefore hit_fact xs up

pub rising_pairs : (xs : List Pair) → Ascends PairBefore xs → IsRising pair_before pair_order xs
rising_pairs xs up = ascends_weaker PairBefore (λ a b. IsTrue (pair_before a b)) pair_test xs up

pub ascending_pairs : (xs : List Pair) → IsRising pair_before pair_order xs → Ascends JoinedBefore xs
ascending_pairs xs up = ascends_weaker (λ a b. IsTrue (pair_before a b)) JoinedBefore pair_fact xs up
