-- A list of answers ascends exactly where each answer may stand behind the one before it.
use Rattle.std.proofs.Common.{◌≡◌, ◌⊎◌, inl, inr, ℕ, ◌<◌, ◌==◌, ◌&&◌, ◌||◌, nat_lt, Bool, true, List, [], ◌∷◌, Some, None, refl, arith}
use Rattle.std.specs.List.{AllByRecursion}
use Rattle.std.proofs.lemmas.Bool.Decides.{nat_tests}
use Rattle.scan_model.specs.declared.hit.Hit.{Hit}
use Rattle.scan_model.specs.declared.hit.Pair.{Pair}
use Rattle.scan_model.specs.Laws.{Ascends, HitBefore}
use Rattle.log_model.specs.Grammar.{JoinedBefore}
use Rattle.prune_log.specs.Reading.{hit_follows, pair_follows}
use Rattle.prune_log.proofs.Exact.{Chain}

-- a test that tells an order
record IsOrder {X : Type 0} (Before : X → X → Type 0) (follows : X → X → Bool) : Type 0 where
  shows : (a b : X) → follows a b ≡ true → Before a b
  told : (a b : X) → Before a b → follows a b ≡ true
  before : (a b c : X) → Before a b → Before b c → Before a c

behind_all : {X : Type 0} (Before : X → X → Type 0) (follows : X → X → Bool) → IsOrder Before follows → (a b : X) → Before a b → (xs : List X) → AllByRecursion (Before b) xs → AllByRecursion (Before a) xs
behind_all Before follows order a b first [] all = tt
behind_all Before follows order a b first (x ∷ xs) all = (order.before a b x first all.0, behind_all Before follows order a b first xs all.1)

ascends_behind : {X : Type 0} (Before : X → X → Type 0) (follows : X → X → Bool) → IsOrder Before follows → (a : X) (xs : List X) → Chain follows (Some a) xs → AllByRecursion (Before a) xs × Ascends Before xs
ascends_behind Before follows order a [] chain = (tt, tt)
ascends_behind Before follows order a (x ∷ xs) chain =
    let here = order.shows a x chain.0 in
    let rest = ascends_behind Before follows order x xs chain.1 in
    ((here, behind_all Before follows order a x here xs rest.0), (rest.0, rest.1))

ascends : {X : Type 0} (Before : X → X → Type 0) (follows : X → X → Bool) → IsOrder Before follows → (xs : List X) → Chain follows None xs → Ascends Before xs
ascends Before follows order [] chain = tt
ascends Before follows order (x ∷ xs) chain = ascends_behind Before follows order x xs chain.1

chain_behind : {X : Type 0} (Before : X → X → Type 0) (follows : X → X → Bool) → IsOrder Before follows → (a : X) (xs : List X) → AllByRecursion (Before a) xs → Ascends Before xs → Chain follows (Some a) xs
chain_behind Before follows order a [] all up = tt
chain_behind Before follows order a (x ∷ xs) all up = (order.told a x all.0, chain_behind Before follows order x xs up.0 up.1)

chains : {X : Type 0} (Before : X → X → Type 0) (follows : X → X → Bool) → IsOrder Before follows → (xs : List X) → Ascends Before xs → Chain follows None xs
chains Before follows order [] up = tt
chains Before follows order (x ∷ xs) up = (refl, chain_behind Before follows order x xs up.0 up.1)

-- ---- hits

hit_shows : (d e i j : ℕ) → (nat_lt d e || ((d == e) && nat_lt i j)) ≡ true → (d < e) ⊎ ((d ≡ e) × (i < j))
hit_shows d e i j is = grind (arith, nat_tests)

hit_told : (d e i j : ℕ) → (d < e) ⊎ ((d ≡ e) × (i < j)) → (nat_lt d e || ((d == e) && nat_lt i j)) ≡ true
hit_told d e i j is = grind (arith, nat_tests)

hit_before : (a b c : Hit) → HitBefore a b → HitBefore b c → HitBefore a c
hit_before a b c (inl x) (inl y) = inl (omega arith)
hit_before a b c (inl x) (inr y) = inl (omega arith)
hit_before a b c (inr x) (inl y) = inl (omega arith)
hit_before a b c (inr x) (inr y) = inr (omega arith, omega arith)

hit_order : IsOrder HitBefore hit_follows
hit_order = record {
  shows = λ a b is. hit_shows a.dist b.dist a.id b.id is;
  told = λ a b is. hit_told a.dist b.dist a.id b.id is;
  before = hit_before;
}

pub hits_ascend : (hits : List Hit) → Chain hit_follows None hits → Ascends HitBefore hits
hits_ascend hits chain = ascends HitBefore hit_follows hit_order hits chain

pub hits_chain : (hits : List Hit) → Ascends HitBefore hits → Chain hit_follows None hits
hits_chain hits up = chains HitBefore hit_follows hit_order hits up

-- ---- pairs

pair_shows : (a b c d e f : ℕ) → (nat_lt a b || ((a == b) && (nat_lt c d || ((c == d) && nat_lt e f)))) ≡ true → (a < b) ⊎ ((a ≡ b) × ((c < d) ⊎ ((c ≡ d) × (e < f))))
pair_shows a b c d e f is = grind (arith, nat_tests)

pair_told : (a b c d e f : ℕ) → (a < b) ⊎ ((a ≡ b) × ((c < d) ⊎ ((c ≡ d) × (e < f)))) → (nat_lt a b || ((a == b) && (nat_lt c d || ((c == d) && nat_lt e f)))) ≡ true
pair_told a b c d e f is = grind (arith, nat_tests)

pair_before : (a b c : Pair) → JoinedBefore a b → JoinedBefore b c → JoinedBefore a c
pair_before a b c (inl x) (inl y) = inl (omega arith)
pair_before a b c (inl x) (inr y) = inl (omega arith)
pair_before a b c (inr x) (inl y) = inl (omega arith)
pair_before a b c (inr (x, inl u)) (inr (y, inl v)) = inr (omega arith, inl (omega arith))
pair_before a b c (inr (x, inl u)) (inr (y, inr v)) = inr (omega arith, inl (omega arith))
pair_before a b c (inr (x, inr u)) (inr (y, inl v)) = inr (omega arith, inl (omega arith))
pair_before a b c (inr (x, inr u)) (inr (y, inr v)) = inr (omega arith, inr (omega arith, omega arith))

pair_order : IsOrder JoinedBefore pair_follows
pair_order = record {
  shows = λ a b is. pair_shows a.left b.left a.right b.right a.dist b.dist is;
  told = λ a b is. pair_told a.left b.left a.right b.right a.dist b.dist is;
  before = pair_before;
}

pub pairs_ascend : (pairs : List Pair) → Chain pair_follows None pairs → Ascends JoinedBefore pairs
pairs_ascend pairs chain = ascends JoinedBefore pair_follows pair_order pairs chain

pub pairs_chain : (pairs : List Pair) → Ascends JoinedBefore pairs → Chain pair_follows None pairs
pairs_chain pairs up = chains JoinedBefore pair_follows pair_order pairs up
