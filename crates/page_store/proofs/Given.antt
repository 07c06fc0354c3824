-- The pages that new nodes are given.
use Rattle.std.proofs.Common.{◌≡◌, ◌≢◌, ℕ, zero, suc, ◌+◌, ◌-◌, ◌<◌, ◌≤◌, Bool, true, false, List, [], ◌∷◌, ◌++◌, refl, ap, ◌∙◌, arith, length, map, subst, get_or, inl, inr, append_assoc}
use Rattle.std.specs.Prelude.{if◌then◌else◌, ◌==◌, nat_lt, None}
use Rattle.std.specs.List.{AllByRecursion, range_with_len}
use Rattle.std.proofs.lemmas.Bool.Decides.{nat_tests}
use Rattle.metric_laws.specs.Lists.{IsIn}
use Rattle.metric_laws.proofs.Published.{all_weaker, all_append}
use Rattle.tree_shape.specs.declared.entry.Node.{Node}
use Rattle.tree_shape.specs.Tree.{times}
use Rattle.page_store.specs.declared.staging.StagedNode.{StagedNode}
use Rattle.page_store.specs.Staging.{pages_of, IsFree, staged_for}
use Rattle.page_store.specs.Numbers.{number_at, numbered, Ascends, AreNumbers}
use Rattle.page_store.proofs.Standing.{pages_from}

pub low_at : (low : ℕ) (xs : List ℕ) (i : ℕ) → Ascends low xs → i < length xs → low ≤ get_or xs i 0
low_at low [] i up less = absurd (omega arith)
low_at low (x ∷ xs) zero up less = up.0
low_at low (x ∷ xs) (suc i) up less = let ih = low_at (x + 1) xs i up.1 (omega arith) in let here = up.0 in omega (arith, ih, here)

pub next_at : (low : ℕ) (xs : List ℕ) (i : ℕ) → Ascends low xs → i + 1 < length xs → get_or xs i 0 < get_or xs (i + 1) 0
next_at low [] i up less = absurd (omega arith)
next_at low (x ∷ xs) zero up less = let ih = low_at (x + 1) xs 0 up.1 (omega arith) in let e : get_or (x ∷ xs) (0 + 1) 0 ≡ get_or xs 0 0 = refl in omega (arith, ih, e)
next_at low (x ∷ xs) (suc i) up less =
    let ih = next_at (x + 1) xs i up.1 (omega arith) in
    let n : suc i + 1 ≡ suc (i + 1) = omega arith in
    rw n ih

pub below_at : (top : ℕ) (xs : List ℕ) (i : ℕ) → AllByRecursion (λ n. n < top) xs → i < length xs → get_or xs i 0 < top
below_at top [] i all less = absurd (omega arith)
below_at top (x ∷ xs) zero all less = all.0
below_at top (x ∷ xs) (suc i) all less = below_at top xs i all.1 (omega arith)

-- a number that was handed in, and one after the end
pub number_in : (numbers : List ℕ) (first i : ℕ) → i < length numbers → number_at numbers first i ≡ get_or numbers i 0
number_in numbers first i low = let e : nat_lt i (length numbers) ≡ true = grind (arith, nat_tests) in rw e refl

pub number_out : (numbers : List ℕ) (first i : ℕ) → length numbers ≤ i → number_at numbers first i ≡ first + (i - length numbers)
number_out numbers first i high = let e : nat_lt i (length numbers) ≡ false = grind (arith, nat_tests) in rw e refl

-- a number is below another or not
pub lower_or : {P : Type 0} (i k : ℕ) → (i < k → P) → (k ≤ i → P) → P
lower_or {P} i k lower other = cases (nat_lt i k) refl
  where
    cases : (b : Bool) → nat_lt i k ≡ b → P
    cases true e = lower (let l : i < k = grind (arith, nat_tests) in l)
    cases false e = other (let l : k ≤ i = grind (arith, nat_tests) in l)

-- the numbers ascend
pub number_up : (numbers : List ℕ) (first : ℕ) → AreNumbers first numbers → (i : ℕ) → number_at numbers first i < number_at numbers first (i + 1)
number_up numbers first are i =
    lower_or (i + 1) (length numbers)
    (λ l. let a = number_in numbers first i (omega arith) in let b = number_in numbers first (i + 1) l in let n = next_at 3 numbers i are.ascending l in omega (arith, a, b, n))
    (λ h. lower_or i (length numbers)
    (λ l. let a = number_in numbers first i l in let b = number_out numbers first (i + 1) h in let n = below_at first numbers i are.below l in omega (arith, a, b, n))
    (λ k. let a = number_out numbers first i k in let b = number_out numbers first (i + 1) h in omega (arith, a, b)))

-- they are pages of the next file
pub number_within : (numbers : List ℕ) (first : ℕ) → AreNumbers first numbers → 3 ≤ first → (i k : ℕ) → i < k → (3 ≤ number_at numbers first i) × (number_at numbers first i < first + (k - length numbers))
number_within numbers first are three i k low =
    lower_or i (length numbers)
    (λ l. let a = number_in numbers first i l in let n = below_at first numbers i are.below l in let m = low_at 3 numbers i are.ascending l in (omega (arith, a, m), omega (arith, a, n)))
    (λ h. let a = number_out numbers first i h in (omega (arith, a), omega (arith, a)))

-- no page is given twice
pub given_once : (number : ℕ → ℕ) → ((i : ℕ) → number i < number (i + 1)) → (n i : ℕ) (ns : List Node) → (times n (pages_from number i ns) ≤ 1) × (n < number i → times n (pages_from number i ns) ≡ 0)
given_once number up n i [] = (omega arith, λ low. refl)
given_once number up n i (x ∷ ns) =
    let ih = given_once number up n (i + 1) ns in
    let more = up i in
    cases (number i == n) refl ih.0 (λ low. ih.1 (omega (arith, low, more)))
  where
    cases : (b : Bool) → (number i == n) ≡ b → times n (pages_from number (i + 1) ns) ≤ 1 → (n ≤ number i → times n (pages_from number (i + 1) ns) ≡ 0) →
        ((if b then 1 else 0) + times n (pages_from number (i + 1) ns) ≤ 1) × (n < number i → (if b then 1 else 0) + times n (pages_from number (i + 1) ns) ≡ 0)
    cases true e few none = (let same : number i ≡ n = grind (arith, nat_tests) in let z = none (omega arith) in omega (arith, z), λ low. let same : number i ≡ n = grind (arith, nat_tests) in absurd (omega arith))
    cases false e few none = (omega (arith, few), λ low. let z = none (omega arith) in omega (arith, z))

pub pages_numbered : (number : ℕ → ℕ) (i : ℕ) (ns : List Node) → pages_of (numbered number i ns) ≡ pages_from number i ns
pages_numbered number i [] = refl
pages_numbered number i (n ∷ ns) = ap (λ r. number i ∷ r) (pages_numbered number (i + 1) ns)

pub numbered_long : (number : ℕ → ℕ) (i : ℕ) (ns : List Node) → length (numbered number i ns) ≡ length ns
numbered_long number i [] = refl
numbered_long number i (n ∷ ns) = ap suc (numbered_long number (i + 1) ns)

pub pages_range : (number : ℕ → ℕ) (i : ℕ) (ns : List Node) → pages_from number i ns ≡ map number (range_with_len i (length ns))
pages_range number i [] = refl
pages_range number i (n ∷ ns) = ap (λ r. number i ∷ r) (pages_range number (i + 1) ns)

-- the number of each place is given
pub given_in : (number : ℕ → ℕ) (i k : ℕ) (ns : List Node) → i ≤ k → k < i + length ns → IsIn (number k) (pages_from number i ns)
given_in number i k [] low high = absurd (omega arith)
given_in number i k (n ∷ ns) low high = cases (k == i) refl (λ more. given_in number (i + 1) k ns more (omega arith))
  where
    cases : (b : Bool) → (k == i) ≡ b → (i + 1 ≤ k → IsIn (number k) (pages_from number (i + 1) ns)) → IsIn (number k) (pages_from number i (n ∷ ns))
    cases true e deep = inl (ap number (let same : k ≡ i = grind (arith, nat_tests) in same))
    cases false e deep = inr (deep (let l : i + 1 ≤ k = grind (arith, nat_tests) in l))

-- each page from the end on is given
pub end_given : (numbers : List ℕ) (first : ℕ) (ns : List Node) (page : ℕ) → first ≤ page → page < first + (length ns - length numbers) → IsIn page (pages_from (number_at numbers first) 0 ns)
end_given numbers first ns page low high =
    let k : ℕ = length numbers + (page - first) in
    let at : number_at numbers first (length numbers + (page - first)) ≡ page = let a = number_out numbers first (length numbers + (page - first)) (omega arith) in omega (arith, a) in
    subst (λ (p : ℕ). IsIn p (pages_from (number_at numbers first) 0 ns)) at (given_in (number_at numbers first) 0 (length numbers + (page - first)) ns (omega arith) (omega arith))

-- what is staged so far is for lower pages
pub free_above : (staged : List StagedNode) (page : ℕ) → AllByRecursion (λ s. s.page < page) staged → IsFree staged page
free_above staged page all = all_weaker (λ (s : StagedNode). s.page < page) (λ (s : StagedNode). s.page ≢ page) staged (λ s low same. absurd (omega (arith, low, same))) all

pub lower_more : (staged : List StagedNode) (s : StagedNode) (page next : ℕ) → AllByRecursion (λ s. s.page < page) staged → s.page ≡ page → page < next → AllByRecursion (λ s. s.page < next) (staged ++ s ∷ [])
lower_more staged s page next all same up = all_append (λ (s : StagedNode). s.page < next) staged (s ∷ []) (all_weaker (λ (s : StagedNode). s.page < page) (λ (s : StagedNode). s.page < next) staged (λ x low. omega (arith, low, up)) all) (omega (arith, same, up), tt)

pub free_none : (staged : List StagedNode) (page : ℕ) → IsFree staged page → staged_for staged page ≡ None
free_none [] page free = refl
free_none (s ∷ staged) page free = let e : (s.page == page) ≡ false = let ne = free.0 in grind (arith, nat_tests) in rw e (free_none staged page free.1)

-- a further node
pub numbered_more : (number : ℕ → ℕ) (i page : ℕ) (node : Node) (old new : List StagedNode) (ns all : List Node) (whole : List StagedNode) → page ≡ number i → new ≡ old ++ record { page = page; node = node } ∷ [] → all ≡ node ∷ ns →
    old ++ numbered number i all ≡ whole → new ++ numbered number (i + 1) ns ≡ whole
numbered_more number i page node old new ns all whole same is next before =
    rw (is, same) (append_assoc old (record { page = number i; node = node } ∷ []) (numbered number (i + 1) ns) ∙ (rw next at before))
