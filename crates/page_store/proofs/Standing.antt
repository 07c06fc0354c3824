-- What a file with staged nodes shows.
use Rattle.std.proofs.Common.{◌≡◌, ℕ, zero, suc, ◌+◌, ◌<◌, ◌≤◌, Bool, true, false, List, [], ◌∷◌, ◌++◌, refl, sym, ap, ◌∙◌, arith, length, map, subst, get_or, inl, inr}
use Rattle.std.specs.Prelude.{if◌then◌else◌, ◌==◌, Some}
use Rattle.std.specs.List.{AllByRecursion}
use Rattle.std.proofs.lemmas.Bool.Decides.{nat_tests}
use Rattle.metric_laws.specs.Lists.{IsIn}
use Rattle.tree_shape.specs.declared.entry.Node.{Node}
use Rattle.tree_shape.specs.Tree.{Nodes, times}
use Rattle.tree_shape.specs.Plain.{Tall, tree_at}
use Rattle.tree_shape.proofs.Published.{times-append}
use Rattle.page_store.specs.Numbers.{numbered}
use Rattle.page_store.specs.Placing.{level_of, staged_tree}

-- the nodes stand on their pages, from this number on
abbrev pub HoldsFrom : Nodes → (ℕ → ℕ) → ℕ → List Node → Type 0
HoldsFrom new number i [] = Unit {0}
HoldsFrom new number i (n ∷ ns) = (new (number i) ≡ Some n) × HoldsFrom new number (i + 1) ns

pub holds_append : (file : Nodes) (number : ℕ → ℕ) (i : ℕ) (xs ys : List Node) → HoldsFrom file number i (xs ++ ys) → HoldsFrom file number i xs × HoldsFrom file number (i + length xs) ys
holds_append file number i [] ys h = let e : i + 0 ≡ i = omega arith in (tt, rw e h)
holds_append file number i (x ∷ xs) ys h =
    let r = holds_append file number (i + 1) xs ys h.1 in
    let e : i + suc (length xs) ≡ i + 1 + length xs = omega arith in
    ((h.0, r.0), rw e r.1)

-- the later nodes stand behind the earlier ones
pub holds_after : (file : Nodes) (number : ℕ → ℕ) (old more new : List Node) → new ≡ old ++ more → HoldsFrom file number 0 new → HoldsFrom file number 0 old × HoldsFrom file number (length old) more
holds_after file number old more new is holds =
    let parts = holds_append file number 0 old more (subst (HoldsFrom file number 0) is holds) in
    let z : 0 + length old ≡ length old = omega arith in
    (parts.0, rw z at parts.1)

-- the pages of staged nodes, from this number on
abbrev pub pages_from : (ℕ → ℕ) → ℕ → List Node → List ℕ
pages_from number i [] = []
pages_from number i (n ∷ ns) = number i ∷ pages_from number (i + 1) ns

pub pages_append : (number : ℕ → ℕ) (i : ℕ) (xs ys : List Node) → pages_from number i (xs ++ ys) ≡ pages_from number i xs ++ pages_from number (i + length xs) ys
pages_append number i [] ys = let e : i + 0 ≡ i = omega arith in rw e refl
pages_append number i (x ∷ xs) ys =
    let e : i + suc (length xs) ≡ i + 1 + length xs = omega arith in
    rw e (ap (λ r. number i ∷ r) (pages_append number (i + 1) xs ys))

pub pages_more : (number : ℕ → ℕ) (old more new : List Node) (n : ℕ) → new ≡ old ++ more → times n (pages_from number 0 new) ≡ times n (pages_from number 0 old) + times n (pages_from number (length old) more)
pages_more number old more new n is =
    let z : 0 + length old ≡ length old = omega arith in
    ap (λ (xs : List Node). times n (pages_from number 0 xs)) is ∙ ap (times n) (pages_append number 0 old more) ∙ times-append n (pages_from number 0 old) (pages_from number (0 + length old) more)
    ∙ ap (λ (i : ℕ). times n (pages_from number 0 old) + times n (pages_from number i more)) z

-- the trees of staged nodes, from this number on
abbrev pub trees_from : Nodes → (ℕ → ℕ) → ℕ → List Node → List Tall
trees_from file number i [] = []
trees_from file number i (n ∷ ns) = record { height = level_of n; tree = tree_at file (level_of n) (number i) } ∷ trees_from file number (i + 1) ns

pub trees_append : (file : Nodes) (number : ℕ → ℕ) (i : ℕ) (xs ys : List Node) → trees_from file number i (xs ++ ys) ≡ trees_from file number i xs ++ trees_from file number (i + length xs) ys
trees_append file number i [] ys = let e : i + 0 ≡ i = omega arith in rw e refl
trees_append file number i (x ∷ xs) ys =
    let e : i + suc (length xs) ≡ i + 1 + length xs = omega arith in
    rw e (ap (λ r. record { height = level_of x; tree = tree_at file (level_of x) (number i) } ∷ r) (trees_append file number (i + 1) xs ys))

pub trees_more : (file : Nodes) (number : ℕ → ℕ) (old more new : List Node) → new ≡ old ++ more → trees_from file number 0 new ≡ trees_from file number 0 old ++ trees_from file number (length old) more
trees_more file number old more new is =
    let z : 0 + length old ≡ length old = omega arith in
    ap (trees_from file number 0) is ∙ trees_append file number 0 old more ∙ ap (λ (i : ℕ). trees_from file number 0 old ++ trees_from file number i more) z

pub trees_numbered : (file : Nodes) (number : ℕ → ℕ) (i : ℕ) (ns : List Node) → map (staged_tree file) (numbered number i ns) ≡ trees_from file number i ns
trees_numbered file number i [] = refl
trees_numbered file number i (n ∷ ns) = ap (λ (r : List Tall). staged_tree file (record { page = number i; node = n }) ∷ r) (trees_numbered file number (i + 1) ns)

pub in_get : {X : Type 0} (xs : List X) (i : ℕ) (z : X) → i < length xs → IsIn (get_or xs i z) xs
in_get [] i z low = absurd (omega arith)
in_get (x ∷ xs) zero z low = inl refl
in_get (x ∷ xs) (suc i) z low = inr (in_get xs i z (omega arith))

-- staged nodes stand on their pages
pub stand_holds : (file : Nodes) (number : ℕ → ℕ) (i : ℕ) (ns : List Node) → AllByRecursion (λ s. file s.page ≡ Some s.node) (numbered number i ns) → HoldsFrom file number i ns
stand_holds file number i [] all = tt
stand_holds file number i (n ∷ ns) all = (all.0, stand_holds file number (i + 1) ns all.1)

pub in_times : (n : ℕ) (xs : List ℕ) → IsIn n xs → 1 ≤ times n xs
in_times n [] k = absurd k
in_times n (x ∷ xs) k = elim k [ inl e ↦ first (sym e) | inr w ↦ (let ih = in_times n xs w in omega (arith, ih)) ]
  where
    first : x ≡ n → 1 ≤ (if x == n then 1 else 0) + times n xs
    first e = let t : (x == n) ≡ true = grind (arith, nat_tests) in let f : ◌≡◌ {A = ℕ} (if x == n then 1 else 0) 1 = ap (λ (b : Bool). if b then 1 else 0) t in omega (arith, f)

pub times_in : (n : ℕ) (xs : List ℕ) → 1 ≤ times n xs → IsIn n xs
times_in n [] k = absurd (omega arith)
times_in n (x ∷ xs) k = cases (x == n) refl (times_in n xs) k
  where
    cases : (b : Bool) → (x == n) ≡ b → (1 ≤ times n xs → IsIn n xs) → 1 ≤ (if b then 1 else 0) + times n xs → IsIn n (x ∷ xs)
    cases true e ih k = inl (let s : n ≡ x = grind (arith, nat_tests) in s)
    cases false e ih k = inr (ih (omega arith))
