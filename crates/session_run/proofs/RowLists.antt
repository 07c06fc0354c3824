-- Rows that stand one after another, and lists that are made by their places.
use Rattle.std.proofs.Common.{◌≡◌, ℕ, zero, suc, Bool, true, false, Option, Some, None, ◌+◌, ◌*◌, ◌≤◌, List, [], ◌∷◌, ◌++◌, All, length, take, drop, refl, sym, ap, subst, ◌∙◌, arith}
use Rattle.std.proofs.lemmas.List.{drop-drop, length-take-le}
use Rattle.std.proofs.lemmas.List.Elements.{All-append, All-cons}
use Rattle.std.proofs.Common.{length-append, length-drop}
use Rattle.std.specs.Prelude.{IsTrue}
use Rattle.std.proofs.lemmas.Option.{none-some}
use Rattle.metric_laws.specs.Rows.{rows_of}
use Rattle.node_page.specs.Nodes.{firsts}
use Rattle.session_run.specs.GivenRows.{tags_if}

-- one row more
one_row_next : (width n : ℕ) (cells : List ℕ) → rows_of width (suc n) cells ≡ rows_of width n cells ++ take width (drop (n * width) cells) ∷ []
one_row_next width zero cells =
    let none : 0 ≡ 0 * width = omega arith in
    ap (λ (k : ℕ). take width (drop k cells) ∷ []) none
one_row_next width (suc n) cells =
    let all : width + n * width ≡ suc n * width = omega arith in
    let moved : drop (n * width) (drop width cells) ≡ drop (suc n * width) cells = drop-drop (n * width) width cells ∙ ap (λ (k : ℕ). drop k cells) all in
    ap (λ (rest : List (List ℕ)). take width cells ∷ rest) (one_row_next width n (drop width cells) ∙ ap (λ (row : List ℕ). rows_of width n (drop width cells) ++ take width row ∷ []) moved)

pub one_row_more : (width n : ℕ) (cells : List ℕ) → rows_of width (n + 1) cells ≡ rows_of width n cells ++ take width (drop (n * width) cells) ∷ []
one_row_more width n cells = ap (λ (k : ℕ). rows_of width k cells) (let e : n + 1 ≡ suc n = omega arith in e) ∙ one_row_next width n cells

-- each row has its width
pub rows_are_wide : (width n : ℕ) (cells : List ℕ) → n * width ≤ length cells → All (λ (p : List ℕ). length p ≡ width) (rows_of width n cells)
rows_are_wide width zero cells enough k d below = absurd (omega (arith, below))
rows_are_wide width (suc n) cells enough zero d below = length-take-le width cells (omega (arith, enough))
rows_are_wide width (suc n) cells enough (suc k) d below = rows_are_wide width n (drop width cells) (omega (arith, enough, length-drop width cells)) k d (omega (arith, below))

pub rows_are_as_many : (width n : ℕ) (cells : List ℕ) → length (rows_of width n cells) ≡ n
rows_are_as_many width zero cells = refl
rows_are_as_many width (suc n) cells = ap suc (rows_are_as_many width n (drop width cells))

-- one more of a list that is made by its places
pub one_more : {E : Type 0} (f : ℕ → E) (n : ℕ) → firsts f (n + 1) ≡ firsts f n ++ f n ∷ []
unfolding firsts
one_more f n = ap (firsts f) (let e : n + 1 ≡ suc n = omega arith in e)

pub none_yet : {E : Type 0} (f : ℕ → E) → firsts f 0 ≡ []
unfolding firsts
none_yet f = refl

pub all_with : {X : Type 0} (P : X → Type 0) (xs : List X) (x : X) (all : List X) → all ≡ xs ++ x ∷ [] → All P xs → P x → All P all
all_with P xs x all is each last =
    let none : All P [] = λ k d below. absurd (omega (arith, below)) in
    subst (All P) (sym is) (All-append P xs (x ∷ []) each (All-cons P x [] last none))

pub many_with : {X : Type 0} (xs : List X) (x : X) (all : List X) (n : ℕ) → all ≡ xs ++ x ∷ [] → length xs ≡ n → length all ≡ n + 1
many_with xs x all n is long = ap length is ∙ length-append xs (x ∷ []) ∙ omega (arith, long)

-- tags that are there are those that were given
abbrev found_or : List ℕ → Option (List ℕ) → List ℕ
found_or other None = other
found_or other (Some tags) = tags

pub each_has : (tagged : Bool) (tags found : List ℕ) (count : ℕ) → (IsTrue tagged → length tags ≡ count) → tags_if tagged tags ≡ Some found → length found ≡ count
each_has true tags found count each is = ap (λ (o : Option (List ℕ)). length (found_or tags o)) (sym is) ∙ each refl
each_has false tags found count each is = absurd (none-some found is)
