-- The pages that a walk didn't open.
use Rattle.std.proofs.Common.{◌≡◌, ℕ, zero, suc, ◌+◌, ◌-◌, ◌≤◌, Bool, false, cond, List, [], ◌∷◌, ◌++◌, length, slice_index_or, refl, ap, ◌∙◌, arith}
use Rattle.std.specs.Prelude.{◌==◌, not, filter}
use Rattle.std.specs.List.{range_with_len}
use Rattle.std.proofs.lemmas.Bool.Decides.{nat_tests}
use Rattle.std.proofs.lemmas.List.Elements.{filter-append}
use Rattle.tree_shape.specs.Tree.{times}
use Rattle.free_pages.specs.Opened.{AreOpened}
use Rattle.free_pages.specs.Walk.{outside_pages}

-- the pages of a range that aren't flagged
abbrev pub unset_in : List Bool → ℕ → List ℕ
unset_in flags n = filter (λ page. not (slice_index_or flags page false)) (range_with_len 3 n)

range-push : (n a : ℕ) → range_with_len a (suc n) ≡ range_with_len a n ++ (a + n) ∷ []
range-push zero a = let e : a ≡ a + 0 = omega arith in ap (λ (x : ℕ). x ∷ []) e
range-push (suc n) a = let e : a + 1 + n ≡ a + suc n = omega arith in ap (λ (l : List ℕ). a ∷ l) (range-push n (a + 1) ∙ ap (λ (x : ℕ). range_with_len (a + 1) n ++ x ∷ []) e)

pub unset_more : (flags : List Bool) (page : ℕ) → 3 ≤ page → unset_in flags (page + 1 - 3) ≡ unset_in flags (page - 3) ++ cond (not (slice_index_or flags page false)) (page ∷ []) []
unset_more flags page le =
    let n : page + 1 - 3 ≡ suc (page - 3) = omega arith in
    let e : 3 + (page - 3) ≡ page = omega arith in
    let test = λ (p : ℕ). not (slice_index_or flags p false) in
    ap (λ (m : ℕ). filter test (range_with_len 3 m)) n
    ∙ ap (filter test) (range-push (page - 3) 3)
    ∙ filter-append test (range_with_len 3 (page - 3)) ((3 + (page - 3)) ∷ [])
    ∙ ap (λ (p : ℕ). filter test (range_with_len 3 (page - 3)) ++ cond (test p) (p ∷ []) []) e

agree : (flags : List Bool) (tree : List ℕ) (n a : ℕ) → AreOpened flags tree → a + n ≤ length flags →
    filter (λ page. not (slice_index_or flags page false)) (range_with_len a n) ≡ filter (λ page. times page tree == 0) (range_with_len a n)
agree flags tree zero a are le = refl
agree flags tree (suc n) a are le =
    let same = twice (times a tree) (slice_index_or flags a false) (are.told a (omega arith)) in
    ap (λ (b : Bool). cond b (a ∷ filter (λ page. not (slice_index_or flags page false)) (range_with_len (a + 1) n)) (filter (λ page. not (slice_index_or flags page false)) (range_with_len (a + 1) n))) same
    ∙ ap (λ (xs : List ℕ). cond (times a tree == 0) (a ∷ xs) xs) (agree flags tree n (a + 1) are (omega arith))
  where
    twice : (m : ℕ) (b : Bool) → b ≡ not (m == 0) → not b ≡ (m == 0)
    twice m b e = grind (arith, nat_tests)

pub unset_are : (flags : List Bool) (tree : List ℕ) (n : ℕ) → AreOpened flags tree → n ≡ length flags - 3 → unset_in flags n ≡ outside_pages (length flags) tree
unset_are flags tree n are is = each n is ∙ ap (λ (m : ℕ). filter (λ page. times page tree == 0) (range_with_len 3 m)) is
  where
    each : (n : ℕ) → n ≡ length flags - 3 → unset_in flags n ≡ filter (λ page. times page tree == 0) (range_with_len 3 n)
    each zero e = refl
    each (suc n) e = agree flags tree (suc n) 3 are (omega arith)
