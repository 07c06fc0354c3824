-- Searching for a page among ascending ones.
use Rattle.std.proofs.Common.{◌≡◌, ℕ, suc, ◌+◌, ◌≤◌, ◌<◌, Bool, true, false, not, List, ◌∷◌, length, get_or, drop, Option, Some, None, Result, Ok, Err, refl, sym, ap, ◌∙◌, arith, inl, inr, add-one}
use Rattle.std.specs.Prelude.{IfOk, OnErr}
use Rattle.std.specs.List.{AllPairs}
use Rattle.std.specs.List.Sorted.{IsBinarySearchResult, IsSearchInRange}
use Rattle.std.specs.Ordering.{nat_cmp, ordering_index}
use Rattle.std.specs.declared.cmp.Ordering.TheVariants.{Less, Equal, Greater}
use Rattle.std.proofs.lemmas.Bool.{cases_lt}
use Rattle.std.proofs.lemmas.Bool.Decides.{nat_tests}
use Rattle.std.proofs.Math.Seq.{drop-cons}
use Rattle.std.proofs.lemmas.List.{drop_all}
use Rattle.log_model.specs.declared.marks.Record.{Record}
use Rattle.seal_log.specs.declared.faults.ProofFault.{ProofFault}
use Rattle.seal_log.specs.declared.faults.ProofFault.TheVariants as faults
use Rattle.seal_log.specs.declared.parts.CarriedPage.{CarriedPage}
use Rattle.seal_log.specs.Paths.{leads_to}
use Rattle.seal_log.specs.Judged.{path_fault, is_carried, missing_from, IsThere, IsNowhere}

equal_is : (a b : ℕ) → nat_cmp a b ≡ Equal → a ≡ b
equal_is a b e = grind (arith, nat_tests)

less_is : (a b : ℕ) → nat_cmp a b ≡ Less → a < b
less_is a b e = grind (arith, nat_tests)

greater_is : (a b : ℕ) → nat_cmp a b ≡ Greater → b < a
greater_is a b e = grind (arith, nat_tests)

higher : (x a b : ℕ) → a ≤ b → ordering_index (nat_cmp a x) ≤ ordering_index (nat_cmp b x)
higher x a b le = grind (arith, nat_tests)

-- the pages ascend with their places
risen : (ps : List CarriedPage) (i j : ℕ) (d : CarriedPage) → AllPairs (λ p q. p.page < q.page) ps → i ≤ j → j < length ps → (get_or ps i d).page ≤ (get_or ps j d).page
risen ps i j d ascend le within = elim (cases_lt i j) [
  | inl lt ↦ let below = ascend i j d lt within in omega arith
  | inr ge ↦ let same : i ≡ j = omega arith in omega (arith, ap (λ (k : ℕ). (get_or ps k d).page) same)
]

pub searched : (ps : List CarriedPage) (page : ℕ) (r : Result ℕ ℕ) → AllPairs (λ p q. p.page < q.page) ps → IsSearchInRange r (length ps) → IsBinarySearchResult (λ (p : CarriedPage). nat_cmp p.page page) ps r
    → IfOk r (IsThere ps page) × OnErr r (IsNowhere ps page)
searched ps page (Ok i) ascend bound is = ((bound, λ d. equal_is (get_or ps i d).page page (is d)), tt)
searched ps page (Err i) ascend bound is =
    let parted = is (λ a b d le lt. higher page (get_or ps a d).page (get_or ps b d).page (risen ps a b d ascend le lt)) in (
      tt,
      λ k d within. elim (cases_lt k i) [
        | inl lt ↦ let low = less_is (get_or ps k d).page page (parted.0 k d (omega arith) lt) in omega arith
        | inr ge ↦ let high = greater_is (get_or ps k d).page page (parted.1 k d ge within) in omega arith
      ],
    )

-- ---- first faults, place by place

drop-at : {X : Type 0} (xs : List X) (n : ℕ) (x d : X) → n < length xs → x ≡ get_or xs n d → drop n xs ≡ x ∷ drop (n + 1) xs
drop-at {X} xs n x d within is = rw add-one (drop-cons xs n d within ∙ ap (λ (y : X). y ∷ drop (suc n) xs) (sym is))

pub missing-goes_on : (ps : List CarriedPage) (records : List Record) (i : ℕ) (r d : Record) (goal : Option ProofFault) → i < length records → r ≡ get_or records i d → is_carried ps r.page ≡ true
    → missing_from ps (drop i records) i ≡ goal → missing_from ps (drop (i + 1) records) (i + 1) ≡ goal
unfolding missing_from
missing-goes_on ps records i r d goal within is there so_far = sym (ap (λ (rs : List Record). missing_from ps rs i) (drop-at records i r d within is) ∙ rw there refl) ∙ so_far

pub missing-here : (ps : List CarriedPage) (records : List Record) (i : ℕ) (r d : Record) (goal : Option ProofFault) → i < length records → r ≡ get_or records i d → is_carried ps r.page ≡ false
    → missing_from ps (drop i records) i ≡ goal → Some (faults.Missing i) ≡ goal
unfolding missing_from
missing-here ps records i r d goal within is nowhere so_far = sym (ap (λ (rs : List Record). missing_from ps rs i) (drop-at records i r d within is) ∙ rw nowhere refl) ∙ so_far

pub missing-done : (ps : List CarriedPage) (records : List Record) (i : ℕ) (goal : Option ProofFault) → length records ≤ i → missing_from ps (drop i records) i ≡ goal → None ≡ goal
unfolding missing_from
missing-done ps records i goal past so_far = sym (ap (λ (rs : List Record). missing_from ps rs i) (drop_all i records past)) ∙ so_far

pub astray-goes_on : (root : List ℕ) (n : ℕ) (ps : List CarriedPage) (i : ℕ) (p d : CarriedPage) (goal : Option ProofFault) → i < length ps → p ≡ get_or ps i d → leads_to root n p.page p.bytes p.path ≡ true
    → path_fault root n (drop i ps) ≡ goal → path_fault root n (drop (i + 1) ps) ≡ goal
unfolding path_fault
astray-goes_on root n ps i p d goal within is leads so_far = sym (ap (path_fault root n) (drop-at ps i p d within is) ∙ rw leads refl) ∙ so_far

pub astray-here : (root : List ℕ) (n : ℕ) (ps : List CarriedPage) (i : ℕ) (p d : CarriedPage) (goal : Option ProofFault) → i < length ps → p ≡ get_or ps i d → leads_to root n p.page p.bytes p.path ≡ false
    → path_fault root n (drop i ps) ≡ goal → Some (faults.Path p.page) ≡ goal
unfolding path_fault
astray-here root n ps i p d goal within is leads so_far = sym (ap (path_fault root n) (drop-at ps i p d within is) ∙ rw leads refl) ∙ so_far

pub astray-done : (root : List ℕ) (n : ℕ) (ps : List CarriedPage) (i : ℕ) (goal : Option ProofFault) → length ps ≤ i → path_fault root n (drop i ps) ≡ goal → None ≡ goal
unfolding path_fault
astray-done root n ps i goal past so_far = sym (ap (path_fault root n) (drop_all i ps past)) ∙ so_far

pub not-not : (b n : Bool) → b ≡ not n → n ≡ false → b ≡ true
not-not b false is e = is
not-not b true is e = absurd cc

pub not-is : (b n : Bool) → b ≡ not n → n ≡ true → b ≡ false
not-is b true is e = is
not-is b false is e = absurd cc
