-- One mark of a record that is allowed.
use Rattle.std.proofs.Common.{◌≡◌, ℕ, zero, suc, ◌+◌, ◌<◌, Bool, true, false, not, Some, List, [], ◌∷◌, ◌++◌, length, map, drop, get_or, refl, sym, ap, ◌∙◌, arith, drop-cons, append_assoc}
use Rattle.scan_model.specs.declared.hit.Hit.{Hit}
use Rattle.log_model.specs.declared.marks.Need.{Need}
use Rattle.log_model.specs.declared.marks.Mark.{Mark}
use Rattle.log_model.specs.declared.marks.Mark.TheVariants.{Skip, Far, Near}
use Rattle.log_model.specs.Walk.{near_ones}
use Rattle.log_verify.specs.Judged.{first_wrong}

-- what is left to check
pub one_left : {X : Type 0} (allows : X → Mark → Bool) (es : List X) (marks : List Mark) (i : ℕ) (e : X) → i < length es → length marks ≡ length es → e ≡ get_or es i e
    → allows e (get_or marks i Skip) ≡ true → first_wrong allows (drop (i + 1) es) (drop (i + 1) marks) (i + 1) ≡ first_wrong allows (drop i es) (drop i marks) i
one_left allows es marks i e low long is fine =
    let low_mark : i < length marks = omega (arith, long, low) in
    sym (rw (drop-cons es i e low, drop-cons marks i Skip low_mark, ← is, fine) (ap (λ (k : ℕ). first_wrong allows (drop k es) (drop k marks) (i + 1)) (let k : suc i ≡ i + 1 = omega arith in k)))

near_cons : {X Y : Type 0} (item : X → Y) (e : X) (es : List X) (m : Mark) (marks : List Mark) → map item (near_ones (e ∷ es) (m ∷ marks)) ≡ near_ones (item e ∷ []) (m ∷ []) ++ map item (near_ones es marks)
near_cons item e es Skip marks = refl
near_cons item e es Far marks = refl
near_cons item e es Near marks = refl

-- what is left to name
pub one_named : {X Y : Type 0} (item : X → Y) (es : List X) (marks : List Mark) (i : ℕ) (e : X) → i < length es → length marks ≡ length es → e ≡ get_or es i e
    → map item (near_ones (drop i es) (drop i marks)) ≡ near_ones (item e ∷ []) (get_or marks i Skip ∷ []) ++ map item (near_ones (drop (i + 1) es) (drop (i + 1) marks))
one_named item es marks i e low long is =
    let low_mark : i < length marks = omega (arith, long, low) in
    rw (drop-cons es i e low, drop-cons marks i Skip low_mark, ← is) (near_cons item e (drop (suc i) es) (get_or marks i Skip) (drop (suc i) marks))
    ∙ ap (λ (k : ℕ). near_ones (item e ∷ []) (get_or marks i Skip ∷ []) ++ map item (near_ones (drop k es) (drop k marks))) (let k : suc i ≡ i + 1 = omega arith in k)

-- what an entry names is known where it is marked Near
pub near_same : {Y : Type 0} (m : Mark) (one other : Y) → (m ≡ Near → one ≡ other) → near_ones (one ∷ []) (m ∷ []) ≡ near_ones (other ∷ []) (m ∷ [])
near_same Skip one other same = refl
near_same Far one other same = refl
near_same Near one other same = ap (λ y. y ∷ []) (same refl)

-- the names so far and those that are left
pub named_next : {Y : Type 0} (old new added added2 left rest all : List Y) → new ≡ old ++ added → added ≡ added2 → left ≡ added2 ++ rest → old ++ left ≡ all → new ++ rest ≡ all
named_next {Y} old new added added2 left rest all grown same more so_far =
    ap (λ (ys : List Y). ys ++ rest) (grown ∙ ap (λ (ys : List Y). old ++ ys) same) ∙ append_assoc old added2 rest ∙ ap (λ (ys : List Y). old ++ ys) (sym more) ∙ so_far

abbrev pub hit_at : ℕ → ℕ → Hit
hit_at id dist = record { id = id; dist = dist }

abbrev pub need_at : ℕ → ℕ → Need
need_at page dist = record { page = page; above = Some dist }

pub mark_is : (marks : List Mark) (i : ℕ) → i < length marks → get_or marks i Skip ≡ get_or marks i (get_or marks i Skip)
mark_is marks i low = same marks i Skip (get_or marks i Skip) low
  where
    same : (xs : List Mark) (k : ℕ) (d e : Mark) → k < length xs → get_or xs k d ≡ get_or xs k e
    same [] k d e below = absurd (let f : ⊥ = omega arith in f)
    same (x ∷ xs) zero d e below = refl
    same (x ∷ xs) (suc k) d e below = same xs k d e (omega arith)

pub not_false : (b : Bool) → not b ≡ false → b ≡ true
not_false true e = refl
not_false false e = absurd cc
