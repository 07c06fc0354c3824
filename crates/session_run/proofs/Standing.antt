-- Open cursors, one for one with those that they stand for.
use Rattle.std.proofs.Common.{◌≡◌, ℕ, zero, suc, ◌+◌, ◌≤◌, ◌<◌, ◌==◌, Bool, true, false, List, [], ◌∷◌, ◌++◌, length, map, get_or, refl, sym, ap, subst, ◌∙◌, arith, Some, None}
use Rattle.std.specs.Prelude.{cond, filter, find, not, set}
use Rattle.std.specs.List.{AllByRecursion, AllZip, position, position_from}
use Rattle.std.proofs.lemmas.Iterator.Adapters.{position_from-zero}
use Rattle.rows_text.specs.Meaning.{Cursor, advanced}
use Rattle.session_run.specs.declared.pinned.PinnedCursor.{PinnedCursor}
use Rattle.session_run.specs.Pinned.{AreNumbered}

same_number : (n m : ℕ) → n ≡ m → (n == m) ≡ true
same_number n m is = grind arith

less_number : (n m : ℕ) → n < m → (n == m) ≡ false
less_number n m less = grind arith

more_number : (n m : ℕ) → m < n → (n == m) ≡ false
more_number n m more = grind arith

-- ---- numbers

lower : (cursors : List PinnedCursor) (low from next : ℕ) → from ≤ low → AreNumbered low next cursors → AreNumbered from next cursors
lower [] low from next below are = omega (arith, below, are)
lower (c ∷ cursors) low from next below are = (omega (arith, below, are.0), are.1)

number_from : (cursors : List PinnedCursor) (low next k : ℕ) (d : PinnedCursor) → AreNumbered low next cursors → k < length cursors → low ≤ (get_or cursors k d).number
number_from [] low next k d are below = absurd (omega arith)
number_from (c ∷ cursors) low next zero d are below = are.0
number_from (c ∷ cursors) low next (suc k) d are below = let more = number_from cursors (c.number + 1) next k d are.1 (omega arith) in omega (arith, more, are.0)

-- a cursor more, which has the next number
pub numbered_more : (cursors : List PinnedCursor) (low next : ℕ) (c : PinnedCursor) → c.number ≡ next → AreNumbered low next cursors → AreNumbered low (next + 1) (cursors ++ c ∷ [])
numbered_more [] low next c is are = (omega (arith, is, are), omega (arith, is))
numbered_more (b ∷ cursors) low next c is are = (are.0, numbered_more cursors (b.number + 1) next c is are.1)

pub numbered_set : (cursors : List PinnedCursor) (low next k : ℕ) (d new : PinnedCursor) → k < length cursors → new.number ≡ (get_or cursors k d).number → AreNumbered low next cursors → AreNumbered low next (set cursors k new)
numbered_set [] low next k d new below same are = absurd (omega arith)
numbered_set (c ∷ cursors) low next zero d new below same are = (omega (arith, same, are.0), subst (λ (n : ℕ). AreNumbered (n + 1) next cursors) (sym same) are.1)
numbered_set (c ∷ cursors) low next (suc k) d new below same are = (are.0, numbered_set cursors (c.number + 1) next k d new (omega arith) same are.1)

pub numbered_filter : (p : PinnedCursor → Bool) (cursors : List PinnedCursor) (low next : ℕ) → AreNumbered low next cursors → AreNumbered low next (filter p cursors)
numbered_filter p [] low next are = are
numbered_filter p (c ∷ cursors) low next are = tested (p c) refl (numbered_filter p cursors (c.number + 1) next are.1)
  where
    tested : (b : Bool) → p c ≡ b → AreNumbered (c.number + 1) next (filter p cursors) → AreNumbered low next (filter p (c ∷ cursors))
    tested true is rest = rw is (are.0, rest)
    tested false is rest = rw is (lower (filter p cursors) (c.number + 1) low next (omega (arith, are.0)) rest)

pub all_set : {X : Type 0} (P : X → Type 0) (xs : List X) (k : ℕ) (new : X) → P new → AllByRecursion P xs → AllByRecursion P (set xs k new)
all_set P [] k new is all = tt
all_set P (x ∷ xs) zero new is all = (is, all.1)
all_set P (x ∷ xs) (suc k) new is all = (all.0, all_set P xs k new is all.1)

pub all_at : {X : Type 0} (P : X → Type 0) (xs : List X) (k : ℕ) (d : X) → k < length xs → AllByRecursion P xs → P (get_or xs k d)
all_at P [] k d below all = absurd (omega arith)
all_at P (x ∷ xs) zero d below all = all.0
all_at P (x ∷ xs) (suc k) d below all = all_at P xs k d (omega arith) all.1

-- ---- one for one

pub zip_length : {X Y : Type 0} (P : X → Y → Type 0) (xs : List X) (ys : List Y) → AllZip P xs ys → length xs ≡ length ys
zip_length P [] [] all = refl
zip_length P [] (y ∷ ys) all = absurd all
zip_length P (x ∷ xs) [] all = absurd all
zip_length P (x ∷ xs) (y ∷ ys) all = ap (λ (n : ℕ). suc n) (zip_length P xs ys all.1)

pub zip_more : {X Y : Type 0} (P : X → Y → Type 0) (xs : List X) (ys : List Y) (x : X) (y : Y) → AllZip P xs ys → P x y → AllZip P (xs ++ x ∷ []) (ys ++ y ∷ [])
zip_more P [] [] x y all is = (is, tt)
zip_more P [] (b ∷ ys) x y all is = absurd all
zip_more P (a ∷ xs) [] x y all is = absurd all
zip_more P (a ∷ xs) (b ∷ ys) x y all is = (all.0, zip_more P xs ys x y all.1 is)

module _ (P Q : PinnedCursor → Cursor → Type 0) (same : (c : PinnedCursor) (m : Cursor) → P c m → m.number ≡ c.number) (moved : (c : PinnedCursor) (m : Cursor) → P c m → Q c m) where
  not_advanced : (number n : ℕ) (m : Cursor) → (m.number == number) ≡ false → advanced number n m ≡ m
  not_advanced number n m is = rw is refl

  unmoved : (cursors : List PinnedCursor) (meant : List Cursor) (low next number n : ℕ) → number < low → AreNumbered low next cursors → AllZip P cursors meant → AllZip Q cursors (map (advanced number n) meant)
  unmoved [] [] low next number n below are all = tt
  unmoved [] (m ∷ meant) low next number n below are all = absurd all
  unmoved (c ∷ cursors) [] low next number n below are all = absurd all
  unmoved (c ∷ cursors) (m ∷ meant) low next number n below are all =
      let is = same c m all.0 in (
        subst (λ (x : Cursor). Q c x) (sym (not_advanced number n m (more_number m.number number (omega (arith, is, below, are.0))))) (moved c m all.0),
        unmoved cursors meant (c.number + 1) next number n (omega (arith, below, are.0)) are.1 all.1,
      )

  -- the cursor at a place gives its next hits
  pub moved_at : (cursors : List PinnedCursor) (meant : List Cursor) (low next k number n : ℕ) (d new : PinnedCursor) → AreNumbered low next cursors → AllZip P cursors meant → k < length cursors →
      (get_or cursors k d).number ≡ number → ((m : Cursor) → P (get_or cursors k d) m → Q new (advanced number n m)) → AllZip Q (set cursors k new) (map (advanced number n) meant)
  moved_at [] meant low next k number n d new are all below at steps = absurd (omega arith)
  moved_at (c ∷ cursors) [] low next k number n d new are all below at steps = absurd all
  moved_at (c ∷ cursors) (m ∷ meant) low next zero number n d new are all below at steps =
      (steps m all.0, unmoved cursors meant (c.number + 1) next number n (omega (arith, at)) are.1 all.1)
  moved_at (c ∷ cursors) (m ∷ meant) low next (suc k) number n d new are all below at steps =
      let is = same c m all.0 in
      let more = number_from cursors (c.number + 1) next k d are.1 (omega arith) in (
        subst (λ (x : Cursor). Q c x) (sym (not_advanced number n m (less_number m.number number (omega (arith, is, more, at))))) (moved c m all.0),
        moved_at cursors meant (c.number + 1) next k number n d new are.1 all.1 (omega arith) at steps,
      )

  -- it is the one that is named
  pub named_at : (cursors : List PinnedCursor) (meant : List Cursor) (low next k number : ℕ) (d : PinnedCursor) → AreNumbered low next cursors → AllZip P cursors meant → k < length cursors →
      (get_or cursors k d).number ≡ number → (m : Cursor) × (find (λ c. c.number == number) meant ≡ Some m) × P (get_or cursors k d) m
  named_at [] meant low next k number d are all below at = absurd (omega arith)
  named_at (c ∷ cursors) [] low next k number d are all below at = absurd all
  named_at (c ∷ cursors) (m ∷ meant) low next zero number d are all below at =
      let test = same_number m.number number (same c m all.0 ∙ at) in (m, rw test refl, all.0)
  named_at (c ∷ cursors) (m ∷ meant) low next (suc k) number d are all below at =
      let is = same c m all.0 in
      let more = number_from cursors (c.number + 1) next k d are.1 (omega arith) in
      let test = less_number m.number number (omega (arith, is, more, at)) in
      let rest = named_at cursors meant (c.number + 1) next k number d are.1 all.1 (omega arith) at in
      (rest.0, rw test rest.1, rest.2)

  unnamed_from : (cursors : List PinnedCursor) (meant : List Cursor) (number i : ℕ) → position_from (λ c. c.number == number) i cursors ≡ None → AllZip P cursors meant → find (λ c. c.number == number) meant ≡ None
  unnamed_from [] [] number i none all = refl
  unnamed_from [] (m ∷ meant) number i none all = absurd all
  unnamed_from (c ∷ cursors) [] number i none all = refl
  unnamed_from (c ∷ cursors) (m ∷ meant) number i none all = tested (c.number == number) refl (λ rest. unnamed_from cursors meant number (i + 1) rest all.1)
    where
      tested : (b : Bool) → (c.number == number) ≡ b → (position_from (λ c. c.number == number) (i + 1) cursors ≡ None → find (λ c. c.number == number) meant ≡ None) →
          find (λ c. c.number == number) (m ∷ meant) ≡ None
      tested true is more = absurd (let e : Some i ≡ None = rw is at none in cc)
      tested false is more =
          let other : (m.number == number) ≡ false = ap (λ (n : ℕ). n == number) (same c m all.0) ∙ is in
          let rest : position_from (λ c. c.number == number) (i + 1) cursors ≡ None = rw is at none in
          rw other (more rest)

  -- none is named
  pub unnamed : (cursors : List PinnedCursor) (meant : List Cursor) (number : ℕ) → position (λ c. c.number == number) cursors ≡ None → AllZip P cursors meant → find (λ c. c.number == number) meant ≡ None
  unnamed cursors meant number none all = unnamed_from cursors meant number 0 (sym (position_from-zero (λ c. c.number == number) cursors) ∙ none) all

  -- those of other numbers
  pub others : (cursors : List PinnedCursor) (meant : List Cursor) (number : ℕ) → AllZip P cursors meant →
      AllZip Q (filter (λ c. not (c.number == number)) cursors) (filter (λ c. not (c.number == number)) meant)
  others [] [] number all = tt
  others [] (m ∷ meant) number all = absurd all
  others (c ∷ cursors) [] number all = absurd all
  others (c ∷ cursors) (m ∷ meant) number all = tested (c.number == number) refl (others cursors meant number all.1)
    where
      kept : (b : Bool) → AllZip Q (filter (λ c. not (c.number == number)) cursors) (filter (λ c. not (c.number == number)) meant) →
          AllZip Q (cond (not b) (c ∷ filter (λ c. not (c.number == number)) cursors) (filter (λ c. not (c.number == number)) cursors))
          (cond (not b) (m ∷ filter (λ c. not (c.number == number)) meant) (filter (λ c. not (c.number == number)) meant))
      kept true rest = rest
      kept false rest = (moved c m all.0, rest)

      tested : (b : Bool) → (c.number == number) ≡ b → AllZip Q (filter (λ c. not (c.number == number)) cursors) (filter (λ c. not (c.number == number)) meant) →
          AllZip Q (filter (λ c. not (c.number == number)) (c ∷ cursors)) (filter (λ c. not (c.number == number)) (m ∷ meant))
      tested b is rest = let other : (m.number == number) ≡ b = ap (λ (n : ℕ). n == number) (same c m all.0) ∙ is in rw (is, other) (kept b rest)
