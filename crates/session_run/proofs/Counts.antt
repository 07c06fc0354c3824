-- How often a generation is pinned where a cursor is closed.
use Rattle.std.proofs.Common.{◌≡◌, ℕ, ◌+◌, ◌==◌, Bool, true, false, List, [], ◌∷◌, inl, inr, refl, sym, ap, subst, arith, Option, Some, None}
use Rattle.std.specs.Prelude.{MatchOption, if◌then◌else◌}
use Rattle.metric_laws.specs.Lists.{IsIn}
use Rattle.tree_shape.specs.Tree.{times}
use Rattle.free_pages.specs.Keeping.{FreePages, without_pin}
use Rattle.index_core.specs.Index.{OpenIndex}
use Rattle.index_core.specs.Pinning.{IsPinned, unpinned}
use Rattle.session_run.specs.declared.pinned.PinnedCursor.{PinnedCursor}
use Rattle.session_run.specs.Pinned.{is_walked, pins_among, pins_for}
use Rattle.session_run.proofs.Pins.{IsUnpinned, same_of}

abbrev one_if : Bool → ℕ
one_if b = if b then 1 else 0

-- ---- one list of pins

taken : (x n : ℕ) (pins : List ℕ) → IsIn n pins → times x (without_pin n pins) + one_if (n == x) ≡ times x pins
taken x n [] is = absurd is
taken x n (p ∷ pins) is = tested (p == n) refl (λ more. taken x n pins more)
  where
    swap : (a b t : ℕ) → a ≡ b → t + b ≡ a + t
    swap a b t same = omega (arith, same)

    tested : (b : Bool) → (p == n) ≡ b → (IsIn n pins → times x (without_pin n pins) + one_if (n == x) ≡ times x pins) → times x (without_pin n (p ∷ pins)) + one_if (n == x) ≡ times x (p ∷ pins)
    tested true e deeper = rw e (swap (one_if (p == x)) (one_if (n == x)) (times x pins) (ap (λ (q : ℕ). one_if (q == x)) (same_of p n e)))
    tested false e deeper = rw e (elim is [
      | inl same ↦ absurd (let no : ⊥ = differ n p same e in no)
      | inr more ↦ (let ih = deeper more in omega (arith, ih))
    ])
      where
        differ : (n p : ℕ) → n ≡ p → (p == n) ≡ false → ⊥
        differ n p same e = grind arith

-- ---- one index

module _ {M : Type 0} (old new : OpenIndex M) (n : ℕ) where
  -- a pin was taken back
  pub unpinned_count : IsUnpinned old new n → IsPinned n old → (x : ℕ) → pins_among x new.free + one_if (n == x) ≡ pins_among x old.free
  unpinned_count is pins x = by_list old.free is pins
    where
      by_list : (free : Option FreePages) → MatchOption free ⊥ (λ f. new ≡ record old { free = Some (unpinned n f) }) → MatchOption free ⊥ (λ f. IsIn n f.pins) → pins_among x new.free + one_if (n == x) ≡ pins_among x free
      by_list None is pins = absurd is
      by_list (Some f) is pins = subst (λ (i : OpenIndex M). pins_among x i.free + one_if (n == x) ≡ times x f.pins) (sym is) (taken x n f.pins pins)

-- ---- the open cursors

-- a tree that is pinned already
pub walked_for : (cursors : List PinnedCursor) (n x : ℕ) → is_walked n cursors ≡ true → (if n == x then 1 else pins_for x cursors) ≡ pins_for x cursors
walked_for cursors n x walked = tested (n == x) refl
  where
    tested : (b : Bool) → (n == x) ≡ b → (if b then 1 else pins_for x cursors) ≡ pins_for x cursors
    tested true e = sym (ap one_if (subst (λ (q : ℕ). is_walked q cursors ≡ true) (same_of n x e) walked))
    tested false e = refl

-- a tree that no cursor goes through
pub unwalked_for : (cursors : List PinnedCursor) (n x : ℕ) → is_walked n cursors ≡ false → (if n == x then 1 else pins_for x cursors) ≡ one_if (n == x) + pins_for x cursors
unwalked_for cursors n x walked = tested (n == x) refl
  where
    tested : (b : Bool) → (n == x) ≡ b → (if b then 1 else pins_for x cursors) ≡ one_if b + pins_for x cursors
    tested true e = let none : pins_for x cursors ≡ 0 = ap one_if (subst (λ (q : ℕ). is_walked q cursors ≡ false) (same_of n x e) walked) in omega (arith, none)
    tested false e = omega arith

-- its pin was taken back, where no other cursor goes through its tree
abbrev pub IsReleased : {M : Type 0} → OpenIndex M → OpenIndex M → List PinnedCursor → ℕ → Type 0
IsReleased old new cursors n = (x : ℕ) → pins_among x new.free + (if n == x then 1 else pins_for x cursors) ≡ pins_among x old.free + pins_for x cursors

pub released_walked : {M : Type 0} (index : OpenIndex M) (cursors : List PinnedCursor) (n : ℕ) → is_walked n cursors ≡ true → IsReleased index index cursors n
released_walked index cursors n walked x = ap (λ (m : ℕ). pins_among x index.free + m) (walked_for cursors n x walked)

pub released_last : {M : Type 0} (old new : OpenIndex M) (cursors : List PinnedCursor) (n : ℕ) → is_walked n cursors ≡ false → IsUnpinned old new n → IsPinned n old → IsReleased old new cursors n
released_last old new cursors n walked is pins x = let count = unpinned_count old new n is pins x in let both = unwalked_for cursors n x walked in omega (arith, count, both)
