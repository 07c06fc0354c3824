-- Objects that are taken one after another.
use Rattle.std.proofs.Common.{◌≡◌, ℕ, ◌+◌, ◌<◌, ◌≤◌, List, [], ◌∷◌, ◌++◌, refl, sym, ap, ◌∙◌, subst, drop, drop-cons, add-one, get_or, length, append_assoc}
use Rattle.std.specs.Prelude.{IsTrue, map}
use Rattle.std.proofs.lemmas.List.{append-nil, drop_all}
use Rattle.metric_laws.specs.Rows.{Table}
use Rattle.metric_laws.specs.Space.{Space}
use Rattle.tree_shape.specs.declared.entry.LeafEntry.{LeafEntry}
use Rattle.job_make.specs.Ordering.{AreInSpace, AreNumbered}

abbrev points_of : List LeafEntry → List (List ℕ)
points_of es = map (λ e. e.point) es

abbrev tags_of : List LeafEntry → List ℕ
tags_of es = map (λ e. e.tag) es

-- rows with a point more
pub with_point : (old new : Table) (p : List ℕ) → new ≡ record old { points = old.points ++ p ∷ [] } → (new.dimension ≡ old.dimension) × (new.points ≡ old.points ++ p ∷ [])
with_point old new p is = (ap (λ (t : Table). t.dimension) is, ap (λ (t : Table). t.points) is)

-- The first `id` objects were taken, and `points` and `tags` are theirs. What still has to be shown of all objects has to be shown
-- of the rest.
pub record IsTaking (s : Space) (all : List LeafEntry) (id : ℕ) (points : List (List ℕ)) (tags : List ℕ) : Type 0 where
  points_are : points ++ points_of (drop id all) ≡ points_of all
  tags_are : tags ++ tags_of (drop id all) ≡ tags_of all
  numbers : AreNumbered id (drop id all) → AreNumbered 0 all
  numbers_left : AreNumbered 0 all → AreNumbered id (drop id all)
  is_point : AreInSpace s (drop id all) → AreInSpace s all
  fits_left : AreInSpace s all → AreInSpace s (drop id all)

module _ (s : Space) (all : List LeafEntry) where
  pub begins : IsTaking s all 0 [] []
  begins = record { points_are = refl; tags_are = refl; numbers = λ n. n; numbers_left = λ n. n; is_point = λ f. f; fits_left = λ f. f }

  module _ (id : ℕ) (points : List (List ℕ)) (tags : List ℕ) (before : IsTaking s all id points tags) (e : LeafEntry) (low : id < length all) (is : e ≡ get_or all id e) where
    next : drop id all ≡ e ∷ drop (id + 1) all
    next = rw (add-one, drop-cons all id e low, ← is) refl

    pub goes_on : (points' : List (List ℕ)) (tags' : List ℕ) → e.id ≡ id → IsTrue (s.is_point e.point) → points' ≡ points ++ e.point ∷ [] → tags' ≡ tags ++ e.tag ∷ [] → IsTaking s all (id + 1) points' tags'
    goes_on points' tags' same fit more_points more_tags = record {
      points_are =
          ap (λ (l : List (List ℕ)). l ++ points_of (drop (id + 1) all)) more_points ∙ append_assoc points (e.point ∷ []) (points_of (drop (id + 1) all))
          ∙ ap (λ (l : List LeafEntry). points ++ points_of l) (sym next) ∙ before.points_are;
      tags_are =
          ap (λ (l : List ℕ). l ++ tags_of (drop (id + 1) all)) more_tags ∙ append_assoc tags (e.tag ∷ []) (tags_of (drop (id + 1) all))
          ∙ ap (λ (l : List LeafEntry). tags ++ tags_of l) (sym next) ∙ before.tags_are;
      numbers = λ n. before.numbers (subst (λ (l : List LeafEntry). AreNumbered id l) (sym next) (same, n));
      numbers_left = λ n. (subst (λ (l : List LeafEntry). AreNumbered id l) next (before.numbers_left n)).1;
      is_point = λ f. before.is_point (subst (λ (l : List LeafEntry). AreInSpace s l) (sym next) (fit, f));
      fits_left = λ f. (subst (λ (l : List LeafEntry). AreInSpace s l) next (before.fits_left f)).1;
    }

    -- an object with another id or without a point of the space is not there where all are in order
    pub is_next : AreNumbered 0 all → AreInSpace s all → (e.id ≡ id) × IsTrue (s.is_point e.point)
    is_next n f = ((subst (λ (l : List LeafEntry). AreNumbered id l) next (before.numbers_left n)).0, (subst (λ (l : List LeafEntry). AreInSpace s l) next (before.fits_left f)).0)

  -- all were taken
  pub ends : (id : ℕ) (points : List (List ℕ)) (tags : List ℕ) → IsTaking s all id points tags → length all ≤ id → (points ≡ points_of all) × (tags ≡ tags_of all) × AreNumbered 0 all × AreInSpace s all
  ends id points tags done whole = (
    sym (append-nil points) ∙ ap (λ (l : List LeafEntry). points ++ points_of l) (sym none) ∙ done.points_are,
    sym (append-nil tags) ∙ ap (λ (l : List LeafEntry). tags ++ tags_of l) (sym none) ∙ done.tags_are,
    done.numbers (subst (λ (l : List LeafEntry). AreNumbered id l) (sym none) tt),
    done.is_point (subst (λ (l : List LeafEntry). AreInSpace s l) (sym none) tt),
  )
    where
      none : drop id all ≡ []
      none = drop_all id all whole
