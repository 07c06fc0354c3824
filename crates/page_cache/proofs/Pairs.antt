-- Pairs of a page and its node, and how the words of std's maps speak of them.
use Rattle.std.proofs.Common.{◌≡◌, ◌≢◌, ℕ, Bool, true, false, cond, not, nat_eq, List, [], ◌∷◌, filter, Some, None, All, refl, sym, ap, subst}
use Rattle.std.specs.List.{AllByRecursion, IsDistinct}
use Rattle.std.specs.Map.{keys_of, lookup, lookup_entry, remove_entry}
use Rattle.std.proofs.lemmas.Bool.{eqb-true, eq-eqb}
use Rattle.std.proofs.lemmas.List.Elements.{All-weaker, filter_passes}
use Rattle.lru.specs.LruCache.{LruCache, promoted, put_entries}

module _ {X : Type 0} where
  -- whether a pair is of another page
  abbrev pub is_other : ℕ → ℕ × X → Bool
  is_other page pair = not (nat_eq page pair.0)

  -- pairs that are all of other pages all stay
  all_stay : (page : ℕ) (es : List (ℕ × X)) → AllByRecursion (λ y. nat_eq page y ≡ false) (keys_of es) → filter (is_other page) es ≡ es
  all_stay page [] others = refl
  all_stay page (e ∷ es) others = rw others.0 (ap (λ rest. e ∷ rest) (all_stay page es others.1))

  -- where no page stands twice, the first pair of a page is the only one
  pub remove_entry-filter : (page : ℕ) (es : List (ℕ × X)) → IsDistinct nat_eq (keys_of es) → remove_entry (nat_eq page) es ≡ filter (is_other page) es
  unfolding IsDistinct
  remove_entry-filter page [] distinct = refl
  remove_entry-filter page (e ∷ es) distinct = (elim (nat_eq page e.0) as (λ b. nat_eq page e.0 ≡ b → cond b es (e ∷ remove_entry (nat_eq page) es) ≡ cond (not b) (e ∷ filter (is_other page) es) (filter (is_other page) es)) [
    | true ↦ λ same. sym (all_stay page es (subst (λ (k : ℕ). AllByRecursion (λ y. nat_eq k y ≡ false) (keys_of es)) (sym (eqb-true page e.0 same)) distinct.0))
    | false ↦ λ other. ap (λ rest. e ∷ rest) (remove_entry-filter page es distinct.1)
  ]) refl

  -- the value that a look-up finds stands in the pair that it finds
  pub lookup_entry-from_lookup : (test : ℕ → Bool) (es : List (ℕ × X)) (v : X) → lookup test es ≡ Some v → (k : ℕ) × (lookup_entry test es ≡ Some (k, v))
  lookup_entry-from_lookup test [] v found = cc
  lookup_entry-from_lookup test (e ∷ es) v found = (elim (test e.0) as (λ b. test e.0 ≡ b → (k : ℕ) × (cond b (Some e) (lookup_entry test es) ≡ Some (k, v))) [
    | true ↦ λ t. let found' = rw t at found in let same : e.1 ≡ v = cc in (e.0, ap (λ (w : X). Some (e.0, w)) same)
    | false ↦ λ t. lookup_entry-from_lookup test es v (rw t at found)
  ]) refl

  -- a pair that is used anew is put anew
  pub promoted-put : (c : LruCache ℕ X) (page : ℕ) (v : X) → lookup (nat_eq page) c.entries ≡ Some v → promoted (nat_eq page) c.entries ≡ put_entries nat_eq c page v
  promoted-put c page v found = let e = lookup_entry-from_lookup (nat_eq page) c.entries v found in rw e.1

  -- nothing is found of a page that is filtered out
  pub lookup-filter : (page : ℕ) (es : List (ℕ × X)) → lookup (nat_eq page) (filter (is_other page) es) ≡ None
  lookup-filter page [] = refl
  lookup-filter page (e ∷ es) = (elim (nat_eq page e.0) as (λ b. nat_eq page e.0 ≡ b → lookup (nat_eq page) (cond (not b) (e ∷ filter (is_other page) es) (filter (is_other page) es)) ≡ None) [
    | true ↦ λ same. lookup-filter page es
    | false ↦ λ other. rw other (lookup-filter page es)
  ]) refl

  -- a pair that stays is of another page
  passes-other : (page : ℕ) (pair : ℕ × X) → is_other page pair ≡ true → page ≢ pair.0
  passes-other page pair passes same = let tested = eq-eqb page pair.0 same in let passes' = rw tested at passes in cc

  pub filter-others : (page : ℕ) (es : List (ℕ × X)) → All (λ pair. page ≢ pair.0) (filter (is_other page) es)
  filter-others page es = All-weaker (λ pair. is_other page pair ≡ true) (λ pair. page ≢ pair.0) (passes-other page) (filter (is_other page) es) (filter_passes (is_other page) es)
