-- Checks of entries in turn.
use Rattle.std.proofs.Common.{◌≡◌, ℕ, ◌+◌, ◌≤◌, List, [], ◌∷◌, ◌++◌, refl, sym, ap, arith, ◌∙◌, Result, Ok, Err, append_assoc, subst}
use Rattle.std.specs.List.{AllByRecursion, flat_map}
use Rattle.std.proofs.lemmas.List.{append-nil}
use Rattle.tree_shape.specs.Tree.{times}
use Rattle.tree_shape.proofs.Published.{times-append}
use Rattle.tree_audit.specs.declared.faults.AuditFault.{AuditFault}
use Rattle.tree_audit.specs.Audited.{Seen, and_then, each_entry}

-- no number stands twice
abbrev pub Once : List ℕ → Type 0
Once xs = (k : ℕ) → times k xs ≤ 1

abbrev pub OnceSeen : Seen → Type 0
OnceSeen seen = Once seen.pages × Once seen.ids

-- with more pages and ids
abbrev pub grown : Seen → List ℕ → List ℕ → Seen
grown seen ps is = record { pages = seen.pages ++ ps; ids = seen.ids ++ is }

pub grown-nil : (seen : Seen) → grown seen [] [] ≡ seen
grown-nil seen = λ i. record { pages = append-nil seen.pages i; ids = append-nil seen.ids i }

pub grown-append : (seen : Seen) (ps qs is js : List ℕ) → grown (grown seen ps is) qs js ≡ grown seen (ps ++ qs) (is ++ js)
grown-append seen ps qs is js = λ i. record { pages = append_assoc seen.pages ps qs i; ids = append_assoc seen.ids is js i }

pub once_front : (xs ys : List ℕ) → Once (xs ++ ys) → Once xs
once_front xs ys once k = let a = times-append k xs ys in let h = once k in omega arith

pub once_seen_front : (seen : Seen) (ps qs is js : List ℕ) → OnceSeen (grown seen (ps ++ qs) (is ++ js)) → OnceSeen (grown seen ps is)
once_seen_front seen ps qs is js once = (
  once_front (seen.pages ++ ps) qs (subst Once (sym (append_assoc seen.pages ps qs)) once.0),
  once_front (seen.ids ++ is) js (subst Once (sym (append_assoc seen.ids is js)) once.1),
)

-- a check that passes: what it says of the entry, and what it adds
abbrev pub Passed : Type 0 → Seen → List ℕ → List ℕ → Seen → Type 0
Passed P seen ps is after = P × (after ≡ grown seen ps is) × OnceSeen after

module _ {X : Type 0} (check : ℕ → X → Seen → Result Seen AuditFault) (P : X → Type 0) (gp gi : X → List ℕ) where
  pub each_passes : ((i : ℕ) (x : X) (seen after : Seen) → OnceSeen seen → check i x seen ≡ Ok after → Passed (P x) seen (gp x) (gi x) after) →
      (i : ℕ) (xs : List X) (seen after : Seen) → OnceSeen seen → each_entry check i xs seen ≡ Ok after →
      Passed (AllByRecursion P xs) seen (flat_map gp xs) (flat_map gi xs) after
  each_passes one i [] seen after once is =
      let e : after ≡ seen = (cc) in (tt, e ∙ sym (grown-nil seen), subst OnceSeen (sym e) once)
  each_passes one i (x ∷ xs) seen after once is = cases (check i x seen) refl (λ mid. each_passes one (i + 1) xs mid after) is
    where
      cases : (o : Result Seen AuditFault) → check i x seen ≡ o →
          ((mid : Seen) → OnceSeen mid → each_entry check (i + 1) xs mid ≡ Ok after → Passed (AllByRecursion P xs) mid (flat_map gp xs) (flat_map gi xs) after) →
          and_then o (λ mid. each_entry check (i + 1) xs mid) ≡ Ok after → Passed (P x × AllByRecursion P xs) seen (gp x ++ flat_map gp xs) (gi x ++ flat_map gi xs) after
      cases (Err fault) e ih is = absurd (cc)
      cases (Ok mid) e ih is =
          let first = one i x seen mid once e in
          let rest = ih mid first.2 is in
          ((first.0, rest.0), rest.1 ∙ ap (λ (t : Seen). grown t (flat_map gp xs) (flat_map gi xs)) first.1 ∙ grown-append seen (gp x) (flat_map gp xs) (gi x) (flat_map gi xs), rest.2)

  pub passes_each : ((i : ℕ) (x : X) (seen : Seen) → P x → OnceSeen (grown seen (gp x) (gi x)) → check i x seen ≡ Ok (grown seen (gp x) (gi x))) →
      (i : ℕ) (xs : List X) (seen : Seen) → AllByRecursion P xs → OnceSeen (grown seen (flat_map gp xs) (flat_map gi xs)) →
      each_entry check i xs seen ≡ Ok (grown seen (flat_map gp xs) (flat_map gi xs))
  passes_each one i [] seen all once = ap Ok (sym (grown-nil seen))
  passes_each one i (x ∷ xs) seen all once =
      let first = one i x seen all.0 (once_seen_front seen (gp x) (flat_map gp xs) (gi x) (flat_map gi xs) once) in
      let joined = grown-append seen (gp x) (flat_map gp xs) (gi x) (flat_map gi xs) in
      let rest = passes_each one (i + 1) xs (grown seen (gp x) (gi x)) all.1 (subst OnceSeen (sym joined) once) in
      rw first (rest ∙ ap Ok joined)
