-- The places of objects, noted one after another.
use Rattle.std.proofs.Common.{◌≡◌, ◌≢◌, ◌⊎◌, inl, inr, ℕ, ◌+◌, ◌*◌, ◌/◌, ◌%◌, ◌<◌, ◌≤◌, nat_lt, if◌then◌else◌, Bool, true, false, List, [], ◌∷◌, ◌++◌, Some, map, length, get_or, set, refl, sym, ap, ◌∙◌, subst, arith, append_assoc, take, drop, take-append-drop, get_or-set_same, get_or-set_other}
use Rattle.std.specs.Prelude.{slice_get, slice_index}
use Rattle.std.proofs.lemmas.Bool.{cases_eq, lt-ltb, le-ltb, eq-eqb, ne_eqb}
use Rattle.std.proofs.lemmas.List.{drop_more, map-append, take_more}
use Rattle.std.proofs.lemmas.Option.{slice_get_read}
use Rattle.metric_laws.proofs.Published.{in-append_left, in-append_right}
use Rattle.tree_shape.specs.declared.entry.LeafEntry.{LeafEntry}
use Rattle.tree_shape.specs.Tree.{Nodes, leaf_entries, times}
use Rattle.tree_shape.proofs.Published.{times-append}
use Rattle.job_dump.specs.Places.{entry_at, StandsAt, Notes}
use Rattle.job_dump.specs.Rows.{due, times_among}

abbrev ids_of : List LeafEntry → List ℕ
ids_of es = map (λ e. e.id) es

-- how often an id stands among more objects
pub among-append : (xs ys : List LeafEntry) (id : ℕ) → times_among (xs ++ ys) id ≡ times_among xs id + times_among ys id
among-append xs ys id = ap (times id) (map-append (λ (e : LeafEntry). e.id) xs ys) ∙ times-append id (ids_of xs) (ids_of ys)

among_one : (e : LeafEntry) (id : ℕ) → e.id ≡ id → times_among (e ∷ []) id ≡ 1
among_one e id is = let same = eq-eqb e.id id is in rw same (omega arith)

among_other : (e : LeafEntry) (id : ℕ) → e.id ≢ id → times_among (e ∷ []) id ≡ 0
among_other e id other = let no = ne_eqb e.id id other in rw no (omega arith)

-- an id is due once at the most
pub due_once : (count id : ℕ) → due count id ≤ 1
due_once count id = elim (nat_lt id count) as (λ b. (if b then 1 else 0) ≤ 1) [ true ↦ omega arith | false ↦ omega arith ]

pub due_below : (count id : ℕ) → id < count → due count id ≡ 1
due_below count id low = ap (λ (b : Bool). if b then 1 else 0) (lt-ltb id count low)

pub due_above : (count id : ℕ) → count ≤ id → due count id ≡ 0
due_above count id high = ap (λ (b : Bool). if b then 1 else 0) (le-ltb id count high)

-- no object was met
pub none_noted : (nodes : Nodes) (numbers : List ℕ) → ((id : ℕ) → slice_index numbers id ≡ 0) → Notes nodes numbers []
none_noted nodes numbers none = record { unmet = λ id is. refl; noted = λ id other. absurd (other (none id)) }

module _ (nodes : Nodes) (numbers : List ℕ) (met : List LeafEntry) (before : Notes nodes numbers met) (e : LeafEntry) where
  stands_still : (more : List LeafEntry) (id place : ℕ) → StandsAt nodes met id place → StandsAt nodes (met ++ more) id place
  stands_still more id place at = record { entry = at.entry; among = in-append_left met more at.entry at.among; id_is = at.id_is; stands = at.stands }

  -- one more object is noted
  pub one_noted : (place : ℕ) → e.id < length numbers → slice_index numbers e.id ≡ 0 → place ≢ 0 → entry_at nodes place ≡ Some e → Notes nodes (set numbers e.id place) (met ++ e ∷ [])
  one_noted place low new some stands = record {
    unmet = λ id is. elim (cases_eq id e.id) [
      | inl same ↦ absurd (some (sym (placed id same) ∙ is))
      | inr other ↦ among-append met (e ∷ []) id
          ∙ (let a = before.unmet id (sym (get_or-set_other numbers e.id id place 0 other) ∙ is) in let b = among_other e id (λ k. other (sym k)) in omega arith)
    ];
    noted = λ id there. elim (cases_eq id e.id) [
      | inl same ↦ (
        among-append met (e ∷ []) id ∙ (let a = before.unmet id (ap (slice_index numbers) same ∙ new) in let b = among_one e id (sym same) in omega arith),
        record {
          entry = e;
          among = in-append_right met (e ∷ []) e (inl refl);
          id_is = sym same;
          stands = ap (entry_at nodes) (placed id same) ∙ stands;
        },
      )
      | inr other ↦
          (let kept = get_or-set_other numbers e.id id place 0 other in
          let was = before.noted id (λ k. there (kept ∙ k)) in (
            among-append met (e ∷ []) id ∙ (let a = was.0 in let b = among_other e id (λ k. other (sym k)) in omega arith),
            subst (StandsAt nodes (met ++ e ∷ []) id) (sym kept) (stands_still (e ∷ []) id (slice_index numbers id) was.1),
          ))
    ];
  }
    where
      placed : (id : ℕ) → id ≡ e.id → slice_index (set numbers e.id place) id ≡ place
      placed id same = ap (slice_index (set numbers e.id place)) same ∙ get_or-set_same numbers e.id place 0 low

  -- an object that is one too many
  pub one_wrong : (more : List LeafEntry) → (length numbers ≤ e.id) ⊎ (slice_index numbers e.id ≢ 0) → due (length numbers) e.id < times_among (met ++ e ∷ more) e.id
  one_wrong more (inl high) =
      let here = eq-eqb e.id e.id refl in
      let none = due_above (length numbers) e.id high in
      let all = among-append met (e ∷ more) e.id in
      let first : times_among (e ∷ more) e.id ≡ 1 + times_among more e.id = rw here refl in
      omega arith
  one_wrong more (inr other) =
      let here = eq-eqb e.id e.id refl in
      let once = due_once (length numbers) e.id in
      let was = (before.noted e.id other).0 in
      let all = among-append met (e ∷ more) e.id in
      let first : times_among (e ∷ more) e.id ≡ 1 + times_among more e.id = rw here refl in
      omega arith

-- an id without a place is missing
pub one_missing : (nodes : Nodes) (numbers : List ℕ) (met : List LeafEntry) (id : ℕ) → Notes nodes numbers met → id < length numbers → slice_index numbers id ≡ 0 →
    times_among met id < due (length numbers) id
one_missing nodes numbers met id notes low is = let none = notes.unmet id is in let once = due_below (length numbers) id low in omega arith

-- ---- the entries of a leaf, one after another

entry_more : (met es : List LeafEntry) (k : ℕ) (e : LeafEntry) → k < length es → e ≡ get_or es k e → met ++ take (k + 1) es ≡ (met ++ take k es) ++ e ∷ []
entry_more met es k e low is =
    ap (λ (l : List LeafEntry). met ++ l) (take_more es k e low ∙ ap (λ (x : LeafEntry). take k es ++ x ∷ []) (sym is)) ∙ sym (append_assoc met (take k es) (e ∷ []))

entry_parts : (met es : List LeafEntry) (k : ℕ) (e : LeafEntry) → k < length es → e ≡ get_or es k e → met ++ es ≡ (met ++ take k es) ++ e ∷ drop (k + 1) es
entry_parts met es k e low is =
    ap (λ (l : List LeafEntry). met ++ l) (sym (take-append-drop k es) ∙ ap (λ (l : List LeafEntry). take k es ++ l) (drop_more es k e low ∙ ap (λ (x : LeafEntry). x ∷ drop (k + 1) es) (sym is)))
    ∙ sym (append_assoc met (take k es) (e ∷ drop (k + 1) es))

entry_stands : (nodes : Nodes) (page k : ℕ) (es : List LeafEntry) (e : LeafEntry) → leaf_entries (nodes page) ≡ es → length es ≤ 32 → k < length es → e ≡ get_or es k e → entry_at nodes (page * 32 + k) ≡ Some e
entry_stands nodes page k es e leaf few low is =
    let there : (page * 32 + k) / 32 ≡ page = omega arith in
    let number : (page * 32 + k) % 32 ≡ k = omega arith in
    ap (λ (p : ℕ). slice_get (leaf_entries (nodes p)) ((page * 32 + k) % 32)) there ∙ ap (λ (l : List LeafEntry). slice_get l ((page * 32 + k) % 32)) leaf
    ∙ ap (slice_get es) number ∙ slice_get_read es (length es) k e refl low is

module _ (nodes : Nodes) (numbers : List ℕ) (met es : List LeafEntry) (k : ℕ) (e : LeafEntry) (before : Notes nodes numbers (met ++ take k es)) (low : k < length es) (is : e ≡ get_or es k e) where
  pub entry_noted : (page : ℕ) → leaf_entries (nodes page) ≡ es → 1 ≤ page → length es ≤ 32 → e.id < length numbers → slice_index numbers e.id ≡ 0 →
      Notes nodes (set numbers e.id (page * 32 + k)) (met ++ take (k + 1) es)
  entry_noted page leaf some few within new =
      subst (Notes nodes (set numbers e.id (page * 32 + k))) (sym (entry_more met es k e low is))
      (one_noted nodes numbers (met ++ take k es) before e (page * 32 + k) within new (λ z. omega arith) (entry_stands nodes page k es e leaf few low is))

  pub entry_wrong : (length numbers ≤ e.id) ⊎ (slice_index numbers e.id ≢ 0) → due (length numbers) e.id < times_among (met ++ es) e.id
  entry_wrong wrong =
      subst (λ (os : List LeafEntry). due (length numbers) e.id < times_among os e.id) (sym (entry_parts met es k e low is)) (one_wrong nodes numbers (met ++ take k es) before e (drop (k + 1) es) wrong)
