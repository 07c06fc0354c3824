-- A tree whose parts were walked apart.
use Rattle.std.proofs.Common.{◌≡◌, ℕ, zero, suc, ◌+◌, ◌-◌, ◌<◌, ◌≤◌, true, false, List, [], ◌∷◌, ◌++◌, refl, sym, ap, arith, ◌∙◌, Some, None, Ok, append_assoc, subst, length, take, drop, get_or}
use Rattle.std.specs.Prelude.{◌==◌, ◌&&◌, nat_lt}
use Rattle.std.specs.List.{AllByRecursion, flat_map}
use Rattle.std.proofs.lemmas.List.{append-nil, take_more, take-append-drop}
use Rattle.std.proofs.Math.Seq.{drop-cons}
use Rattle.metric_laws.specs.Space.{Space}
use Rattle.metric_laws.proofs.Published.{all_weaker, all_flat_map}
use Rattle.tree_shape.specs.declared.entry.InnerEntry.{InnerEntry}
use Rattle.tree_shape.specs.declared.entry.Node.TheVariants.{Inner}
use Rattle.tree_shape.specs.declared.live.Live.{Live}
use Rattle.tree_shape.specs.Fill.{least_for, root_least, IsFilled}
use Rattle.tree_shape.specs.Tree.{parent_distance, objects_at, pages_at, times}
use Rattle.tree_shape.proofs.Published.{times-append}
use Rattle.tree_audit.specs.Met.{AreNew, Numbers}
use Rattle.page_store.specs.Reading.{Read, nodes_of, node_or_none}
use Rattle.tree_audit.specs.declared.parts.Part.{Part}
use Rattle.tree_audit.specs.Audited.{Seen, step, check_entry, audited_at, after_walk, audit_fault}
use Rattle.tree_audit.specs.Parts.{met_in, part_told, pages_met, ids_met, AreWalked, AreApart}
use Rattle.tree_audit.proofs.Folds.{Once, OnceSeen, grown, Passed}
use Rattle.tree_audit.proofs.Sound.{Inside, FineAt, FineEntry, fine_entry, if_true, same_number, number_itself, true_below, ids_of, ids-flat_map, passes_at, at_passes}

-- ---- lists of parts

pages_met-append : (parts more : List Part) → pages_met (parts ++ more) ≡ pages_met parts ++ pages_met more
pages_met-append [] more = refl
pages_met-append (p ∷ parts) more = ap (λ (xs : List ℕ). p.pages.items ++ xs) (pages_met-append parts more) ∙ sym (append_assoc p.pages.items (pages_met parts) (pages_met more))

ids_met-append : (parts more : List Part) → ids_met (parts ++ more) ≡ ids_met parts ++ ids_met more
ids_met-append [] more = refl
ids_met-append (p ∷ parts) more = ap (λ (xs : List ℕ). p.ids.items ++ xs) (ids_met-append parts more) ∙ sym (append_assoc p.ids.items (ids_met parts) (ids_met more))

-- one part more
pub pages_more : (parts : List Part) (i : ℕ) (part : Part) → suc i ≤ length parts → part ≡ get_or parts i part → pages_met (take (i + 1) parts) ≡ pages_met (take i parts) ++ part.pages.items
pages_more parts i part low is =
    ap pages_met (take_more parts i part low ∙ ap (λ (p : Part). take i parts ++ p ∷ []) (sym is)) ∙ pages_met-append (take i parts) (part ∷ []) ∙ ap (λ (xs : List ℕ). pages_met (take i parts) ++ xs) (append-nil part.pages.items)

pub ids_more : (parts : List Part) (i : ℕ) (part : Part) → suc i ≤ length parts → part ≡ get_or parts i part → ids_met (take (i + 1) parts) ≡ ids_met (take i parts) ++ part.ids.items
ids_more parts i part low is =
    ap ids_met (take_more parts i part low ∙ ap (λ (p : Part). take i parts ++ p ∷ []) (sym is)) ∙ ids_met-append (take i parts) (part ∷ []) ∙ ap (λ (xs : List ℕ). ids_met (take i parts) ++ xs) (append-nil part.ids.items)

split_at : (parts : List Part) (i : ℕ) (part : Part) → i < length parts → part ≡ get_or parts i part → parts ≡ take i parts ++ part ∷ drop (suc i) parts
split_at parts i part low is = sym (take-append-drop i parts) ∙ ap (λ (rest : List Part). take i parts ++ rest) (drop-cons parts i part low ∙ ap (λ (p : Part). p ∷ drop (suc i) parts) (sym is))

-- numbers that fit, and then some of them
abbrev Fits : ℕ → List ℕ → Type 0
Fits limit xs = AllByRecursion (λ n. n < limit) xs × ((n : ℕ) → times n xs ≤ 1)

middle_new : (limit : ℕ) (xs ys zs : List ℕ) → Fits limit (xs ++ (ys ++ zs)) → AreNew (record { limit = limit; met = xs }) ys
middle_new limit xs ys zs is_point = record {
  within = (append_all (λ n. n < limit) ys zs (append_all (λ n. n < limit) xs (ys ++ zs) is_point.0).1).0;
  once = λ n. (let a = times-append n xs (ys ++ zs) in let b = times-append n ys zs in let d = times-append n xs ys in let f = is_point.1 n in omega arith);
}
  where
    append_all : (P : ℕ → Type 0) (us vs : List ℕ) → AllByRecursion P (us ++ vs) → AllByRecursion P us × AllByRecursion P vs
    append_all P [] vs all = (tt, all)
    append_all P (u ∷ us) vs all = let rest = append_all P us vs all.1 in ((all.0, rest.0), rest.1)

-- where all parts are apart, the next one has nothing in common with those before
module _ (t : Live) (parts : List Part) (i : ℕ) (part : Part) (low : i < length parts) (is : part ≡ get_or parts i part) (apart : AreApart t parts) where
  pages_split : t.root ∷ pages_met parts ≡ (t.root ∷ pages_met (take i parts)) ++ (part.pages.items ++ pages_met (drop (suc i) parts))
  pages_split = ap (λ (xs : List ℕ). t.root ∷ xs) (ap pages_met (split_at parts i part low is) ∙ pages_met-append (take i parts) (part ∷ drop (suc i) parts))

  ids_split : ids_met parts ≡ ids_met (take i parts) ++ (part.ids.items ++ ids_met (drop (suc i) parts))
  ids_split = ap ids_met (split_at parts i part low is) ∙ ids_met-append (take i parts) (part ∷ drop (suc i) parts)

  pub pages_new : AreNew (record { limit = t.pages; met = t.root ∷ pages_met (take i parts) }) part.pages.items
  pages_new = middle_new t.pages (t.root ∷ pages_met (take i parts)) part.pages.items (pages_met (drop (suc i) parts)) (subst (Fits t.pages) pages_split (apart.pages_within, apart.pages))

  pub ids_new : AreNew (record { limit = t.count; met = ids_met (take i parts) }) part.ids.items
  ids_new = middle_new t.count (ids_met (take i parts)) part.ids.items (ids_met (drop (suc i) parts)) (subst (Fits t.count) ids_split (apart.ids_within, apart.ids))

pub root_new : (t : Live) (parts : List Part) → AreApart t parts → AreNew (record { limit = t.pages; met = [] }) (t.root ∷ [])
root_new t parts apart = middle_new t.pages [] (t.root ∷ []) (pages_met parts) (apart.pages_within, apart.pages)

pub new_as : (numbers : Numbers) (limit : ℕ) (met more : List ℕ) → numbers.limit ≡ limit → numbers.met ≡ met → AreNew (record { limit = limit; met = met }) more → AreNew numbers more
new_as numbers limit met more same_limit same_met new = record {
  within = subst (λ (n : ℕ). AllByRecursion (λ m. m < n) more) (sym same_limit) new.within;
  once = λ n. subst (λ (xs : List ℕ). times n (xs ++ more) ≤ 1) (sym same_met) (new.once n);
}

-- a number that is none of the new ones
pub not_new : (numbers : Numbers) (more : List ℕ) (i number : ℕ) → i < length more → number ≡ get_or more i 0 → (nat_lt number numbers.limit && (times number (numbers.met ++ take i more) == 0)) ≡ false → AreNew numbers more → ⊥
not_new numbers more i number low is old new =
    let split : more ≡ take i more ++ number ∷ drop (suc i) more =
    sym (take-append-drop i more) ∙ ap (λ (rest : List ℕ). take i more ++ rest) (drop-cons more i 0 low ∙ ap (λ (n : ℕ). n ∷ drop (suc i) more) (sym is)) in
    let all : AllByRecursion (λ n. n < numbers.limit) (take i more ++ number ∷ drop (suc i) more) = subst (AllByRecursion (λ n. n < numbers.limit)) split new.within in
    let small : number < numbers.limit = middle (λ n. n < numbers.limit) (take i more) number (drop (suc i) more) all in
    let twice : times number (numbers.met ++ (take i more ++ number ∷ drop (suc i) more)) ≤ 1 = subst (λ (xs : List ℕ). times number (numbers.met ++ xs) ≤ 1) split (new.once number) in
    let a = times-append number numbers.met (take i more ++ number ∷ drop (suc i) more) in
    let b = times-append number (take i more) (number ∷ drop (suc i) more) in
    let d = times-append number numbers.met (take i more) in
    let one : times number (number ∷ drop (suc i) more) ≡ 1 + times number (drop (suc i) more) = rw (number_itself number) refl in
    let none : times number (numbers.met ++ take i more) ≡ 0 = omega arith in
    let yes : (nat_lt number numbers.limit && (times number (numbers.met ++ take i more) == 0)) ≡ true = rw (true_below number numbers.limit small, none) refl in
    absurd (cc)
  where
    middle : (P : ℕ → Type 0) (us : List ℕ) (x : ℕ) (vs : List ℕ) → AllByRecursion P (us ++ x ∷ vs) → P x
    middle P [] x vs all = all.0
    middle P (u ∷ us) x vs all = middle P us x vs all.1

-- ---- the whole

abbrev nothing : Seen
nothing = record { pages = []; ids = [] }

nothing_once : OnceSeen nothing
nothing_once = ((λ k. omega arith), (λ k. omega arith))

module _ (s : Space) (read : Read) (t : Live) where
  -- an entry that was walked by itself
  entry_passes : (h i : ℕ) (e : InnerEntry) (after : Seen) → t.height - 1 ≡ h → part_told s read t i e ≡ Ok after →
      Passed (FineEntry s read t.count h [] e) nothing (pages_at (nodes_of read) h e.child) (ids_of (objects_at (nodes_of read) h e.child)) after
  entry_passes h i e after low is =
      let told : check_entry s None t.root i e (audited_at s read t.count h (least_for s.dimension) (step t.root i e ∷ []) e.child nothing) ≡ Ok after =
      subst (λ (n : ℕ). check_entry s None t.root i e (audited_at s read t.count n (least_for s.dimension) (step t.root i e ∷ []) e.child nothing) ≡ Ok after) low is in
      let a = if_true (s.is_point e.point) _ _ after told in
      let b = if_true (e.parent == parent_distance s None e.point) _ _ after a.1 in
      let d = passes_at s read t.count h (least_for s.dimension) (step t.root i e ∷ []) e.child nothing after nothing_once b.1 in
      (fine_entry s read t.count h [] t.root i e a.0 (same_number e.parent (parent_distance s None e.point) b.0) d.0, d.1, d.2)

  -- all of them
  walked : (h i : ℕ) (es : List InnerEntry) (parts : List Part) → t.height - 1 ≡ h → AreWalked s read t i es parts →
      AllByRecursion (FineEntry s read t.count h []) es × (pages_met parts ≡ flat_map (λ e. pages_at (nodes_of read) h e.child) es)
      × (ids_met parts ≡ flat_map (λ e. ids_of (objects_at (nodes_of read) h e.child)) es)
  walked h i [] [] low are = (tt, refl, refl)
  walked h i [] (part ∷ parts) low are = absurd are
  walked h i (e ∷ es) [] low are = absurd are
  walked h i (e ∷ es) (part ∷ parts) low are =
      let first = entry_passes h i e (met_in part) low are.0 in
      let rest = walked h (i + 1) es parts low are.1 in
      let pages : part.pages.items ≡ pages_at (nodes_of read) h e.child = ap (λ (v : Seen). v.pages) first.1 in
      let ids : part.ids.items ≡ ids_of (objects_at (nodes_of read) h e.child) = ap (λ (v : Seen). v.ids) first.1 in (
        (first.0, rest.0),
        (λ k. pages k ++ rest.1 k),
        (λ k. ids k ++ rest.2 k),
      )

  module _ (h : ℕ) (es : List InnerEntry) (parts : List Part) (high : t.height ≡ suc h) (there : read t.root ≡ Ok (Inner (suc h) es)) (full : IsFilled s.dimension (root_least (suc h)) (length es))
      (are : AreWalked s read t 0 es parts) (apart : AreApart t parts) where
    each : AllByRecursion (FineEntry s read t.count h []) es × (pages_met parts ≡ flat_map (λ e. pages_at (nodes_of read) h e.child) es)
        × (ids_met parts ≡ flat_map (λ e. ids_of (objects_at (nodes_of read) h e.child)) es)
    each = walked h 0 es parts (omega (arith, high)) are

    node : nodes_of read t.root ≡ Some (Inner (suc h) es)
    node = ap node_or_none there

    fine : FineAt s read t.count (suc h) (root_least (suc h)) [] t.root
    fine = (
      (es, node, full, all_weaker (FineEntry s read t.count h []) _ es (λ e k. k.0) each.0),
      rw node (all_flat_map (λ o. Inside s [] o.point × (o.id < t.count)) (λ e. objects_at (nodes_of read) h e.child) es (all_weaker (FineEntry s read t.count h []) _ es (λ e k. k.1) each.0)),
    )

    pages : pages_at (nodes_of read) (suc h) t.root ≡ t.root ∷ pages_met parts
    pages = rw node (ap (λ (xs : List ℕ). t.root ∷ xs) (sym each.1))

    ids : ids_of (objects_at (nodes_of read) (suc h) t.root) ≡ ids_met parts
    ids = rw node (ids-flat_map (λ e. objects_at (nodes_of read) h e.child) es ∙ sym each.2)

    walk : audited_at s read t.count (suc h) (root_least (suc h)) [] t.root nothing ≡ Ok (grown nothing (pages_at (nodes_of read) (suc h) t.root) (ids_of (objects_at (nodes_of read) (suc h) t.root)))
    walk = at_passes s read t.count (suc h) (root_least (suc h)) [] t.root nothing fine (subst Once (sym pages) apart.pages, subst Once (sym ids) apart.ids)

    fault : after_walk t.count (audited_at s read t.count (suc h) (root_least (suc h)) [] t.root nothing) ≡ None
    fault =
        let long : (length (ids_of (objects_at (nodes_of read) (suc h) t.root)) == t.count) ≡ true = rw (ids, apart.count) (number_itself t.count) in
        rw (walk, long) refl

    pub whole_at : (audit_fault s read t ≡ None) × (pages_at (nodes_of read) t.height t.root ≡ t.root ∷ pages_met parts)
    whole_at = (
      subst (λ (n : ℕ). after_walk t.count (audited_at s read t.count n (root_least n) [] t.root nothing) ≡ None) (sym high) fault,
      subst (λ (n : ℕ). pages_at (nodes_of read) n t.root ≡ t.root ∷ pages_met parts) (sym high) pages,
    )

pub whole : (s : Space) (read : Read) (t : Live) (es : List InnerEntry) (parts : List Part) (n : ℕ) → t.height ≡ n → 1 ≤ n → read t.root ≡ Ok (Inner t.height es) →
    IsFilled s.dimension (root_least t.height) (length es) → AreWalked s read t 0 es parts → AreApart t parts →
    (audit_fault s read t ≡ None) × (pages_at (nodes_of read) t.height t.root ≡ t.root ∷ pages_met parts)
whole s read t es parts zero is some there full are apart = absurd (omega arith)
whole s read t es parts (suc h) is some there full are apart =
    whole_at s read t h es parts is (there ∙ ap (λ (n : ℕ). Ok (Inner n es)) is) (subst (λ (n : ℕ). IsFilled s.dimension (root_least n) (length es)) is full) are apart
