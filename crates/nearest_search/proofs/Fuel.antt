-- How many pages the final walk opens, and that there is a final radius.
use Rattle.std.proofs.Common.{◌≡◌, ℕ, zero, suc, ◌+◌, ◌<◌, ◌≤◌, Bool, true, false, cond, List, [], ◌∷◌, ◌++◌, refl, ap, ◌∙◌, arith, length, subst, Option, Some, inl, inr, ◌⊎◌}
use Rattle.std.specs.Prelude.{IsTrue, map, filter, nat_le, nat_lt, if◌then◌else◌}
use Rattle.std.specs.List.{AllByRecursion, flat_map}
use Rattle.std.proofs.lemmas.Bool.Decides.{nat_tests}
use Rattle.std.proofs.Common.{length-append}
use Rattle.metric_laws.specs.Space.{IsSpace, bound}
use Rattle.metric_laws.proofs.Published.{all_append}
use Rattle.scan_model.specs.declared.hit.Hit.{Hit}
use Rattle.tree_shape.specs.declared.entry.Node.{Node}
use Rattle.tree_shape.specs.declared.entry.Node.TheVariants.{Leaf, Inner}
use Rattle.tree_shape.specs.declared.entry.InnerEntry.{InnerEntry}
use Rattle.tree_shape.specs.Tree.{Nodes, IsSoundAt, pages_at, inner_entries}
use Rattle.log_model.specs.declared.marks.Record.{Record}
use Rattle.log_model.specs.declared.marks.Need.{Need}
use Rattle.log_model.specs.Counts.{entry_count}
use Rattle.log_model.specs.Walk.{Search, WalksBy, AreLeast, least_for_subtree, least_marks, needs_of, near_ones}
use Rattle.log_model.proofs.Published.{FitsAbove, point_above, Spot, need_at, spot_of, IsSoundSpot, needs_from_spots, near_of_sound, same_node, marks_long}
use Rattle.nearest_search.specs.Counts.{total}
use Rattle.nearest_search.specs.Machine.{reaches, opens, one_page, entries_in, entries_of, IsFinal}
use Rattle.nearest_search.proofs.Totals.{total-append}
use Rattle.nearest_search.proofs.Near.{near_reaches}

-- no more pages than there are
pub opens_few : (f : Search) (nodes : Nodes) (h page : ℕ) → opens one_page f nodes h page ≤ length (pages_at nodes h page)
opens_few f nodes zero page = omega arith
opens_few f nodes (suc h) page = (let e = each (λ p. opens_few f nodes h p) (inner_entries (nodes page)) in omega arith)
  where
    each : ((p : ℕ) → opens one_page f nodes h p ≤ length (pages_at nodes h p)) → (es : List InnerEntry) → total (λ e. if reaches f e then opens one_page f nodes h e.child else 0) es ≤ length (flat_map (λ e. pages_at nodes h e.child) es)
    each deep [] = omega arith
    each deep (e ∷ es) = cases (reaches f e) (each deep es)
      where
        cases : (b : Bool) → total (λ e. if reaches f e then opens one_page f nodes h e.child else 0) es ≤ length (flat_map (λ e. pages_at nodes h e.child) es) →
            (if b then opens one_page f nodes h e.child else 0) + total (λ e. if reaches f e then opens one_page f nodes h e.child else 0) es
            ≤ length (pages_at nodes h e.child ++ flat_map (λ e. pages_at nodes h e.child) es)
        cases true ih = let l = length-append (pages_at nodes h e.child) (flat_map (λ e. pages_at nodes h e.child) es) in let o = deep e.child in omega arith
        cases false ih = let l = length-append (pages_at nodes h e.child) (flat_map (λ e. pages_at nodes h e.child) es) in omega arith

-- some radius is the final one
pub final_below : (k : ℕ) (count : ℕ → ℕ) (n : ℕ) → ((r : ℕ) × (r < n) × (k ≤ count r) × ((t : ℕ) → t < r → count t < k)) ⊎ ((t : ℕ) → t < n → count t < k)
final_below k count zero = inr (λ t low. absurd (omega arith))
final_below k count (suc n) = elim (final_below k count n) [
  | inl w ↦ inl (w.0, (omega (arith, w.1)), w.2, w.3)
  | inr none ↦ cases none (nat_le k (count n)) refl
]
  where
    next : ((t : ℕ) → t < n → count t < k) → count n < k → (t : ℕ) → t < suc n → count t < k
    next none here t low = split (nat_lt t n) refl
      where
        split : (b : Bool) → nat_lt t n ≡ b → count t < k
        split true e = none t (let l : t < n = grind (arith, nat_tests) in l)
        split false e = let same : t ≡ n = grind (arith, nat_tests) in rw same here

    cases : ((t : ℕ) → t < n → count t < k) → (b : Bool) → nat_le k (count n) ≡ b → ((r : ℕ) × (r < suc n) × (k ≤ count r) × ((t : ℕ) → t < r → count t < k)) ⊎ ((t : ℕ) → t < suc n → count t < k)
    cases none true e = inl (n, (omega arith), (let l : k ≤ count n = grind (arith, nat_tests) in l), none)
    cases none false e = inr (next none (let l : count n < k = grind (arith, nat_tests) in l))

pub has_final : (k : ℕ) (count : ℕ → ℕ) → (rho : ℕ) × IsFinal k count rho
has_final k count = elim (final_below k count bound) [
  | inl w ↦ (w.0, (record { bounded = (let l = w.1 in omega arith); fewer = w.3; enough = λ less. w.2 }))
  | inr none ↦ (bound, (record { bounded = (omega arith); fewer = none; enough = λ less. absurd (omega arith) }))
]

module _ (w : ℕ → ℕ) (f : Search) (axioms : IsSpace f.space) (q_fits : IsTrue (f.space.is_point f.point)) (nodes : Nodes) where
  abbrev pub opens_all : List Spot → ℕ
  opens_all ps = total (λ p. opens w f nodes p.height p.page) ps

  pub opens_near : (h : ℕ) (es : List InnerEntry) → total (λ e. if reaches f e then opens w f nodes h e.child else 0) es ≡ opens_all (map (spot_of f.space h) (filter (reaches f) es))
  opens_near h [] = refl
  opens_near h (e ∷ es) = cases (reaches f e) (opens_near h es)
    where
      cases : (b : Bool) → total (λ e. if reaches f e then opens w f nodes h e.child else 0) es ≡ opens_all (map (spot_of f.space h) (filter (reaches f) es)) →
          (if b then opens w f nodes h e.child else 0) + total (λ e. if reaches f e then opens w f nodes h e.child else 0) es
          ≡ opens_all (map (spot_of f.space h) (cond b (e ∷ filter (reaches f) es) (filter (reaches f) es)))
      cases true ih = ap (λ n. opens w f nodes h e.child + n) ih
      cases false ih = omega arith

  -- the records of the walk with the least marks weigh as much as the pages that it opens
  abbrev pub RecordsOf : List Record → Type 0
  RecordsOf rs = (ps : List Spot) → AllByRecursion (IsSoundSpot f.space nodes) ps → (hits : List Hit) → WalksBy AreLeast f nodes (map (need_at f) ps) rs hits → total (λ r. w r.page) rs ≡ opens_all ps

  at_spot : (rs : List Record) → RecordsOf rs → (height least : ℕ) (above : Option (List ℕ)) (page : ℕ) (ps : List Spot) (node : Node) (marks : List _) (hits : List Hit) →
      IsSoundAt f.space nodes height least above page → FitsAbove f.space above → AllByRecursion (IsSoundSpot f.space nodes) ps → nodes page ≡ Some node → marks ≡ least_marks f (point_above f above) node →
      WalksBy AreLeast f nodes (needs_of f node marks ++ map (need_at f) ps) rs hits → w page + total (λ r. w r.page) rs ≡ opens w f nodes height page + opens_all ps
  at_spot rs ih zero least above page ps node marks hits sound fit sounds is marked walk =
      let leaf : node ≡ Leaf sound.0 = same_node (nodes page) node (Leaf sound.0) is sound.1 in
      let deep = ih ps sounds hits (subst (λ (m : Node). WalksBy AreLeast f nodes (needs_of f m marks ++ map (need_at f) ps) rs hits) leaf walk) in
      omega arith
  at_spot rs ih (suc height) least above page ps node marks hits sound fit sounds is marked walk =
      let es : List InnerEntry = sound.0 in
      let inner : node ≡ Inner (suc height) es = same_node (nodes page) node (Inner (suc height) es) is sound.1 in
      let kids : List Spot = map (spot_of f.space height) (near_ones es (map (least_for_subtree f (point_above f above)) es)) in
      let least_ones : marks ≡ map (least_for_subtree f (point_above f above)) es = marked ∙ ap (λ (m : Node). least_marks f (point_above f above) m) inner in
      let needed : needs_of f node marks ++ map (need_at f) ps ≡ map (need_at f) (kids ++ ps) =
      (λ i. needs_of f (inner i) (least_ones i) ++ map (need_at f) ps)
      ∙ needs_from_spots f f.space height (near_ones es (map (least_for_subtree f (point_above f above)) es)) ps in
      let deep = ih (kids ++ ps)
      (all_append (IsSoundSpot f.space nodes) kids ps (near_of_sound f.space nodes height above es (map (least_for_subtree f (point_above f above)) es) fit sound.3) sounds) hits
      (subst (λ (ns : List Need). WalksBy AreLeast f nodes ns rs hits) needed walk) in
      let a = total-append (λ p. opens w f nodes p.height p.page) kids ps in
      let near : opens_all kids ≡ opens_all (map (spot_of f.space height) (filter (reaches f) es)) =
      ap (λ (xs : List InnerEntry). opens_all (map (spot_of f.space height) xs)) (near_reaches f axioms q_fits nodes height above fit es sound.3) in
      let b = opens_near height es in
      let here : opens w f nodes (suc height) page ≡ w page + total (λ e. if reaches f e then opens w f nodes height e.child else 0) es = rw sound.1 refl in
      omega arith

  pub records_of : (rs : List Record) → RecordsOf rs
  records_of [] [] sounds hits walk = refl
  records_of [] (p ∷ ps) sounds hits walk = absurd walk
  records_of (r ∷ rs) [] sounds hits walk = absurd walk
  records_of (r ∷ rs) (p ∷ ps) sounds hits walk =
      let same : w r.page ≡ w p.page = ap w walk.2 in
      let deep = at_spot rs (records_of rs) p.height p.least p.above p.page ps walk.0 r.marks walk.4.0 sounds.0.0 sounds.0.1 sounds.1 walk.1 walk.3 walk.4.1 in
      omega (arith, same, deep)

-- a walk marks as many entries as the nodes that it opens have
pub marks_entries : (f : Search) (nodes : Nodes) (ns : List Need) (rs : List Record) (hits : List Hit) → WalksBy AreLeast f nodes ns rs hits → total (λ r. entries_of nodes r.page) rs ≡ total (λ r. length r.marks) rs
marks_entries f nodes [] [] hits walk = refl
marks_entries f nodes [] (r ∷ rs) hits walk = absurd walk
marks_entries f nodes (n ∷ ns) [] hits walk = absurd walk
marks_entries f nodes (n ∷ ns) (r ∷ rs) hits walk =
    let here : entries_of nodes r.page ≡ entry_count walk.0 = ap (entries_of nodes) walk.2 ∙ ap entries_in walk.1 in
    let long : length r.marks ≡ entry_count walk.0 = ap length walk.3 ∙ marks_long f n.above walk.0 in
    let rest = marks_entries f nodes (needs_of f walk.0 r.marks ++ ns) rs walk.4.0 walk.4.1 in
    omega (arith, here, long, rest)

pub total_ones : (pages : List ℕ) → total one_page pages ≡ length pages
total_ones [] = refl
total_ones (p ∷ pages) = let ih = total_ones pages in omega arith

pub total_records : (rs : List Record) → total (λ r. one_page r.page) rs ≡ length rs
total_records [] = refl
total_records (r ∷ rs) = let ih = total_records rs in omega arith
