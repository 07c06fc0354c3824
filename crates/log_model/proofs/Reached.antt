-- Walks that stopped before their end.
use Rattle.std.proofs.Common.{◌≡◌, ℕ, zero, suc, ◌+◌, ◌<◌, ◌≤◌, ◌^◌, List, [], ◌∷◌, ◌++◌, refl, sym, ap, subst, ◌∙◌, Option, Some, None, arith, length, append_assoc, length-append}
use Rattle.std.specs.Prelude.{map}
use Rattle.std.specs.List.{AllByRecursion, flat_map}
use Rattle.std.proofs.lemmas.List.{append-nil}
use Rattle.metric_laws.specs.Space.{Space}
use Rattle.metric_laws.specs.Counts.{next_count, count_up}
use Rattle.metric_laws.proofs.Published.{all_append, all_weaker, flat_map-append}
use Rattle.scan_model.specs.declared.hit.Hit.{Hit}
use Rattle.tree_shape.specs.declared.live.Live.{Live}
use Rattle.tree_shape.specs.declared.entry.InnerEntry.{InnerEntry}
use Rattle.tree_shape.specs.declared.entry.Node.{Node}
use Rattle.tree_shape.specs.declared.entry.Node.TheVariants.{Leaf, Inner}
use Rattle.tree_shape.specs.Fill.{root_least}
use Rattle.tree_shape.specs.Tree.{Nodes, IsSoundAt, IsSoundTree, IsNodePage, pages_at, inner_entries}
use Rattle.tree_shape.proofs.Published.{few}
use Rattle.log_model.specs.declared.marks.Mark.{Mark}
use Rattle.log_model.specs.declared.marks.Mark.TheVariants.{Skip, Far, Near}
use Rattle.log_model.specs.declared.marks.Record.{Record}
use Rattle.log_model.specs.declared.marks.Need.{Need}
use Rattle.log_model.specs.Counts.{measured_by, measured}
use Rattle.log_model.specs.Walk.{Search, Rule, WalksBy, ReachesBy, near_ones, needs_of, hits_of, root_need}
use Rattle.log_model.proofs.Pruned.{FitsAbove}
use Rattle.log_model.proofs.Walk.{Spot, need_at, spot_of, IsSoundSpot, needs_from_spots, near_of_sound, same_node}

-- one more page is opened
pub reaches_more : (rule : Rule) (f : Search) (nodes : Nodes) (ns : List Need) (rs : List Record) (hits : List Hit) (n : Need) (left : List Need) (node : Node) (marks : List Mark) →
    nodes n.page ≡ Some node → rule f n.above node marks → ReachesBy rule f nodes ns rs hits (n ∷ left) →
    ReachesBy rule f nodes ns (rs ++ record { page = n.page; marks = marks } ∷ []) (hits ++ hits_of f node marks) (needs_of f node marks ++ left)
reaches_more rule f nodes [] [] hits n left node marks is keeps walk = absurd (let e : ◌≡◌ {A = List Need} (n ∷ left) [] = walk.1 in cc)
reaches_more rule f nodes (m ∷ ms) [] hits n left node marks is keeps walk =
    let first : n ≡ m = cc (walk.1) in
    let rest : left ≡ ms = cc (walk.1) in
    let none : hits ++ hits_of f node marks ≡ hits_of f node marks ++ [] = ap (λ (l : List Hit). l ++ hits_of f node marks) walk.0 ∙ sym (append-nil (hits_of f node marks)) in (
      node,
      subst (λ (k : Need). nodes k.page ≡ Some node) first is,
      ap (λ (k : Need). k.page) first,
      subst (λ (k : Need). rule f k.above node marks) first keeps,
      ([], (refl, ap (λ (l : List Need). needs_of f node marks ++ l) rest), none),
    )
reaches_more rule f nodes [] (r ∷ rs) hits n left node marks is keeps walk = absurd walk
reaches_more rule f nodes (m ∷ ms) (r ∷ rs) hits n left node marks is keeps walk =
    let deep = reaches_more rule f nodes (needs_of f walk.0 r.marks ++ ms) rs walk.4.0 n left node marks is keeps walk.4.1 in (
      walk.0,
      walk.1,
      walk.2,
      walk.3,
      (
        walk.4.0 ++ hits_of f node marks,
        deep,
        ap (λ (l : List Hit). l ++ hits_of f node marks) walk.4.2 ∙ append_assoc (hits_of f walk.0 r.marks) walk.4.0 (hits_of f node marks),
      ),
    )

-- a walk that needs nothing more is whole
pub walks_whole : (rule : Rule) (f : Search) (nodes : Nodes) (ns : List Need) (rs : List Record) (hits : List Hit) → ReachesBy rule f nodes ns rs hits [] → WalksBy rule f nodes ns rs hits
walks_whole rule f nodes [] [] hits walk = walk.0
walks_whole rule f nodes (n ∷ ns) [] hits walk = absurd (let e : ◌≡◌ {A = List Need} [] (n ∷ ns) = walk.1 in cc)
walks_whole rule f nodes [] (r ∷ rs) hits walk = absurd walk
walks_whole rule f nodes (n ∷ ns) (r ∷ rs) hits walk =
    (walk.0, walk.1, walk.2, walk.3, (walk.4.0, walks_whole rule f nodes (needs_of f walk.0 r.marks ++ ns) rs walk.4.0 walk.4.1, walk.4.2))

-- on a sound tree a walk needs sound pages alone, and as many as were not opened yet

abbrev pub pages_of : Nodes → List Spot → List ℕ
pages_of nodes ps = flat_map (λ p. pages_at nodes p.height p.page) ps

-- fewer pages below some of the entries than below all
pub near_fewer : (nodes : Nodes) (s : Space) (h : ℕ) (es : List InnerEntry) (ms : List Mark) →
    length (pages_of nodes (map (spot_of s h) (near_ones es ms))) ≤ length (flat_map (λ e. pages_at nodes h e.child) es)
near_fewer nodes s h [] ms = omega arith
near_fewer nodes s h (e ∷ es) [] = omega arith
near_fewer nodes s h (e ∷ es) (Skip ∷ ms) =
    let ih = near_fewer nodes s h es ms in
    let l = length-append (pages_at nodes h e.child) (flat_map (λ e. pages_at nodes h e.child) es) in
    omega arith
near_fewer nodes s h (e ∷ es) (Far ∷ ms) =
    let ih = near_fewer nodes s h es ms in
    let l = length-append (pages_at nodes h e.child) (flat_map (λ e. pages_at nodes h e.child) es) in
    omega arith
near_fewer nodes s h (e ∷ es) (Near ∷ ms) =
    let ih = near_fewer nodes s h es ms in
    let l = length-append (pages_at nodes h e.child) (flat_map (λ e. pages_at nodes h e.child) es) in
    let m = length-append (pages_at nodes h e.child) (pages_of nodes (map (spot_of s h) (near_ones es ms))) in
    omega arith

pub some_pages : (nodes : Nodes) (h page : ℕ) → 1 ≤ length (pages_at nodes h page)
some_pages nodes zero page = omega arith
some_pages nodes (suc h) page = omega arith

module _ (rule : Rule) (f : Search) (nodes : Nodes) where
  -- what is left is a list of sound pages
  pub record IsLeft (opened most : ℕ) (left : List Need) : Type 0 where
    pub spots : List Spot
    pub sound : AllByRecursion (IsSoundSpot f.space nodes) spots
    pub are : left ≡ map (need_at f) spots
    pub few : opened + length (pages_of nodes spots) ≤ most

  -- the pages of a sound page's node: its own and those below its entries
  spot_left : (n : ℕ) (h least : ℕ) (above : Option (List ℕ)) (page : ℕ) (ps : List Spot) (node : Node) (marks : List Mark) (left : List Need) → IsSoundAt f.space nodes h least above page → FitsAbove f.space above →
      AllByRecursion (IsSoundSpot f.space nodes) ps → nodes page ≡ Some node →
      ((qs : List Spot) → AllByRecursion (IsSoundSpot f.space nodes) qs → needs_of f node marks ++ map (need_at f) ps ≡ map (need_at f) qs → IsLeft n (length (pages_of nodes qs)) left) →
      IsLeft (suc n) (length (pages_at nodes h page ++ pages_of nodes ps)) left
  spot_left n zero least above page ps node marks left sound fit sounds is rest =
      let leaf : node ≡ Leaf sound.0 = same_node (nodes page) node (Leaf sound.0) is sound.1 in
      let deep = rest ps sounds (ap (λ (m : Node). needs_of f m marks ++ map (need_at f) ps) leaf) in
      let bound = deep.few in
      record { spots = deep.spots; sound = deep.sound; are = deep.are; few = omega arith }
  spot_left n (suc h) least above page ps node marks left sound fit sounds is rest =
      let inner : node ≡ Inner (suc h) sound.0 = same_node (nodes page) node (Inner (suc h) sound.0) is sound.1 in
      let kids : List Spot = map (spot_of f.space h) (near_ones sound.0 marks) in
      let deep = rest (kids ++ ps) (all_append (IsSoundSpot f.space nodes) kids ps (near_of_sound f.space nodes h above sound.0 marks fit sound.3) sounds)
      (ap (λ (m : Node). needs_of f m marks ++ map (need_at f) ps) inner ∙ needs_from_spots f f.space h (near_ones sound.0 marks) ps) in
      let bound = deep.few in
      let joined = ap length (flat_map-append (λ p. pages_at nodes p.height p.page) kids ps) in
      let long = length-append (pages_of nodes kids) (pages_of nodes ps) in
      let fewer = near_fewer nodes f.space h sound.0 marks in
      let whole = length-append (flat_map (λ e. pages_at nodes h e.child) sound.0) (pages_of nodes ps) in
      record { spots = deep.spots; sound = deep.sound; are = deep.are; few = rw (ap inner_entries sound.1) (omega arith) }

  pub reached_left : (rs : List Record) (ps : List Spot) (hits : List Hit) (left : List Need) → AllByRecursion (IsSoundSpot f.space nodes) ps → ReachesBy rule f nodes (map (need_at f) ps) rs hits left →
      IsLeft (length rs) (length (pages_of nodes ps)) left
  reached_left [] ps hits left sounds walk = record { spots = ps; sound = sounds; are = walk.1; few = omega arith }
  reached_left (r ∷ rs) [] hits left sounds walk = absurd walk
  reached_left (r ∷ rs) (p ∷ ps) hits left sounds walk =
      spot_left (length rs) p.height p.least p.above p.page ps walk.0 r.marks left sounds.0.0 sounds.0.1 sounds.1 walk.1
      (λ qs good are. reached_left rs qs walk.4.0 left good (subst (λ (ns : List Need). ReachesBy rule f nodes ns rs walk.4.0 left) are walk.4.1))

  -- a page that a walk of a sound tree needs holds a node, and fewer pages than there are were opened
  pub reached_inside : (live : Live) → IsSoundTree f.space nodes live → (rs : List Record) (hits : List Hit) (n : Need) (rest : List Need) →
      ReachesBy rule f nodes (root_need live.root ∷ []) rs hits (n ∷ rest) → (length rs < live.pages) × ((node : Node) × (nodes n.page ≡ Some node))
  reached_inside live sound rs hits n rest walk =
      let left = reached_left rs (record { height = live.height; least = root_least live.height; above = None; page = live.root } ∷ []) hits (n ∷ rest) ((sound.parts, tt), tt) walk in
      let all = few live.pages (pages_at nodes live.height live.root) (all_weaker (IsNodePage live) (λ p. p < live.pages) (pages_at nodes live.height live.root) (λ p k. k.1) sound.within) sound.once in
      let same = ap length (append-nil (pages_at nodes live.height live.root)) in
      first left.spots left.sound left.are (let b = left.few in omega arith)
    where
      node_of : (h least : ℕ) (above : Option (List ℕ)) (page : ℕ) → IsSoundAt f.space nodes h least above page → (node : Node) × (nodes page ≡ Some node)
      node_of zero least above page s = (Leaf s.0, s.1)
      node_of (suc h) least above page s = (Inner (suc h) s.0, s.1)

      first : (ps : List Spot) → AllByRecursion (IsSoundSpot f.space nodes) ps → ◌≡◌ {A = List Need} (n ∷ rest) (map (need_at f) ps) → length rs + length (pages_of nodes ps) ≤ live.pages →
          (length rs < live.pages) × ((node : Node) × (nodes n.page ≡ Some node))
      first [] sounds are bound = absurd (cc)
      first (p ∷ ps) sounds are bound =
          let here : n ≡ need_at f p = cc in
          let one = some_pages nodes p.height p.page in
          let l = length-append (pages_at nodes p.height p.page) (pages_of nodes ps) in
          (omega arith, subst (λ (m : Need). (node : Node) × (nodes m.page ≡ Some node)) (sym here) (node_of p.height p.least p.above p.page sounds.0.0))

-- counts

pub count_up_more : (u n : ℕ) → next_count (count_up u n) ≡ count_up u (suc n)
count_up_more u zero = refl
count_up_more u (suc n) = count_up_more (next_count u) n

pub count_up_both : (u n m : ℕ) → count_up (count_up u n) m ≡ count_up u (n + m)
count_up_both u zero m = ap (count_up u) (let e : m ≡ 0 + m = omega arith in e)
count_up_both u (suc n) m = count_up_both (next_count u) n m ∙ ap (count_up u) (let e : suc (n + m) ≡ suc n + m = omega arith in e)

pub measured-append : (rs : List Record) (r : Record) → measured (rs ++ r ∷ []) ≡ measured rs + measured_by r.marks
measured-append [] r = omega arith
measured-append (q ∷ rs) r = let ih = measured-append rs r in omega arith

-- a count that stays below 2 ^ 64 rises by exactly `n`
pub count_up_small : (u n : ℕ) → u + n < 2 ^ 64 → count_up u n ≡ u + n
count_up_small u zero low = omega arith
count_up_small u (suc n) low =
    let one : next_count u ≡ u + 1 = omega arith in
    rw one (count_up_small (u + 1) n (omega arith) ∙ omega arith)
