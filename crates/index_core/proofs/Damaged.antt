-- A page that a walk blames is damaged.
use Rattle.std.proofs.Common.{◌≡◌, ◌⊎◌, ℕ, zero, suc, ◌+◌, ◌-◌, ◌≤◌, ◌<◌, Bool, true, false, List, [], ◌∷◌, ◌++◌, inl, inr, length, ◌^◌, length-append, map, get_or, refl, sym, ap, subst, ◌∙◌, arith, Option, Some, None, IsSome, Result, Ok, Err}
use Rattle.std.specs.Prelude.{IsTrue, ◌==◌, ◌&&◌, min, nat_le, nat_lt, if◌then◌else◌, IfErr}
use Rattle.std.proofs.lemmas.Bool.Decides.{nat_tests}
use Rattle.metric_laws.specs.Lists.{IsIn}
use Rattle.metric_laws.specs.Space.{Space, bound}
use Rattle.metric_laws.proofs.Published.{in-append, in-map, length_map}
use Rattle.disk_model.specs.Disk.{DiskState}
use Rattle.scan_model.specs.declared.hit.Hit.{Hit}
use Rattle.tree_shape.specs.declared.live.Live.{Live}
use Rattle.tree_shape.specs.declared.entry.InnerEntry.{InnerEntry}
use Rattle.tree_shape.specs.declared.entry.Node.{Node}
use Rattle.tree_shape.specs.declared.entry.Node.TheVariants.{Leaf, Inner}
use Rattle.tree_shape.specs.Fill.{most_for}
use Rattle.tree_shape.specs.Plain.{Object, Branch, tree_at}
use Rattle.tree_shape.specs.Tree.{Nodes, inner_entries, times}
use Rattle.tree_shape.proofs.Published.{times-append}
use Rattle.tree_growth.specs.Dealing.{Ball}
use Rattle.tree_growth.specs.Insertion.{Grown, One, Two, Rules, branch_ball, chosen, fit, grown_at, inserted, with_grown}
use Rattle.tree_growth.proofs.Published.{chosen_low}
use Rattle.node_page.specs.declared.node.NodeFault.{NodeFault}
use Rattle.node_page.specs.declared.node.Version.TheVariants.{Second}
use Rattle.node_page.specs.Nodes.{IsValidNode, fault_in, node_in}
use Rattle.node_page.specs.Opening.{page_of}
use Rattle.node_page.proofs.Published.{valid_by_spells, spells_by_none}
use Rattle.page_store.specs.declared.pages.PageFault.{PageFault}
use Rattle.page_store.specs.declared.pages.PageFault.TheVariants.{Disk, Bad, Outside, Memory, Repeats, Level}
use Rattle.page_store.specs.Reached.{IsReached}
use Rattle.page_store.specs.Reached.IsReached.{at_root, by_child}
use Rattle.page_store.specs.Reading.{IsWithin, is_within, judged, node_or_none, nodes_of, reading, reading_in}
use Rattle.page_store.proofs.Published.{in_get, in_times, times_in, branch_at}
use Rattle.log_model.specs.declared.logs.Found.{Found}
use Rattle.log_model.specs.declared.marks.Mark.{Mark}
use Rattle.log_model.specs.declared.marks.Mark.TheVariants.{Skip, Far, Near}
use Rattle.log_model.specs.declared.marks.Need.{Need}
use Rattle.log_model.specs.declared.marks.Record.{Record}
use Rattle.metric_laws.specs.Counts.{count_up}
use Rattle.log_model.specs.Walk.{AreLeast, ReachesBy, Search, near_ones, need_of, needs_of, root_need, search_at}
use Rattle.range_search.specs.Searched.{HasWalkCause, Needs}
use Rattle.nearest_search.specs.Searched.{HasNearestCause, IsReachedBy}
use Rattle.nearest_search.specs.Walks.{OpensBefore, WalksTo, named_of}
use Rattle.log_model.specs.Met.{marked_node, near_pages}
use Rattle.log_model.proofs.Published.{marked_is}
use Rattle.hit_tags.specs.Comes.{ComesTo}
use Rattle.hit_tags.specs.Tags.{HasTagsCause}
use Rattle.free_pages.specs.Keeping.{FreePages}
use Rattle.page_store.specs.Tours.{children}
use Rattle.free_pages.specs.Walk.{on_children, tree_walk, walked}
use Rattle.insert_path.specs.Placing.{is_split, or_level, place_fault}
use Rattle.insert_path.specs.Walk.{chosen_child, inner_ball, inner_fault, leaf_fault, walk_fault}
use Rattle.insert_path.proofs.Published.{child_page}
use Rattle.index_core.specs.declared.faults.IndexFault.{IndexFault}
use Rattle.index_core.specs.declared.faults.IndexFault.TheVariants as fault
use Rattle.index_core.specs.Answers.{HasRangeCause, HasReachCause, HasTagCause}
use Rattle.page_store.specs.Shelf.{IsDamage}
use Rattle.index_core.specs.Causes.{BlamesNoPage, HasListCause, HasPathCause, HasReadCause, rules_of}
use Rattle.index_core.specs.Damage.{BlamesDamage, ComesAgain, IsAtHeight, IsDamageOf, LeadsTo}
use Rattle.index_core.specs.Files.{OpenFile, OnlyReads, pages_on}
use Rattle.index_core.specs.Index.{OpenIndex}
use Rattle.index_core.specs.Loading.{load_fault}

-- ---- what is read

module _ (dim : ℕ) (bytes : List ℕ) (t : Live) where
  abbrev pub nodes : Nodes
  nodes = nodes_of (reading dim t.pages bytes)

  outside_of : (page : ℕ) → is_within t.pages page ≡ false → IsWithin t.pages page → ⊥
  unfolding is_within
  outside_of page not within = let low = within.0 in let high = within.1 in absurd (let e : false ≡ true = sym not ∙ (let x : (nat_le 3 page && nat_le (suc page) t.pages) ≡ true = grind (arith, nat_tests) in x) in cc)

  judged_damage : (b : Bool) (o : Option NodeFault) (n : Node) (page : ℕ) (fault : PageFault) → is_within t.pages page ≡ b → (if b then judged page o n else Err (Outside page)) ≡ Err fault →
      reading dim t.pages bytes page ≡ Err fault → IsReached nodes t.root page → IsDamageOf dim bytes t fault
  judged_damage false o n page fault within is reads reached =
      let same : Outside page ≡ fault = (let e : ◌≡◌ {A = Result Node PageFault} (Err (Outside page)) (Err fault) = is in cc) in
      subst (IsDamageOf dim bytes t) same (reached, outside_of page within)
  judged_damage true None n page fault within is reads reached = absurd (let e : Ok n ≡ Err fault = is in cc)
  judged_damage true (Some f) n page fault within is reads reached =
      let same : Bad page f ≡ fault = (let e : ◌≡◌ {A = Result Node PageFault} (Err (Bad page f)) (Err fault) = is in cc) in
      subst (IsDamageOf dim bytes t) same (reached, reads ∙ ap (λ (g : PageFault). Err g) (sym same))

  -- a reached page that gives no node is damaged
  pub read_damage : (page : ℕ) (fault : PageFault) → reading dim t.pages bytes page ≡ Err fault → IsReached nodes t.root page → IsDamageOf dim bytes t fault
  unfolding reading_in
  read_damage page fault reads reached =
      judged_damage (is_within t.pages page) (fault_in Second dim (page_of bytes page)) (node_in Second dim (page_of bytes page)) page fault refl reads reads reached

-- an inner node that is read has an entry
module _ (dim pages : ℕ) (bytes : List ℕ) where
  judged_valid : (b : Bool) (page : ℕ) (o : Option NodeFault) (n node : Node) → (o ≡ None → IsValidNode dim n) → (if b then judged page o n else Err (Outside page)) ≡ Ok node → IsValidNode dim node
  judged_valid false page o n node valid is = absurd (let e : ◌≡◌ {A = Result Node PageFault} (Err (Outside page)) (Ok node) = is in cc)
  judged_valid true page (Some f) n node valid is = absurd (let e : ◌≡◌ {A = Result Node PageFault} (Err (Bad page f)) (Ok node) = is in cc)
  judged_valid true page None n node valid is = let same : n ≡ node = (let e : ◌≡◌ {A = Result Node PageFault} (Ok n) (Ok node) = is in cc) in subst (IsValidNode dim) same (valid refl)

  pub read_valid : (page : ℕ) (node : Node) → reading dim pages bytes page ≡ Ok node → IsValidNode dim node
  unfolding reading_in
  read_valid page node is =
      judged_valid (is_within pages page) page (fault_in Second dim (page_of bytes page)) (node_in Second dim (page_of bytes page)) node
      (λ none. valid_by_spells Second dim (page_of bytes page) (node_in Second dim (page_of bytes page)) (spells_by_none Second dim (page_of bytes page) none)) is

-- ---- walks

module _ (nodes : Nodes) (root : ℕ) where
  -- a walk comes only to reached pages
  pub walk_reached : (opened coming : List ℕ) → WalksTo nodes (root ∷ []) opened coming → (page : ℕ) → IsIn page coming → IsReached nodes root page
  walk_reached [] coming walk page i =
      let few = walk page in let some = in_times page coming i in
      elim (times_in page (root ∷ []) (omega arith)) [
        | inl same ↦ subst (IsReached nodes root) (sym same) at_root
        | inr none ↦ absurd none
      ]
  walk_reached (p ∷ opened) coming (before, walk, is, some, counts) page i =
      let few = counts page in let many = in_times page coming i in
      elim (in-append before (named_of nodes p) page (times_in page (before ++ named_of nodes p) (omega arith))) [
        | inl old ↦ walk_reached opened before walk page old
        | inr new ↦ (
            let e = in-map (λ (e : InnerEntry). e.child) (inner_entries (nodes p)) page new in
            subst (IsReached nodes root) (sym e.2) (by_child p e.0 (walk_reached opened before walk p is) e.1)
            )
      ]

  pub leads_reached : (steps from page : ℕ) → IsReached nodes root from → LeadsTo nodes steps from page → IsReached nodes root page
  leads_reached zero from page reached leads = subst (IsReached nodes root) (sym leads) reached
  leads_reached (suc steps) from page reached (e, is, leads) = leads_reached steps e.child page (by_child from e reached is) leads

  pub leads_more : (steps from page : ℕ) (e : InnerEntry) → LeadsTo nodes steps from page → IsIn e (inner_entries (nodes page)) → LeadsTo nodes (suc steps) from e.child
  leads_more zero from page e leads is = (e, subst (λ (p : ℕ). IsIn e (inner_entries (nodes p))) leads is, refl)
  leads_more (suc steps) from page e (f, there, leads) is = (f, there, leads_more steps f.child page e leads is)

  pub path_reached : (path : List ℕ) (from page : ℕ) → IsReached nodes root from → IsReachedBy nodes from path page → IsReached nodes root page
  path_reached [] from page reached by = subst (IsReached nodes root) by reached
  path_reached (c ∷ path) from page reached (e, is, same, by) = path_reached path c page (subst (IsReached nodes root) same (by_child from e reached is)) by

-- ---- the walk of a range search

abbrev pages_of : List Need → List ℕ
pages_of ns = map (λ n. n.page) ns

near_few : (f : Search) (k : ℕ) (es : List InnerEntry) (ms : List Mark) → times k (pages_of (map (need_of f) (near_ones es ms))) ≤ times k (map (λ e. e.child) es)
near_few f k [] ms = omega arith
near_few f k (e ∷ es) [] = omega arith
near_few f k (e ∷ es) (Skip ∷ ms) = let ih = near_few f k es ms in omega arith
near_few f k (e ∷ es) (Far ∷ ms) = let ih = near_few f k es ms in omega arith
near_few f k (e ∷ es) (Near ∷ ms) = let ih = near_few f k es ms in omega arith

-- a node's marks need no page more often than the node names it
needs_few : (f : Search) (k : ℕ) (node : Node) (ms : List Mark) → times k (pages_of (needs_of f node ms)) ≤ times k (map (λ e. e.child) (inner_entries (Some node)))
needs_few f k (Leaf es) ms = omega arith
needs_few f k (Inner level es) ms = near_few f k es ms

pages_append : (k : ℕ) (ns ms : List Need) → times k (pages_of (ns ++ ms)) ≡ times k (pages_of ns) + times k (pages_of ms)
pages_append k [] ms = omega arith
pages_append k (n ∷ ns) ms = let ih = pages_append k ns ms in omega arith

module _ (f : Search) (nodes : Nodes) (root : ℕ) where
  -- the walk of a search is a walk by child numbers
  search_walks : (records : List Record) (hits : List Hit) (needs left : List Need) (opened : List ℕ) → WalksTo nodes (root ∷ []) opened (pages_of needs) → ReachesBy AreLeast f nodes needs records hits left →
      (all : List ℕ) × WalksTo nodes (root ∷ []) all (pages_of left) × (length all ≡ length records + length opened)
  search_walks [] hits needs left opened walk reaches = (opened, subst (λ (ns : List Need). WalksTo nodes (root ∷ []) opened (pages_of ns)) (sym reaches.1) walk, omega arith)
  search_walks (r ∷ rs) hits [] left opened walk reaches = absurd reaches
  search_walks (r ∷ rs) hits (n ∷ ns) left opened walk (node, is, same, marks, (rest, reaches, named)) =
      let all = search_walks rs rest (needs_of f node r.marks ++ ns) left (n.page ∷ opened) (pages_of (n ∷ ns), walk, inl refl, subst IsSome (sym is) refl, counts) reaches in
      (all.0, all.1, (let e = all.2 in omega arith))
    where
      counts : (k : ℕ) → times k (n.page ∷ pages_of (needs_of f node r.marks ++ ns)) ≤ times k (pages_of (n ∷ ns) ++ named_of nodes n.page)
      counts k =
          let a = times-append k (pages_of (n ∷ ns)) (named_of nodes n.page) in
          let here : times k (named_of nodes n.page) ≡ times k (map (λ e. e.child) (inner_entries (Some node))) =
          ap (λ (o : Option Node). times k (map (λ e. e.child) (inner_entries o))) is in
          let b = pages_append k (needs_of f node r.marks) ns in
          let few = needs_few f k node r.marks in
          omega arith

  needed_walk : (opened page : ℕ) → Needs f nodes root opened page → OpensBefore nodes (root ∷ []) opened page
  needed_walk opened page needs =
      let all = search_walks needs.records needs.hits (root_need root ∷ []) (needs.next ∷ needs.rest) [] (λ k. omega arith) needs.walk in (
        pages_of (needs.next ∷ needs.rest),
        record { opened = all.0; walk = all.1; count_is = (let e = all.2 in let c = needs.count in omega arith) },
        inl (sym needs.is),
      )

  pub needed_reached : (opened page : ℕ) → Needs f nodes root opened page → IsReached nodes root page
  needed_reached opened page needs = let walk = needed_walk opened page needs in walk_reached nodes root walk.1.opened walk.0 walk.1.walk page walk.2

-- a walk that opened as many pages as there are comes again
pub comes_again : (nodes : Nodes) (t : Live) (page : ℕ) → OpensBefore nodes (t.root ∷ []) t.pages page → IsReached nodes t.root page × ComesAgain nodes t page
comes_again nodes t page (coming, has, is) = (
  walk_reached nodes t.root has.opened coming has.walk page is,
  record { opened = has.opened; coming = coming; walk = has.walk; comes = is; again = inr (let c = has.count_is in omega arith) },
)

module _ {M : Type 0} (file : OpenFile M) (before after : DiskState) (is_known : IsTrue before.is_known) where
  abbrev Is : PageFault → Type 0
  Is fault = IsDamageOf file.head.dim before.bytes file.live fault

  abbrev Blamed : PageFault → Type 0
  Blamed Disk = Unit {0}
  Blamed Memory = Unit {0}
  Blamed fault = IsDamageOf file.head.dim before.bytes file.live fault

  -- a page that a range search blames
  pub range_damage : (f : Search) (n : ℕ) (fault : PageFault) → HasWalkCause f file.live (pages_on file before 0) (pages_on file after n) fault → Blamed fault
  range_damage f n Disk walk = tt
  range_damage f n Memory walk = tt
  range_damage f n (Bad page why) walk =
      let told = walk.1 is_known in let needs = told.1.2 in
      read_damage file.head.dim before.bytes file.live page (Bad page why) told.0 (needed_reached f (nodes file.head.dim before.bytes file.live) file.live.root told.1.0 page needs)
  range_damage f n (Outside page) walk =
      let told = walk.1 is_known in
      read_damage file.head.dim before.bytes file.live page (Outside page) told.0 (needed_reached f (nodes file.head.dim before.bytes file.live) file.live.root told.1.0 page told.1.2)
  range_damage f n (Repeats page) walk = comes_again (nodes file.head.dim before.bytes file.live) file.live page (needed_walk f (nodes file.head.dim before.bytes file.live) file.live.root file.live.pages page (walk.1 is_known))
  range_damage f n (Level page) walk = absurd walk

  -- a page that a search for the nearest blames
  pub nearest_damage : (n : ℕ) (fault : PageFault) → HasNearestCause file.live (pages_on file before 0) (pages_on file after n) fault → Blamed fault
  nearest_damage n Disk walk = tt
  nearest_damage n Memory walk = tt
  nearest_damage n (Bad page why) walk =
      let told = walk.1 is_known in
      read_damage file.head.dim before.bytes file.live page (Bad page why) told.0 (path_reached (nodes file.head.dim before.bytes file.live) file.live.root told.1.0 file.live.root page at_root told.1.1)
  nearest_damage n (Outside page) walk =
      let told = walk.1 is_known in
      read_damage file.head.dim before.bytes file.live page (Outside page) told.0 (path_reached (nodes file.head.dim before.bytes file.live) file.live.root told.1.0 file.live.root page at_root told.1.1)
  nearest_damage n (Repeats page) walk = comes_again (nodes file.head.dim before.bytes file.live) file.live page (walk.1 is_known).1
  nearest_damage n (Level page) walk = absurd walk

-- ---- the walk by a log

near_child : (es : List InnerEntry) (ms : List Mark) (page : ℕ) → IsIn page (map (λ e. e.child) (near_ones es ms)) → (e : InnerEntry) × IsIn e es × (page ≡ e.child)
near_child [] ms page i = absurd i
near_child (e ∷ es) [] page i = absurd i
near_child (e ∷ es) (Skip ∷ ms) page i = let deep = near_child es ms page i in (deep.0, inr deep.1, deep.2)
near_child (e ∷ es) (Far ∷ ms) page i = let deep = near_child es ms page i in (deep.0, inr deep.1, deep.2)
near_child (e ∷ es) (Near ∷ ms) page i = elim i [
  | inl same ↦ (e, inl refl, same)
  | inr more ↦ (let deep = near_child es ms page more in (deep.0, inr deep.1, deep.2))
]

near_page : (node : Node) (ms : List Mark) (page : ℕ) → IsIn page (near_pages node ms) → (e : InnerEntry) × IsIn e (inner_entries (Some node)) × (page ≡ e.child)
near_page (Leaf es) ms page i = absurd i
near_page (Inner level es) ms page i = near_child es ms page i

module _ (nodes : Nodes) (root : ℕ) where
  -- the walk by a log comes only to reached pages
  comes_reached : (needed : List ℕ) (records : List Record) (page : ℕ) → ((p : ℕ) → IsIn p needed → IsReached nodes root p) → ComesTo nodes needed records page → IsReached nodes root page
  comes_reached [] [] page each comes = absurd comes
  comes_reached [] (r ∷ rs) page each comes = absurd comes
  comes_reached (p ∷ ps) [] page each comes = absurd comes
  comes_reached (p ∷ ps) (r ∷ rs) page each comes = elim comes [
    | inl here ↦ subst (IsReached nodes root) (sym here.0) (each p (inl refl))
    | inr further ↦ comes_reached (near_pages further.0 r.marks ++ ps) rs page (next further.0 further.1) further.2
  ]
    where
      next : (node : Node) → marked_node nodes p r ≡ Some node → (q : ℕ) → IsIn q (near_pages node r.marks ++ ps) → IsReached nodes root q
      next node is q i = elim (in-append (near_pages node r.marks) ps q i) [
        | inl named ↦ (
            let e = near_page node r.marks q named in
            subst (IsReached nodes root) (sym e.2)
            (by_child p e.0 (each p (inl refl)) (subst (λ (o : Option Node). IsIn e.0 (inner_entries o)) (sym (marked_is nodes p r node is)) e.1))
            )
        | inr old ↦ each q (inr old)
      ]

module _ {M : Type 0} (file : OpenFile M) (before after : DiskState) (is_known : IsTrue before.is_known) where
  -- a page that the walk by a log blames
  pub tags_damage : (records : List Record) (fault : PageFault) → HasTagsCause (pages_on file before 0) (pages_on file after 0) (file.live.root ∷ []) records fault → Blamed file before after is_known fault
  tags_damage records Disk walk = tt
  tags_damage records Memory walk = tt
  tags_damage records (Bad page why) (at, cause, comes) =
      read_damage file.head.dim before.bytes file.live at (Bad page why) (cause.2 is_known ∙ ap (λ (q : ℕ). Err (Bad q why)) (sym cause.0)) (reached at (comes is_known))
    where
      reached : (at : ℕ) → ComesTo (nodes file.head.dim before.bytes file.live) (file.live.root ∷ []) records at → IsReached (nodes file.head.dim before.bytes file.live) file.live.root at
      reached at comes = comes_reached (nodes file.head.dim before.bytes file.live) file.live.root (file.live.root ∷ []) records at (λ p i. elim i [ inl same ↦ subst (IsReached (nodes file.head.dim before.bytes file.live) file.live.root) (sym same) at_root | inr none ↦ absurd none ]) comes
  tags_damage records (Outside page) (at, cause, comes) =
      read_damage file.head.dim before.bytes file.live at (Outside page) (cause.2 is_known ∙ ap (λ (q : ℕ). Err (Outside q)) (sym cause.0)) (reached at (comes is_known))
    where
      reached : (at : ℕ) → ComesTo (nodes file.head.dim before.bytes file.live) (file.live.root ∷ []) records at → IsReached (nodes file.head.dim before.bytes file.live) file.live.root at
      reached at comes = comes_reached (nodes file.head.dim before.bytes file.live) file.live.root (file.live.root ∷ []) records at (λ p i. elim i [ inl same ↦ subst (IsReached (nodes file.head.dim before.bytes file.live) file.live.root) (sym same) at_root | inr none ↦ absurd none ]) comes
  tags_damage records (Repeats page) (at, cause, comes) = absurd cause
  tags_damage records (Level page) (at, cause, comes) = absurd cause

-- ---- the walk that makes the free list

children_of : (node : Node) → map (λ e. e.child) (inner_entries (Some node)) ≡ children node
children_of (Leaf es) = refl
children_of (Inner level es) = refl

module _ (dim : ℕ) (bytes : List ℕ) (t : Live) where
  walked_damage : (most : ℕ) (opened coming so_far : List ℕ) (fault : PageFault) → WalksTo (nodes dim bytes t) (t.root ∷ []) so_far coming → ((k : ℕ) → times k opened ≡ times k so_far) → t.pages ≤ most + length so_far →
      walked (reading dim t.pages bytes) most opened coming ≡ Err fault → IsDamageOf dim bytes t fault
  walked_damage zero opened [] so_far fault walk same room is = absurd (let e : Ok opened ≡ Err fault = is in cc)
  walked_damage (suc most) opened [] so_far fault walk same room is = absurd (let e : Ok opened ≡ Err fault = is in cc)
  walked_damage zero opened (page ∷ coming) so_far fault walk same room is =
      let here : Repeats page ≡ fault = (let e : ◌≡◌ {A = Result (List ℕ) PageFault} (Err (Repeats page)) (Err fault) = is in cc) in
      subst (IsDamageOf dim bytes t) here (
        walk_reached (nodes dim bytes t) t.root so_far (page ∷ coming) walk page (inl refl),
        record { opened = so_far; coming = page ∷ coming; walk = walk; comes = inl refl; again = inr (omega arith) },
      )
  walked_damage (suc most) opened (page ∷ coming) so_far fault walk same room is =
      tested (times page opened == 0) refl (reading dim t.pages bytes page) refl (λ node there. walked_damage most (opened ++ page ∷ []) (children node ++ coming) (page ∷ so_far) fault (opens node there) pushed (omega arith)) is
    where
      opens : (node : Node) → reading dim t.pages bytes page ≡ Ok node → WalksTo (nodes dim bytes t) (t.root ∷ []) (page ∷ so_far) (children node ++ coming)
      opens node there = (page ∷ coming, walk, inl refl, subst IsSome (sym holds) refl, counts)
        where
          holds : nodes dim bytes t page ≡ Some node
          holds = ap node_or_none there

          counts : (k : ℕ) → times k (page ∷ children node ++ coming) ≤ times k ((page ∷ coming) ++ named_of (nodes dim bytes t) page)
          counts k =
              let a = times-append k (children node) coming in
              let b = times-append k (page ∷ coming) (named_of (nodes dim bytes t) page) in
              let c : times k (named_of (nodes dim bytes t) page) ≡ times k (children node) =
              ap (λ (o : Option Node). times k (map (λ e. e.child) (inner_entries o))) holds ∙ ap (times k) (children_of node) in
              omega arith

      pushed : (k : ℕ) → times k (opened ++ page ∷ []) ≡ times k (page ∷ so_far)
      pushed k = let a = times-append k opened (page ∷ []) in let e = same k in omega arith

      tested : (b : Bool) → (times page opened == 0) ≡ b → (r : Result Node PageFault) → reading dim t.pages bytes page ≡ r →
          ((node : Node) → reading dim t.pages bytes page ≡ Ok node → walked (reading dim t.pages bytes) most (opened ++ page ∷ []) (children node ++ coming) ≡ Err fault → IsDamageOf dim bytes t fault) →
          (if b then on_children r (λ named. walked (reading dim t.pages bytes) most (opened ++ page ∷ []) (named ++ coming)) else Err (Repeats page)) ≡ Err fault → IsDamageOf dim bytes t fault
      tested false old r reads deeper is =
          let here : Repeats page ≡ fault = (let e : ◌≡◌ {A = Result (List ℕ) PageFault} (Err (Repeats page)) (Err fault) = is in cc) in
          let some : 1 ≤ times page opened = grind (arith, nat_tests) in
          let e = same page in
          subst (IsDamageOf dim bytes t) here (
            walk_reached (nodes dim bytes t) t.root so_far (page ∷ coming) walk page (inl refl),
            record { opened = so_far; coming = page ∷ coming; walk = walk; comes = inl refl; again = inl (times_in page so_far (omega arith)) },
          )
      tested true fresh (Ok node) reads deeper is = deeper node reads is
      tested true fresh (Err why) reads deeper is =
          let same : why ≡ fault = (let e : ◌≡◌ {A = Result (List ℕ) PageFault} (Err why) (Err fault) = is in cc) in
          read_damage dim bytes t page fault (reads ∙ ap (λ (f : PageFault). Err f) same) (walk_reached (nodes dim bytes t) t.root so_far (page ∷ coming) walk page (inl refl))

  -- a page that the walk by child numbers blames
  pub list_damage : (fault : PageFault) → tree_walk (reading dim t.pages bytes) t ≡ Err fault → IsDamageOf dim bytes t fault
  list_damage fault is = walked_damage (suc t.pages) [] (t.root ∷ []) [] fault (λ k. omega arith) (λ k. refl) (omega arith) is

  -- ---- the walk of an insertion

  chosen_entry : (s : Space) (p : List ℕ) (es : List InnerEntry) → 1 ≤ length es → (e : InnerEntry) × IsIn e es × (chosen_child s p es ≡ e.child)
  chosen_entry s p [] some = absurd (omega arith)
  chosen_entry s p (e ∷ es) some =
      let n = length_map inner_ball (e ∷ es) in
      let low : chosen s (map inner_ball (e ∷ es)) p < length (e ∷ es) = (let c = chosen_low s (map inner_ball (e ∷ es)) p (omega (arith, n)) in omega (arith, c, n)) in (
        get_or (e ∷ es) (chosen s (map inner_ball (e ∷ es)) p) e,
        in_get (e ∷ es) (chosen s (map inner_ball (e ∷ es)) p) e low,
        child_page (e ∷ es) (chosen s (map inner_ball (e ∷ es)) p) (get_or (e ∷ es) (chosen s (map inner_ball (e ∷ es)) p) e) low (same_or (e ∷ es) (chosen s (map inner_ball (e ∷ es)) p) e low),
      )
    where
      same_or : (ys : List InnerEntry) (i : ℕ) (z : InnerEntry) → i < length ys → get_or ys i z ≡ get_or ys i (get_or ys i z)
      same_or [] i z low = absurd (omega arith)
      same_or (y ∷ ys) zero z low = refl
      same_or (y ∷ ys) (suc i) z low = same_or ys i z (omega arith)

  abbrev Leads : ℕ → ℕ → Type 0
  Leads height page = (depth : ℕ) × (depth + height ≡ t.height) × LeadsTo (nodes dim bytes t) depth t.root page

  -- a node of another level
  level_damage : (height page : ℕ) (node : Node) (fault : PageFault) → Leads height page → reading dim t.pages bytes page ≡ Ok node → (IsAtHeight height node → ⊥) → Some (Level page) ≡ Some fault → IsDamageOf dim bytes t fault
  level_damage height page node fault leads reads other is =
      let here : Level page ≡ fault = (let e : Some (Level page) ≡ Some fault = is in cc) in
      subst (IsDamageOf dim bytes t) here (
        leads_reached (nodes dim bytes t) t.root leads.0 t.root page at_root leads.2,
        inl (record { depth = leads.0; height = height; whole = leads.1; leads = leads.2; node = node; holds = ap node_or_none reads; other = other }),
      )

  path_damage : (s : Space) (p : List ℕ) (height page : ℕ) (fault : PageFault) → Leads height page → walk_fault s (reading dim t.pages bytes) p height page ≡ Some fault → IsDamageOf dim bytes t fault
  path_damage s p zero page fault leads is = at_leaf (reading dim t.pages bytes page) refl is
    where
      at_leaf : (r : Result Node PageFault) → reading dim t.pages bytes page ≡ r → leaf_fault page r ≡ Some fault → IsDamageOf dim bytes t fault
      at_leaf (Ok (Leaf es)) reads is = absurd (let e : None ≡ Some fault = is in cc)
      at_leaf (Ok (Inner level es)) reads is = level_damage zero page (Inner level es) fault leads reads (λ no. no) is
      at_leaf (Err why) reads is =
          let same : why ≡ fault = (let e : Some why ≡ Some fault = is in cc) in
          read_damage dim bytes t page fault (reads ∙ ap (λ (f : PageFault). Err f) same) (leads_reached (nodes dim bytes t) t.root leads.0 t.root page at_root leads.2)
  path_damage s p (suc h) page fault leads is = at_inner (reading dim t.pages bytes page) refl (λ q down below. path_damage s p h q fault down below) is
    where
      down : (level : ℕ) (es : List InnerEntry) → reading dim t.pages bytes page ≡ Ok (Inner level es) → Leads h (chosen_child s p es)
      down level es reads =
          let valid = read_valid dim t.pages bytes page (Inner level es) reads in
          let e = chosen_entry s p es valid.2 in
          let holds : nodes dim bytes t page ≡ Some (Inner level es) = ap node_or_none reads in (
            suc leads.0,
            (let w = leads.1 in omega arith),
            subst (LeadsTo (nodes dim bytes t) (suc leads.0) t.root) (sym e.2)
                (leads_more (nodes dim bytes t) t.root leads.0 t.root page e.0 leads.2 (subst (λ (o : Option Node). IsIn e.0 (inner_entries o)) (sym holds) e.1)),
          )

      at_level : (b : Bool) (level : ℕ) (es : List InnerEntry) → (level == suc h) ≡ b → reading dim t.pages bytes page ≡ Ok (Inner level es) → ((q : ℕ) → Leads h q → walk_fault s (reading dim t.pages bytes) p h q ≡ Some fault → IsDamageOf dim bytes t fault) →
          (if b then walk_fault s (reading dim t.pages bytes) p h (chosen_child s p es) else Some (Level page)) ≡ Some fault → IsDamageOf dim bytes t fault
      at_level true level es equal reads deeper is = deeper (chosen_child s p es) (down level es reads) is
      at_level false level es equal reads deeper is = level_damage (suc h) page (Inner level es) fault leads reads (λ same. let e : (level == suc h) ≡ true = grind (arith, nat_tests) in cc) is

      at_inner : (r : Result Node PageFault) → reading dim t.pages bytes page ≡ r → ((q : ℕ) → Leads h q → walk_fault s (reading dim t.pages bytes) p h q ≡ Some fault → IsDamageOf dim bytes t fault) → inner_fault (walk_fault s (reading dim t.pages bytes) p h) s p (suc h) page r ≡ Some fault → IsDamageOf dim bytes t fault
      at_inner (Ok (Leaf es)) reads deeper is = level_damage (suc h) page (Leaf es) fault leads reads (λ no. no) is
      at_inner (Ok (Inner level es)) reads deeper is = at_level (level == suc h) level es refl reads deeper is
      at_inner (Err why) reads deeper is =
          let same : why ≡ fault = (let e : Some why ≡ Some fault = is in cc) in
          read_damage dim bytes t page fault (reads ∙ ap (λ (f : PageFault). Err f) same) (leads_reached (nodes dim bytes t) t.root leads.0 t.root page at_root leads.2)

-- a node that is split had too many entries
fit_many : {X : Type 0} (R : Rules) (ball : X → Ball) (xs : List X) → is_split (fit R ball xs) ≡ true → R.most < length xs
fit_many R ball xs is = cases (nat_le (length xs) R.most) refl
  where
    cases : (b : Bool) → nat_le (length xs) R.most ≡ b → R.most < length xs
    cases true e = absurd (let x : false ≡ true = rw e at is in cc)
    cases false e = grind (arith, nat_tests)

grown_by : {X : Type 0} (d : ℕ) (b : Branch X) (g : Grown X) (bs : List (Branch X)) → length (with_grown d b g bs) ≤ length bs + 2
grown_by d b (One x) bs = omega arith
grown_by d b (Two c e) bs = let n = length-append bs (e ∷ []) in omega arith

-- one entry more at the most
grown_few : {X : Type 0} (grow : X → Grown X) (far : List ℕ → ℕ) (i : ℕ) (bs : List (Branch X)) → length (grown_at grow far i bs) ≤ length bs + 1
grown_few grow far i [] = omega arith
grown_few grow far zero (b ∷ bs) = let n = grown_by (far b.point) b (grow b.below) bs in omega arith
grown_few grow far (suc i) (b ∷ bs) = let n = grown_few grow far i bs in omega arith

split_full : (R : Rules) (o : Object) (nodes : Nodes) (h page : ℕ) → 1 ≤ h → is_split (inserted R o h (tree_at nodes h page)) ≡ true → R.most ≤ length (inner_entries (nodes page))
split_full R o nodes zero page some is = absurd (omega arith)
split_full R o nodes (suc h) page some is =
    let all = tree_at nodes (suc h) page in
    let many = fit_many R branch_ball (grown_at (inserted R o h) (R.dist o.point) (R.choose (map branch_ball all) o.point) all) is in
    let few = grown_few (inserted R o h) (R.dist o.point) (R.choose (map branch_ball all) o.point) all in
    let same = length_map (branch_at nodes h) (inner_entries (nodes page)) in
    omega arith

both_true : (a b : Bool) → (a && b) ≡ true → (a ≡ true) × (b ≡ true)
both_true true b is = (refl, is)
both_true false b is = absurd (cc)

module _ (dim : ℕ) (bytes : List ℕ) (t : Live) (s : Space) (R : Rules) (o : Object) (most : R.most ≡ most_for dim) where
  top_damage : (b : Bool) (first : Option PageFault) (fault : PageFault) → ((t.height == 14) && is_split (inserted R o t.height (tree_at (nodes dim bytes t) t.height t.root))) ≡ b →
      ((f : PageFault) → first ≡ Some f → IsDamageOf dim bytes t f) → or_level first b t.root ≡ Some fault → IsDamageOf dim bytes t fault
  top_damage b (Some f) fault split walk is = walk fault is
  top_damage false None fault split walk is = absurd (let e : None ≡ Some fault = is in cc)
  top_damage true None fault split walk is =
      let here : Level t.root ≡ fault = (let e : Some (Level t.root) ≡ Some fault = is in cc) in
      let both = both_true (t.height == 14) (is_split (inserted R o t.height (tree_at (nodes dim bytes t) t.height t.root))) split in
      let high : t.height ≡ 14 = (let h = both.0 in grind (arith, nat_tests)) in
      let full = split_full R o (nodes dim bytes t) t.height t.root (omega (arith, high)) both.1 in
      subst (IsDamageOf dim bytes t) here (at_root, inr (refl, high, omega (arith, full, most)))

  -- a page that the walk of an insertion blames
  pub place_damage : (fault : PageFault) → place_fault s R (reading dim t.pages bytes) t o ≡ Some fault → IsDamageOf dim bytes t fault
  place_damage fault is =
      top_damage _ (walk_fault s (reading dim t.pages bytes) o.point t.height t.root) fault refl
      (λ f walk. path_damage dim bytes t s o.point t.height t.root f (0, omega arith, refl) walk) is

-- ---- what a call of an index refuses

module _ {M : Type 0} (file : OpenFile M) (before after : DiskState) where
  blamed : (is_known : IsTrue before.is_known) (fault : PageFault) → IsDamage fault → Blamed file before after is_known fault → IsDamageOf file.head.dim before.bytes file.live fault
  blamed is_known (Bad page why) is damage = damage
  blamed is_known (Outside page) is damage = damage
  blamed is_known (Repeats page) is damage = damage
  blamed is_known (Level page) is damage = absurd is
  blamed is_known Disk is damage = absurd is
  blamed is_known Memory is damage = absurd is

  read_blames : (walk : PageFault → Type 0) (fault : IndexFault) → HasReadCause walk fault → ((is_known : IsTrue before.is_known) (f : PageFault) → walk f → Blamed file before after is_known f) → BlamesDamage file before fault
  read_blames walk (fault.Damaged f) cause of = λ is_known. blamed is_known f cause.0 (of is_known f cause.1)
  read_blames walk fault.Disk cause of = tt
  read_blames walk fault.Memory cause of = tt
  read_blames walk fault.Full cause of = tt
  read_blames walk fault.NotEmpty cause of = tt
  read_blames walk (fault.NoRoom pages needed) cause of = tt
  read_blames walk fault.Worn cause of = tt
  read_blames walk fault.Stopped cause of = tt
  read_blames walk fault.Commit cause of = tt

  pub range_blames : {X : Type 0} (s : Space) (q : List ℕ) (r : ℕ) (result : Result X IndexFault) → IfErr result (HasRangeCause s file q r before after) → IfErr result (BlamesDamage file before)
  range_blames s q r (Ok x) cause = tt
  range_blames s q r (Err why) cause =
      read_blames (HasWalkCause (search_at s q (min r bound)) file.live (pages_on file before 0) (pages_on file after (count_up 0 file.live.pages))) why cause
      (λ is_known f walk. range_damage file before after is_known (search_at s q (min r bound)) (count_up 0 file.live.pages) f walk)

  pub reach_blames : {X : Type 0} (result : Result X IndexFault) → IfErr result (HasReachCause file before after) → IfErr result (BlamesDamage file before)
  reach_blames (Ok x) cause = tt
  reach_blames (Err why) cause =
      read_blames (HasNearestCause file.live (pages_on file before 0) (pages_on file after (count_up 0 file.live.pages))) why cause
      (λ is_known f walk. nearest_damage file before after is_known (count_up 0 file.live.pages) f walk)

  pub tag_blames : {X : Type 0} (found : Found) (result : Result X IndexFault) → IfErr result (HasTagCause file found before after) → IfErr result (BlamesDamage file before)
  tag_blames found (Ok x) cause = tt
  tag_blames found (Err why) cause =
      read_blames (HasTagsCause (pages_on file before 0) (pages_on file after 0) (file.live.root ∷ []) found.log.records) why cause
      (λ is_known f walk. tags_damage file before after is_known found.log.records f walk)

pub list_blames : {M : Type 0} (file : OpenFile M) (before : DiskState) (faults : ℕ) (why : IndexFault) → HasListCause file before faults why → BlamesDamage file before why
list_blames file before faults (fault.Damaged f) cause = λ is_known. list_damage file.head.dim before.bytes file.live f (cause.1 is_known)
list_blames file before faults fault.Disk cause = tt
list_blames file before faults fault.Memory cause = tt
list_blames file before faults fault.Full cause = tt
list_blames file before faults fault.NotEmpty cause = tt
list_blames file before faults (fault.NoRoom pages needed) cause = tt
list_blames file before faults fault.Worn cause = tt
list_blames file before faults fault.Stopped cause = tt
list_blames file before faults fault.Commit cause = tt

pub path_blames : {M : Type 0} (s : Space) (file : OpenFile M) (f : FreePages) (o : Object) (before after : DiskState) (why : IndexFault) → s.dimension ≡ file.head.dim → HasPathCause s file f o before after why → BlamesDamage file before why
path_blames s file f o before after (fault.Damaged g) dimension cause = λ is_known.
    place_damage file.head.dim before.bytes file.live s (rules_of s file) o (ap most_for dimension) g (cause.1 is_known)
path_blames s file f o before after fault.Disk dimension cause = tt
path_blames s file f o before after fault.Memory dimension cause = tt
path_blames s file f o before after fault.Full dimension cause = tt
path_blames s file f o before after fault.NotEmpty dimension cause = tt
path_blames s file f o before after (fault.NoRoom pages needed) dimension cause = tt
path_blames s file f o before after fault.Worn dimension cause = tt
path_blames s file f o before after fault.Stopped dimension cause = tt
path_blames s file f o before after fault.Commit dimension cause = tt

-- a refusal that blames no page
pub blames_nothing : {M : Type 0} (file : OpenFile M) (before : DiskState) (why : IndexFault) → BlamesNoPage why → BlamesDamage file before why
blames_nothing file before (fault.Damaged f) none = absurd none
blames_nothing file before fault.Disk none = tt
blames_nothing file before fault.Memory none = tt
blames_nothing file before fault.Full none = tt
blames_nothing file before fault.NotEmpty none = tt
blames_nothing file before (fault.NoRoom pages needed) none = tt
blames_nothing file before fault.Worn none = tt
blames_nothing file before fault.Stopped none = tt
blames_nothing file before fault.Commit none = tt

-- a commit blames no page
pub commit_blames : {M X : Type 0} (file : OpenFile M) (before : DiskState) (result : Result X IndexFault) → IfErr result (λ why. (why ≡ fault.Memory) ⊎ (why ≡ fault.Commit)) → IfErr result (BlamesDamage file before)
commit_blames file before (Ok x) is = tt
commit_blames file before (Err why) is = elim is [
  | inl memory ↦ subst (BlamesDamage file before) (sym memory) tt
  | inr commit ↦ subst (BlamesDamage file before) (sym commit) tt
]

pub result_blames_nothing : {M X : Type 0} (file : OpenFile M) (before : DiskState) (result : Result X IndexFault) → IfErr result BlamesNoPage → IfErr result (BlamesDamage file before)
result_blames_nothing file before (Ok x) none = tt
result_blames_nothing file before (Err why) none = blames_nothing file before why none

-- what is blamed in a file that was only read is blamed in the file before
pub moved_blames : {M : Type 0} (old new : OpenFile M) (before mid : DiskState) (why : IndexFault) → OnlyReads old new before mid → BlamesDamage new mid why → BlamesDamage old before why
moved_blames {M} old new before mid (fault.Damaged f) reads blames = λ is_known.
    subst (λ (bytes : List ℕ). IsDamageOf old.head.dim bytes old.live f) reads.same.same_bytes
    (subst (λ (file : OpenFile M). IsDamageOf file.head.dim mid.bytes file.live f) reads.rest (blames (subst IsTrue (sym reads.same.same_known) is_known)))
moved_blames old new before mid fault.Disk reads blames = tt
moved_blames old new before mid fault.Memory reads blames = tt
moved_blames old new before mid fault.Full reads blames = tt
moved_blames old new before mid fault.NotEmpty reads blames = tt
moved_blames old new before mid (fault.NoRoom pages needed) reads blames = tt
moved_blames old new before mid fault.Worn reads blames = tt
moved_blames old new before mid fault.Stopped reads blames = tt
moved_blames old new before mid fault.Commit reads blames = tt

-- what refuses a load at once blames no page
pub load_blames : {M : Type 0} (index : OpenIndex M) (rows : ℕ) (before : DiskState) (why : IndexFault) → load_fault index rows ≡ Some why → BlamesDamage index.file before why
load_blames index rows before why is = tested index.stopped (index.file.live.count == 0) (nat_lt index.file.head.limit rows) (index.file.live.generation == 2 ^ 48 - 1) is
  where
    says : (other : IndexFault) → BlamesDamage index.file before other → Some other ≡ Some why → BlamesDamage index.file before why
    says other blames e = let same : other ≡ why = (cc) in subst (BlamesDamage index.file before) same blames

    tested : (a b c d : Bool) → (if a then Some fault.Stopped else (if b then (if c then Some fault.Full else (if d then Some fault.Worn else None)) else Some fault.NotEmpty)) ≡ Some why → BlamesDamage index.file before why
    tested true b c d e = says fault.Stopped tt e
    tested false false c d e = says fault.NotEmpty tt e
    tested false true true d e = says fault.Full tt e
    tested false true false true e = says fault.Worn tt e
    tested false true false false e = absurd (cc)
