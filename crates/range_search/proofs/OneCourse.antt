-- The walk with the least marks has one course.
use Rattle.std.proofs.Common.{◌≡◌, ℕ, ◌<◌, List, [], ◌∷◌, ◌++◌, sym, ap, ◌∙◌, subst, Some, arith, length}
use Rattle.scan_model.specs.declared.hit.Hit.{Hit}
use Rattle.tree_shape.specs.declared.entry.Node.{Node}
use Rattle.tree_shape.specs.Tree.{Nodes}
use Rattle.log_model.specs.declared.marks.Record.{Record}
use Rattle.log_model.specs.declared.marks.Need.{Need}
use Rattle.log_model.specs.Walk.{Search, WalksBy, ReachesBy, AreLeast, least_marks, needs_of, root_need}
use Rattle.log_model.proofs.Published.{same_node}
use Rattle.range_search.specs.Searched.{Needs}
use Rattle.range_search.specs.Laws.{WalkHasOneCourse}

module _ (f : Search) (nodes : Nodes) where
  -- two walks that took as many records need the same
  same_needs : (ns : List Need) (rs rs' : List Record) (hits hits' : List Hit) (left left' : List Need) → ReachesBy AreLeast f nodes ns rs hits left → ReachesBy AreLeast f nodes ns rs' hits' left' →
      length rs ≡ length rs' → left ≡ left'
  same_needs ns [] [] hits hits' left left' walk walk' long = walk.1 ∙ sym walk'.1
  same_needs ns [] (r ∷ rs') hits hits' left left' walk walk' long = absurd (omega arith)
  same_needs ns (r ∷ rs) [] hits hits' left left' walk walk' long = absurd (omega arith)
  same_needs [] (r ∷ rs) (r' ∷ rs') hits hits' left left' walk walk' long = absurd walk
  same_needs (n ∷ ns) (r ∷ rs) (r' ∷ rs') hits hits' left left' walk walk' long =
      let node = same_node (nodes n.page) walk.0 walk'.0 walk.1 walk'.1 in
      let marks : r.marks ≡ r'.marks = walk.3 ∙ ap (least_marks f n.above) node ∙ sym walk'.3 in
      let needs : needs_of f walk'.0 r'.marks ++ ns ≡ needs_of f walk.0 r.marks ++ ns = (λ i. needs_of f (sym node i) (sym marks i) ++ ns) in
      same_needs (needs_of f walk.0 r.marks ++ ns) rs rs' walk.4.0 walk'.4.0 left left' walk.4.1
      (subst (λ (ms : List Need). ReachesBy AreLeast f nodes ms rs' walk'.4.0 left') needs walk'.4.1) (omega arith)

  -- a whole walk has taken what a walk needs on its way
  needs_taken : (ns : List Need) (rs rs' : List Record) (hits hits' : List Hit) (n : Need) (left : List Need) → ReachesBy AreLeast f nodes ns rs hits (n ∷ left) → WalksBy AreLeast f nodes ns rs' hits' →
      (length rs < length rs') × ((node : Node) × (nodes n.page ≡ Some node))
  needs_taken [] [] rs' hits hits' n left walk whole = absurd (let e : ◌≡◌ {A = List Need} (n ∷ left) [] = walk.1 in cc)
  needs_taken (m ∷ ms) [] [] hits hits' n left walk whole = absurd whole
  needs_taken (m ∷ ms) [] (r' ∷ rs') hits hits' n left walk whole =
      let first : n ≡ m = cc (walk.1) in
      (omega arith, (whole.0, ap (λ (k : Need). nodes k.page) first ∙ whole.1))
  needs_taken [] (r ∷ rs) rs' hits hits' n left walk whole = absurd walk
  needs_taken (m ∷ ms) (r ∷ rs) [] hits hits' n left walk whole = absurd whole
  needs_taken (m ∷ ms) (r ∷ rs) (r' ∷ rs') hits hits' n left walk whole =
      let node = same_node (nodes m.page) walk.0 whole.0 walk.1 whole.1 in
      let marks : r.marks ≡ r'.marks = walk.3 ∙ ap (least_marks f m.above) node ∙ sym whole.3 in
      let needs : needs_of f whole.0 r'.marks ++ ms ≡ needs_of f walk.0 r.marks ++ ms = (λ i. needs_of f (sym node i) (sym marks i) ++ ms) in
      let deep = needs_taken (needs_of f walk.0 r.marks ++ ms) rs rs' walk.4.0 whole.4.0 n left walk.4.1
      (subst (λ (ks : List Need). WalksBy AreLeast f nodes ks rs' whole.4.0) needs whole.4.1) in
      (omega (arith, deep.0), deep.1)

pub one_course : WalkHasOneCourse
one_course f nodes root opened page here = (same, taken)
  where
    same : (other : ℕ) → Needs f nodes root opened other → page ≡ other
    same other there =
        let both : ◌≡◌ {A = List Need} (here.next ∷ here.rest) (there.next ∷ there.rest) =
        same_needs f nodes (root_need root ∷ []) here.records there.records here.hits there.hits (here.next ∷ here.rest) (there.next ∷ there.rest) here.walk there.walk (here.count ∙ sym there.count) in
        let first : here.next ≡ there.next = cc in
        sym here.is ∙ ap (λ (n : Need). n.page) first ∙ there.is

    taken : (records : List Record) (hits : List Hit) → WalksBy AreLeast f nodes (root_need root ∷ []) records hits → (opened < length records) × ((node : Node) × (nodes page ≡ Some node))
    taken records hits whole =
        let deep = needs_taken f nodes (root_need root ∷ []) here.records records here.hits hits here.next here.rest here.walk whole in
        let long = here.count in
        (omega (arith, deep.0), (deep.1.0, ap nodes (sym here.is) ∙ deep.1.1))
