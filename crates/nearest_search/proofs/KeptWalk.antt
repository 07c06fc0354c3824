-- The walk with the least marks over what is kept.
use Rattle.std.proofs.Common.{◌≡◌, ℕ, Bool, true, false, List, [], ◌∷◌, ◌++◌, refl, sym, inl, inr, arith, subst, Option, Some, None}
use Rattle.std.specs.Prelude.{IsTrue, map, if◌then◌else◌}
use Rattle.std.specs.List.{AllByRecursion}
use Rattle.std.proofs.lemmas.Bool.Decides.{nat_tests}
use Rattle.metric_laws.specs.Pruning.{centre_rules_out}
use Rattle.metric_laws.specs.Lists.{IsIn}
use Rattle.metric_laws.proofs.Published.{all_weaker, all_append}
use Rattle.scan_model.specs.declared.hit.Hit.{Hit}
use Rattle.tree_shape.specs.declared.live.Live.{Live}
use Rattle.tree_shape.specs.declared.entry.InnerEntry.{InnerEntry}
use Rattle.tree_shape.specs.declared.entry.Node.{Node}
use Rattle.tree_shape.specs.declared.entry.Node.TheVariants.{Leaf, Inner}
use Rattle.tree_shape.specs.Tree.{Nodes, IsSoundTree, inner_entries}
use Rattle.log_model.specs.declared.marks.Mark.{Mark}
use Rattle.log_model.specs.declared.marks.Mark.TheVariants.{Skip, Far, Near}
use Rattle.log_model.specs.declared.marks.Record.{Record}
use Rattle.log_model.specs.declared.marks.Need.{Need}
use Rattle.log_model.specs.Walk.{Search, ReachesBy, WalksBy, AreLeast, away, is_skipped, least_for_subtree, least_marks, near_ones, need_of, needs_of, root_need}
use Rattle.log_model.proofs.Published.{reached_inside, walks_whole}
use Rattle.nearest_search.specs.Machine.{reaches}
use Rattle.nearest_search.specs.Keeping.{Sheets, IsKept}
use Rattle.nearest_search.specs.RebuiltLog.{IsStopped}

-- what the least marks leave reaches
pub near_reach : (f : Search) (above : Option ℕ) (es : List InnerEntry) →
    AllByRecursion (λ e. IsIn e es × IsTrue (reaches f e)) (near_ones es (map (least_for_subtree f above) es))
near_reach f above [] = tt
near_reach f above (e ∷ es) = cases (is_skipped f above e.parent e.radius) (centre_rules_out (away f e.point) f.rho e.radius) refl (later (near_reach f above es))
  where
    later : AllByRecursion (λ x. IsIn x es × IsTrue (reaches f x)) (near_ones es (map (least_for_subtree f above) es)) → AllByRecursion (λ x. IsIn x (e ∷ es) × IsTrue (reaches f x)) (near_ones es (map (least_for_subtree f above) es))
    later rest = all_weaker (λ x. IsIn x es × IsTrue (reaches f x)) (λ x. IsIn x (e ∷ es) × IsTrue (reaches f x)) (near_ones es (map (least_for_subtree f above) es))
        (λ x w. (inr w.0, w.1)) rest

    near : centre_rules_out (away f e.point) f.rho e.radius ≡ false → IsTrue (reaches f e)
    near c = grind (arith, nat_tests)

    cases : (s c : Bool) → centre_rules_out (away f e.point) f.rho e.radius ≡ c →
        AllByRecursion (λ x. IsIn x (e ∷ es) × IsTrue (reaches f x)) (near_ones es (map (least_for_subtree f above) es)) →
        AllByRecursion (λ x. IsIn x (e ∷ es) × IsTrue (reaches f x)) (near_ones (e ∷ es) ((if s then Skip else (if c then Far else Near)) ∷ map (least_for_subtree f above) es))
    cases true c i rest = rest
    cases false true i rest = rest
    cases false false i rest = ((inl refl, near i), rest)

module _ (f : Search) (nodes : Nodes) (kept : Sheets)
    (closed : (page : ℕ) (above : Option ℕ) → IsKept kept page above → (e : InnerEntry) → IsIn e (inner_entries (nodes page)) → IsTrue (reaches f e) → IsKept kept e.child (Some (away f e.point))) where
  abbrev pub AreKept : List Need → Type 0
  AreKept ns = AllByRecursion (λ n. IsKept kept n.page n.above) ns

  -- what an opened page needs is kept
  pub needs_kept : (page : ℕ) (above : Option ℕ) (node : Node) → IsKept kept page above → nodes page ≡ Some node → AreKept (needs_of f node (least_marks f above node))
  needs_kept page above (Leaf es) here is = tt
  needs_kept page above (Inner level es) here is = each (near_ones es (least_marks f above (Inner level es))) (near_reach f above es)
    where
      each : (xs : List InnerEntry) → AllByRecursion (λ e. IsIn e es × IsTrue (reaches f e)) xs → AreKept (map (need_of f) xs)
      each [] all = tt
      each (x ∷ xs) all = (closed page above here x (subst (λ (o : Option Node). IsIn x (inner_entries o)) (sym is) all.0.0) all.0.1, each xs all.1)

  -- what a walk needs that begins with kept pages is kept
  pub left_kept : (rs : List Record) (ns : List Need) (hits : List Hit) (left : List Need) → AreKept ns → ReachesBy AreLeast f nodes ns rs hits left → AreKept left
  left_kept [] ns hits left all walk = rw walk.1 all
  left_kept (r ∷ rs) [] hits left all walk = absurd walk
  left_kept (r ∷ rs) (n ∷ ns) hits left all walk =
      left_kept rs (needs_of f walk.0 r.marks ++ ns) walk.4.0 left
      (all_append (λ (m : Need). IsKept kept m.page m.above) (needs_of f walk.0 r.marks) ns
      (subst (λ (ms : List Mark). AreKept (needs_of f walk.0 ms)) (sym walk.3) (needs_kept n.page n.above walk.0 all.0 walk.1)) all.1) walk.4.1

  -- on a sound tree the walk over what is kept is whole
  pub rebuilding_whole : (live : Live) → IsSoundTree f.space nodes live → IsKept kept live.root None → (rs : List Record) (hits : List Hit) (left : List Need) →
      ReachesBy AreLeast f nodes (root_need live.root ∷ []) rs hits left → IsStopped kept live rs left → WalksBy AreLeast f nodes (root_need live.root ∷ []) rs hits
  rebuilding_whole live sound root rs hits left walk stopped = ends left walk stopped
    where
      unkept : (n : Need) → IsKept kept n.page n.above → kept n.page n.above ≡ None → ⊥
      unkept n k none = let some = k.1 in cc

      ends : (left : List Need) → ReachesBy AreLeast f nodes (root_need live.root ∷ []) rs hits left → IsStopped kept live rs left → WalksBy AreLeast f nodes (root_need live.root ∷ []) rs hits
      ends [] walk stopped = walks_whole AreLeast f nodes (root_need live.root ∷ []) rs hits walk
      ends (n ∷ ns) walk stopped =
          let low = (reached_inside AreLeast f nodes live sound rs hits n ns walk).0 in
          elim stopped [
            | inl all ↦ absurd (omega arith)
            | inr none ↦ absurd (unkept n (left_kept rs (root_need live.root ∷ []) hits (n ∷ ns) (root, tt) walk).0 none)
          ]
