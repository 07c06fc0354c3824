-- The walk of a tree whose pages are named once.
use Rattle.std.proofs.Common.{◌≡◌, ℕ, zero, suc, ◌+◌, ◌≤◌, ◌<◌, Bool, true, false, List, [], ◌∷◌, ◌++◌, length, length-append, Result, Ok, Err, IsSome, refl, ap, ◌∙◌, arith}
use Rattle.std.specs.Prelude.{◌==◌, if◌then◌else◌}
use Rattle.std.specs.List.{AllByRecursion}
use Rattle.std.proofs.lemmas.Bool.Decides.{nat_tests}
use Rattle.metric_laws.specs.Lists.{IsIn}
use Rattle.metric_laws.proofs.Published.{all_in}
use Rattle.tree_shape.specs.declared.entry.Node.{Node}
use Rattle.tree_shape.specs.declared.live.Live.{Live}
use Rattle.tree_shape.specs.Tree.{Nodes, IsNodePage, times}
use Rattle.tree_shape.proofs.Published.{times-append, counted, few}
use Rattle.page_store.specs.declared.pages.PageFault.{PageFault}
use Rattle.page_store.specs.Reading.{Read, nodes_of, node_or_none}
use Rattle.free_pages.specs.Keeping.{without_pin}
use Rattle.free_pages.specs.Laws.{WholeTreesAreWalked}
use Rattle.page_store.specs.Reached.{IsReached, IsWholeTree, named_in}
use Rattle.page_store.specs.Tours.{children}
use Rattle.free_pages.specs.Walk.{walked}
use Rattle.free_pages.proofs.SoundWalk.{opens}
use Rattle.free_pages.proofs.Whole.{Course, begun, course_step, in_nodes, in_from_times, times_from_in}

-- ---- a list without one of its pages

module _ (p k : ℕ) where
  times-without : (tree : List ℕ) → 1 ≤ times p tree → times k tree ≡ times k (without_pin p tree) + (if p == k then 1 else 0)
  times-without [] some = absurd (omega arith)
  times-without (x ∷ xs) some = tested (x == p) refl (times-without xs)
    where
      tested : (b : Bool) → (x == p) ≡ b → (1 ≤ times p xs → times k xs ≡ times k (without_pin p xs) + (if p == k then 1 else 0)) →
          times k (x ∷ xs) ≡ times k (if b then xs else x ∷ without_pin p xs) + (if p == k then 1 else 0)
      tested true e ih = let s : x ≡ p = grind (arith, nat_tests) in let c : ◌≡◌ {A = ℕ} (if x == k then 1 else 0) (if p == k then 1 else 0) = ap (λ (y : ℕ). if y == k then 1 else 0) s in omega arith
      tested false e ih = let z : ◌≡◌ {A = ℕ} (if x == p then 1 else 0) 0 = ap (λ (b : Bool). if b then 1 else 0) e in let r = ih (omega arith) in omega arith

  named-without : (nodes : Nodes) (tree : List ℕ) → 1 ≤ times p tree → times k (named_in nodes tree) ≡ times k (named_in nodes (without_pin p tree)) + times k (in_nodes nodes p)
  named-without nodes [] some = absurd (omega arith)
  named-without nodes (x ∷ xs) some = tested (x == p) refl (named-without nodes xs)
    where
      tested : (b : Bool) → (x == p) ≡ b → (1 ≤ times p xs → times k (named_in nodes xs) ≡ times k (named_in nodes (without_pin p xs)) + times k (in_nodes nodes p)) →
          times k (named_in nodes (x ∷ xs)) ≡ times k (named_in nodes (if b then xs else x ∷ without_pin p xs)) + times k (in_nodes nodes p)
      tested true e ih =
          let s : x ≡ p = grind (arith, nat_tests) in
          let c : times k (in_nodes nodes x) ≡ times k (in_nodes nodes p) = ap (λ (y : ℕ). times k (in_nodes nodes y)) s in
          let a = times-append k (in_nodes nodes x) (named_in nodes xs) in
          omega arith
      tested false e ih =
          let z : ◌≡◌ {A = ℕ} (if x == p then 1 else 0) 0 = ap (λ (b : Bool). if b then 1 else 0) e in
          let r = ih (omega arith) in
          let a = times-append k (in_nodes nodes x) (named_in nodes xs) in
          let b = times-append k (in_nodes nodes x) (named_in nodes (without_pin p xs)) in
          omega arith

-- some of a tree's pages name no page more often than all of them
fewer_named : (nodes : Nodes) (opened tree : List ℕ) → ((k : ℕ) → times k opened ≤ times k tree) → (k : ℕ) → times k (named_in nodes opened) ≤ times k (named_in nodes tree)
fewer_named nodes [] tree among k = omega arith
fewer_named nodes (p ∷ opened) tree among k =
    let some : 1 ≤ times p tree = (let c = counted p opened in let a = among p in omega arith) in
    let rest = fewer_named nodes opened (without_pin p tree) (λ j. let a = among j in let w = times-without p j tree some in omega arith) k in
    let n = named-without p k nodes tree some in
    let a = times-append k (in_nodes nodes p) (named_in nodes opened) in
    omega arith

-- ---- the walk

node_in : (r : Result Node PageFault) → IsSome (node_or_none r) → (node : Node) × (r ≡ Ok node)
node_in (Ok node) some = (node, refl)
node_in (Err fault) some = absurd (cc)

module _ (read : Read) (t : Live) (tree : List ℕ) (whole : IsWholeTree (nodes_of read) t tree) (all : AllByRecursion (λ page. IsSome (nodes_of read page)) tree) where
  abbrev nodes : Nodes
  nodes = nodes_of read

  module _ (opened coming : List ℕ) (course : Course (nodes_of read) t.root opened coming) where
    in_tree : (k : ℕ) → 1 ≤ times k opened → IsIn k tree
    in_tree k some = (whole.reached k).1 (all_in (IsReached (nodes_of read) t.root) opened k course.opened_reached (in_from_times k opened some))

    among : (k : ℕ) → times k opened ≤ times k tree
    among k = cases (times k opened) refl
      where
        cases : (m : ℕ) → times k opened ≡ m → times k opened ≤ times k tree
        cases zero e = omega arith
        cases (suc m) e = let i = times_from_in k tree (in_tree k (omega arith)) in let o = course.once k in omega arith

    once_named : (k : ℕ) → times k (t.root ∷ named_in (nodes_of read) opened) ≤ 1
    once_named k = cases (k == t.root) refl
      where
        cases : (b : Bool) → (k == t.root) ≡ b → times k (t.root ∷ named_in (nodes_of read) opened) ≤ 1
        cases true e =
            let f = fewer_named (nodes_of read) opened tree among k in
            let n : times k (named_in (nodes_of read) tree) ≡ 0 = whole.named k ∙ ap (λ (b : Bool). if b then 0 else times k tree) e in
            let s : (t.root == k) ≡ true = grind (arith, nat_tests) in
            let one : ◌≡◌ {A = ℕ} (if t.root == k then 1 else 0) 1 = ap (λ (b : Bool). if b then 1 else 0) s in
            omega arith
        cases false e =
            let f = fewer_named (nodes_of read) opened tree among k in
            let n : times k (named_in (nodes_of read) tree) ≡ times k tree = whole.named k ∙ ap (λ (b : Bool). if b then 0 else times k tree) e in
            let s : (t.root == k) ≡ false = grind (arith, nat_tests) in
            let none : ◌≡◌ {A = ℕ} (if t.root == k then 1 else 0) 0 = ap (λ (b : Bool). if b then 1 else 0) s in
            let o = whole.once k in
            omega arith

    few_opened : length opened ≤ t.pages
    few_opened = few t.pages opened (low opened course.opened_reached) course.once
      where
        low : (xs : List ℕ) → AllByRecursion (IsReached (nodes_of read) t.root) xs → AllByRecursion (λ x. x < t.pages) xs
        low [] r = tt
        low (x ∷ xs) r = ((all_in (IsNodePage t) tree x whole.within ((whole.reached x).1 r.0)).1, low xs r.1)

  ends : (most : ℕ) (opened coming : List ℕ) → Course (nodes_of read) t.root opened coming → t.pages < length opened + most → (order : List ℕ) × (walked read most opened coming ≡ Ok order)
  ends zero opened [] course room = (opened, refl)
  ends (suc most) opened [] course room = (opened, refl)
  ends zero opened (page ∷ coming) course room = let f = few_opened opened (page ∷ coming) course in absurd (omega arith)
  ends (suc most) opened (page ∷ coming) course room =
      let n = course.named page in
      let o = once_named opened (page ∷ coming) course page in
      let c = counted page coming in
      let fresh : times page opened ≡ 0 = omega arith in
      let new : (times page opened == 0) ≡ true = grind (arith, nat_tests) in
      let there = (whole.reached page).1 course.coming_reached.0 in
      let node = node_in (read page) (all_in (λ p. IsSome (nodes_of read p)) tree page all there) in
      let rest = ends most (opened ++ page ∷ []) (children node.0 ++ coming) (course_step read t.root opened page coming node.0 fresh node.1 course) (omega (arith, length-append opened (page ∷ []), room)) in
      (rest.0, opens read most opened page coming node.0 new node.1 ∙ rest.1)

pub whole_walk : WholeTreesAreWalked
whole_walk read t tree whole all = ends read t tree whole all (suc t.pages) [] (t.root ∷ []) (begun read t.root) (omega arith)
