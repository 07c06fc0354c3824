-- What a walk that ends has opened.
use Rattle.std.proofs.Common.{◌≡◌, ◌⊎◌, ℕ, zero, suc, ◌+◌, ◌≤◌, Bool, true, false, List, [], ◌∷◌, ◌++◌, refl, ap, subst, inl, inr, ◌∙◌, arith, Option, Some, Result, Ok, Err}
use Rattle.std.specs.Prelude.{◌==◌, map, if◌then◌else◌}
use Rattle.std.specs.List.{AllByRecursion}
use Rattle.std.proofs.lemmas.Bool.Decides.{nat_tests}
use Rattle.metric_laws.specs.Lists.{IsIn}
use Rattle.metric_laws.proofs.Published.{all_in, all_append, flat_map-append}
use Rattle.tree_shape.specs.declared.entry.InnerEntry.{InnerEntry}
use Rattle.tree_shape.specs.declared.entry.Node.{Node}
use Rattle.tree_shape.specs.declared.entry.Node.TheVariants.{Leaf, Inner}
use Rattle.tree_shape.specs.declared.live.Live.{Live}
use Rattle.tree_shape.specs.Tree.{Nodes, IsNodePage, inner_entries, times}
use Rattle.tree_shape.proofs.Published.{times-append, counted}
use Rattle.page_store.specs.declared.pages.PageFault.{PageFault}
use Rattle.page_store.specs.declared.pages.PageFault.TheVariants.{Repeats}
use Rattle.page_store.specs.Reading.{Read, nodes_of, node_or_none}
use Rattle.page_store.specs.Reached.{IsReached, IsWholeTree, named_in}
use Rattle.page_store.specs.Reached.IsReached.{at_root, by_child}
use Rattle.page_store.specs.Tours.{children}
use Rattle.free_pages.specs.Walk.{on_children, walked, tree_walk}

-- ---- what each step keeps holds at the end

module _ (read : Read) (P : List ℕ → List ℕ → Type 0)
    (step : (opened : List ℕ) (page : ℕ) (coming : List ℕ) (node : Node) → times page opened ≡ 0 → read page ≡ Ok node → P opened (page ∷ coming) → P (opened ++ page ∷ []) (children node ++ coming)) where
  abbrev Ends : ℕ → Type 0
  Ends most = (opened coming tree : List ℕ) → P opened coming → walked read most opened coming ≡ Ok tree → P tree []

  pub walked_keeps : (most : ℕ) → Ends most
  walked_keeps zero opened [] tree p is = let e : opened ≡ tree = (cc) in subst (λ ts. P ts []) e p
  walked_keeps zero opened (page ∷ coming) tree p is = absurd (cc)
  walked_keeps (suc most) opened [] tree p is = let e : opened ≡ tree = (cc) in subst (λ ts. P ts []) e p
  walked_keeps (suc most) opened (page ∷ coming) tree p is = tested (times page opened == 0) refl (walked_keeps most) is
    where
      rest : List ℕ → Result (List ℕ) PageFault
      rest named = walked read most (opened ++ page ∷ []) (named ++ coming)

      opens : (r : Result Node PageFault) → read page ≡ r → times page opened ≡ 0 → Ends most → on_children r (λ named. walked read most (opened ++ page ∷ []) (named ++ coming)) ≡ Ok tree → P tree []
      opens (Err fault) e fresh ih is = absurd (cc)
      opens (Ok node) e fresh ih is = ih (opened ++ page ∷ []) (children node ++ coming) tree (step opened page coming node fresh e p) is

      tested : (b : Bool) → (times page opened == 0) ≡ b → Ends most →
          (if b then on_children (read page) (λ named. walked read most (opened ++ page ∷ []) (named ++ coming)) else Err (Repeats page)) ≡ Ok tree → P tree []
      tested true e ih is = opens (read page) refl (let z : times page opened ≡ 0 = grind (arith, nat_tests) in z) ih is
      tested false e ih is = absurd (cc)

-- ---- numbers in a list

pub in_from_times : (k : ℕ) (xs : List ℕ) → 1 ≤ times k xs → IsIn k xs
in_from_times k [] some = absurd (omega arith)
in_from_times k (x ∷ xs) some = cases (x == k) refl (in_from_times k xs)
  where
    cases : (b : Bool) → (x == k) ≡ b → (1 ≤ times k xs → IsIn k xs) → (k ≡ x) ⊎ IsIn k xs
    cases true e ih = inl (let s : k ≡ x = grind (arith, nat_tests) in s)
    cases false e ih = inr (ih (let n : ◌≡◌ {A = ℕ} (if x == k then 1 else 0) 0 = ap (λ (b : Bool). if b then 1 else 0) e in omega arith))

pub times_from_in : (k : ℕ) (xs : List ℕ) → IsIn k xs → 1 ≤ times k xs
times_from_in k [] i = absurd i
times_from_in k (x ∷ xs) i = elim i [
  | inl e ↦ subst (λ (y : ℕ). 1 ≤ times k (y ∷ xs)) e (counted k xs)
  | inr w ↦ let ih = times_from_in k xs w in omega arith
]

-- ---- how far a walk has come

abbrev pub in_nodes : Nodes → ℕ → List ℕ
in_nodes nodes page = map (λ e. e.child) (inner_entries (nodes page))

-- what was opened or named is reached; what was opened stands once; and what was opened or is to come are the root and the
-- pages that were named
pub record Course (nodes : Nodes) (root : ℕ) (opened coming : List ℕ) : Type 0 where
  pub opened_reached : AllByRecursion (IsReached nodes root) opened
  pub coming_reached : AllByRecursion (IsReached nodes root) coming
  pub once : (k : ℕ) → times k opened ≤ 1
  pub named : (k : ℕ) → times k opened + times k coming ≡ times k (root ∷ named_in nodes opened)

children_of : (node : Node) → map (λ e. e.child) (inner_entries (Some node)) ≡ children node
children_of (Leaf es) = refl
children_of (Inner level es) = refl

node_of : (read : Read) (page : ℕ) (node : Node) → read page ≡ Ok node → nodes_of read page ≡ Some node
node_of read page node e = ap node_or_none e

children_in : (read : Read) (page : ℕ) (node : Node) → read page ≡ Ok node → in_nodes (nodes_of read) page ≡ children node
children_in read page node e = ap (λ (n : Option Node). map (λ e. e.child) (inner_entries n)) (node_of read page node e) ∙ children_of node

reached_children : (nodes : Nodes) (root page : ℕ) → IsReached nodes root page → (es : List InnerEntry) → ((e : InnerEntry) → IsIn e es → IsIn e (inner_entries (nodes page))) →
    AllByRecursion (IsReached nodes root) (map (λ e. e.child) es)
reached_children nodes root page r [] in_node = tt
reached_children nodes root page r (e ∷ es) in_node = (by_child page e r (in_node e (inl refl)), reached_children nodes root page r es (λ f i. in_node f (inr i)))

named-push : (nodes : Nodes) (opened : List ℕ) (page k : ℕ) → times k (named_in nodes (opened ++ page ∷ [])) ≡ times k (named_in nodes opened) + times k (in_nodes nodes page)
named-push nodes opened page k =
    ap (times k) (flat_map-append (in_nodes nodes) opened (page ∷ [])) ∙ times-append k (named_in nodes opened) (in_nodes nodes page ++ [])
    ∙ (let e = times-append k (in_nodes nodes page) [] in omega arith)

one_is : (n : ℕ) → times n (n ∷ []) ≡ 1
one_is n = let same : (n == n) ≡ true = grind (arith, nat_tests) in rw same refl

pub course_step : (read : Read) (root : ℕ) (opened : List ℕ) (page : ℕ) (coming : List ℕ) (node : Node) → times page opened ≡ 0 → read page ≡ Ok node →
    Course (nodes_of read) root opened (page ∷ coming) → Course (nodes_of read) root (opened ++ page ∷ []) (children node ++ coming)
course_step read root opened page coming node fresh e course = record {
  opened_reached = all_append (IsReached nodes root) opened (page ∷ []) course.opened_reached (course.coming_reached.0, tt);
  coming_reached = all_append (IsReached nodes root) (children node) coming
      (subst (AllByRecursion (IsReached nodes root)) (children_in read page node e) (reached_children nodes root page course.coming_reached.0 (inner_entries (nodes page)) (λ f i. i))) course.coming_reached.1;
  once = λ k. once k (page == k) refl;
  named = λ k.
      let a = times-append k opened (page ∷ []) in
      let b = times-append k (children node) coming in
      let n = named-push nodes opened page k in
      let c = ap (times k) (children_in read page node e) in
      let i = course.named k in
      omega arith;
}
  where
    nodes : Nodes
    nodes = nodes_of read

    once : (k : ℕ) (b : Bool) → (page == k) ≡ b → times k (opened ++ page ∷ []) ≤ 1
    once k true same =
        let s : page ≡ k = grind (arith, nat_tests) in
        subst (λ (j : ℕ). times j (opened ++ page ∷ []) ≤ 1) s (let a = times-append page opened (page ∷ []) in let o = one_is page in omega arith)
    once k false other =
        let a = times-append k opened (page ∷ []) in
        let n : ◌≡◌ {A = ℕ} (if page == k then 1 else 0) 0 = ap (λ (b : Bool). if b then 1 else 0) other in
        let i = course.once k in
        omega arith

-- ---- at its end

abbrev pub begun : (read : Read) (root : ℕ) → Course (nodes_of read) root [] (root ∷ [])
begun read root = record { opened_reached = tt; coming_reached = (at_root, tt); once = λ k. omega arith; named = λ k. omega arith }

ended : (read : Read) (t : Live) (tree : List ℕ) → tree_walk read t ≡ Ok tree → Course (nodes_of read) t.root tree []
ended read t tree is = walked_keeps read (Course (nodes_of read) t.root) (course_step read t.root) (suc t.pages) [] (t.root ∷ []) tree (begun read t.root) is

in_child : (es : List InnerEntry) (e : InnerEntry) → IsIn e es → IsIn e.child (map (λ e. e.child) es)
in_child [] e i = absurd i
in_child (f ∷ es) e i = elim i [ inl s ↦ inl (ap (λ (x : InnerEntry). x.child) s) | inr w ↦ inr (in_child es e w) ]

in_flat : (nodes : Nodes) (tree : List ℕ) (page k : ℕ) → IsIn page tree → IsIn k (in_nodes nodes page) → 1 ≤ times k (named_in nodes tree)
in_flat nodes [] page k i named = absurd i
in_flat nodes (p ∷ tree) page k i named =
    let a = times-append k (in_nodes nodes p) (named_in nodes tree) in
    elim i [
      | inl s ↦
          let t = times_from_in k (in_nodes nodes p) (subst (λ (x : ℕ). IsIn k (in_nodes nodes x)) s named) in
          omega arith
      | inr w ↦ let t = in_flat nodes tree page k w named in omega arith
    ]

module _ (nodes : Nodes) (root : ℕ) (tree : List ℕ) (course : Course nodes root tree []) where
  reached_in : (page : ℕ) → IsReached nodes root page → 1 ≤ times page tree
  reached_in _ at_root = let n = course.named root in let c = counted root (named_in nodes tree) in omega arith
  reached_in _ (by_child page e r i) =
      let above = reached_in page r in
      let f = in_flat nodes tree page e.child (in_from_times page tree above) (in_child (inner_entries (nodes page)) e i) in
      let n = course.named e.child in
      omega arith

pub whole_tree : (read : Read) (t : Live) (tree : List ℕ) → tree_walk read t ≡ Ok tree → AllByRecursion (IsNodePage t) tree → IsWholeTree (nodes_of read) t tree
whole_tree read t tree is within = record {
  reached = λ page. (λ i. all_in (IsReached (nodes_of read) t.root) tree page course.opened_reached i, λ r. in_from_times page tree (reached_in (nodes_of read) t.root tree course page r));
  within = within;
  once = course.once;
  named = λ page. named page (page == t.root) refl;
}
  where
    course : Course (nodes_of read) t.root tree []
    course = ended read t tree is

    named : (page : ℕ) (b : Bool) → (page == t.root) ≡ b → times page (named_in (nodes_of read) tree) ≡ (if b then 0 else times page tree)
    named page true e =
        let s : (t.root == page) ≡ true = grind (arith, nat_tests) in
        let one : ◌≡◌ {A = ℕ} (if t.root == page then 1 else 0) 1 = ap (λ (b : Bool). if b then 1 else 0) s in
        let n = course.named page in
        let o = course.once page in
        omega arith
    named page false e =
        let s : (t.root == page) ≡ false = grind (arith, nat_tests) in
        let none : ◌≡◌ {A = ℕ} (if t.root == page then 1 else 0) 0 = ap (λ (b : Bool). if b then 1 else 0) s in
        let n = course.named page in
        omega arith
