-- What a descent over told pages makes: the rules' tree, its new subtrees in order, and their number.
use Rattle.std.proofs.Common.{◌≡◌, ℕ, zero, suc, ◌+◌, ◌<◌, Bool, true, false, not, List, [], ◌∷◌, ◌++◌, refl, sym, ap, ◌∙◌, arith, length, map, get_or, inl, inr, append_assoc, length-append}
use Rattle.std.specs.Prelude.{Option, Some, None, Ok, IsTrue, nat_le, if◌then◌else◌, ◌==◌}
use Rattle.std.proofs.lemmas.Bool.Decides.{nat_tests}
use Rattle.metric_laws.proofs.Published.{length_map}
use Rattle.tree_shape.specs.declared.entry.InnerEntry.{InnerEntry}
use Rattle.tree_shape.specs.declared.entry.Node.{Node}
use Rattle.tree_shape.specs.declared.entry.Node.TheVariants.{Leaf, Inner}
use Rattle.tree_shape.specs.Tree.{Nodes, leaf_entries, inner_entries, pages_at, parent_distance}
use Rattle.tree_shape.specs.Plain.{Branch, Plain, Tall, object_of, tree_at}
use Rattle.tree_growth.specs.Dealing.{Ball}
use Rattle.tree_growth.specs.Insertion.{Rules, Grown, One as Whole, Two as Halves2, fit, object_ball, branch_ball, with_grown, grown_at, inserted, chosen}
use Rattle.tree_shape.proofs.Published.{Agree}
use Rattle.page_store.specs.declared.pages.PageFault.TheVariants.{Level}
use Rattle.page_store.specs.Shelf.{Shelf}
use Rattle.page_store.specs.Reading.{nodes_of, node_or_none}
use Rattle.page_store.proofs.Published.{branch_at, HoldsFrom, trees_from, trees_more}
use Rattle.insert_path.specs.declared.grew.Grew.{Grew}
use Rattle.insert_path.specs.declared.grew.Grew.TheVariants.{One, Two}
use Rattle.insert_path.specs.Walk.{inner_ball, chosen_child, walk_fault, leaf_fault, inner_fault}
use Rattle.insert_path.specs.Placing.{walk_pages, is_split, parts, fresh_in, fresh}
use Rattle.insert_path.specs.Descent.{Plan, rules_of, leaf_ball, leaf_with, inner_with, new_entry, entry_of, regrown, is_two, IsStaged, Descends}
use Rattle.insert_path.proofs.Level.{child_page}
use Rattle.insert_path.proofs.Holding.{grown_tree, holds_staged, inner_balls, leaf_shown, inner_shown, regrown_shown, tree_same, map_more, agree_below, chosen_in}
use Rattle.page_store.specs.Placing.{level_of}

-- a descent's nodes stand behind the earlier ones
pub holds_descends : (P : Plan) (shelf : Shelf) (file : Nodes) (h page : ℕ) (above : Option (List ℕ)) (l0 : List ℕ) (old : List Node) (l1 : List ℕ) (new : List Node) (g : Grew) →
    Descends P shelf h page above l0 old l1 new g → HoldsFrom file P.number 0 new → HoldsFrom file P.number 0 old
holds_descends P shelf file zero page above l0 old l1 new g d holds = holds_staged P leaf_ball leaf_with Leaf _ file old new g d.3 holds
holds_descends P shelf file (suc h) page above l0 old l1 new g d holds =
    holds_descends P shelf file h d.1.child (Some d.1.point) (l0 ++ page ∷ []) old l1 d.2 d.3 d.7 (holds_staged P inner_ball inner_with (Inner (suc h)) _ file d.2 new g d.8 holds)

-- the node of a page that tells
pub told_node : (shelf : Shelf) (page : ℕ) (node : Node) → shelf.read page ≡ Ok node → nodes_of shelf.read page ≡ Some node
told_node shelf page node is = ap node_or_none is

-- the node that has grown is the rules' of the old one
pub descends_shown : (P : Plan) (shelf : Shelf) (new : Nodes) → IsTrue shelf.is_known → (h page : ℕ) (above : Option (List ℕ)) (l0 : List ℕ) (old : List Node) (l1 : List ℕ) (nodes : List Node) (g : Grew) →
    Descends P shelf h page above l0 old l1 nodes g → HoldsFrom new P.number 0 nodes → Agree (nodes_of shelf.read) new (pages_at (nodes_of shelf.read) h page) →
    grown_tree new h g ≡ inserted (rules_of P) P.object h (tree_at (nodes_of shelf.read) h page)
descends_shown P shelf new is_known zero page above l0 old l1 nodes g d holds agree =
    leaf_shown P new (d.0 ++ new_entry P above ∷ []) old nodes g d.3 holds
    ∙ ap (fit (rules_of P) object_ball) (map_more object_of d.0 (new_entry P above))
    ∙ ap (λ (p : Option Node). inserted (rules_of P) P.object zero (map object_of (leaf_entries p))) (sym (told_node shelf page (Leaf d.0) (d.1.told is_known)))
descends_shown P shelf new is_known (suc h) page above l0 old l1 nodes g d holds agree =
    inner_shown P new h (suc h) (regrown (P.space.dist P.object.point) (parent_distance P.space above) (chosen P.space (map inner_ball d.0) P.object.point) d.3 d.0) d.2 nodes g d.8 holds
    ∙ ap (fit (rules_of P) branch_ball)
    (regrown_shown (nodes_of shelf.read) new h (inserted (rules_of P) P.object h) (P.space.dist P.object.point) (parent_distance P.space above) d.3 (chosen P.space (map inner_ball d.0) P.object.point) d.0 d.1 d.5
    (descends_shown P shelf new is_known h d.1.child (Some d.1.point) (l0 ++ page ∷ []) old l1 d.2 d.3 d.7 (holds_staged P inner_ball inner_with (Inner (suc h)) _ new d.2 nodes g d.8 holds)
    (agree_below (nodes_of shelf.read) new h page (suc h) d.0 d.1 is agree (chosen_in d.0 (chosen P.space (map inner_ball d.0) P.object.point) d.1 d.5 d.6))
    ∙ ap (λ (e : InnerEntry). inserted (rules_of P) P.object h (tree_at (nodes_of shelf.read) h e.child)) d.6)
    (λ e k. tree_same (nodes_of shelf.read) new h e.child (agree_below (nodes_of shelf.read) new h page (suc h) d.0 e is agree k))
    ∙ ap (λ (i : ℕ). grown_at (inserted (rules_of P) P.object h) (P.space.dist P.object.point) i (map (branch_at (nodes_of shelf.read) h) d.0))
    (ap (λ bs. chosen P.space bs P.object.point) (sym (inner_balls (nodes_of shelf.read) h d.0))))
    ∙ ap (λ (p : Option Node). inserted (rules_of P) P.object (suc h) (map (branch_at (nodes_of shelf.read) h) (inner_entries p))) (sym is)
  where
    is : nodes_of shelf.read page ≡ Some (Inner (suc h) d.0)
    is = told_node shelf page (Inner (suc h) d.0) (d.4.told is_known)

abbrev pub tall_at : Nodes → ℕ → ℕ → Tall
tall_at file page k = record { height = k; tree = tree_at file k page }

-- a staged node's trees are its parts
pub trees_staged : {E : Type 0} (P : Plan) (ball : E → Ball) (set : E → ℕ → E) (make : List E → Node) (es : List E) (file : Nodes) (h : ℕ) (old new : List Node) (g : Grew) → ((xs : List E) → level_of (make xs) ≡ h) →
    IsStaged P ball set make es old new g → trees_from file P.number 0 new ≡ trees_from file P.number 0 old ++ parts h (grown_tree file h g)
trees_staged P ball set make es file h old new g levels staged = elim staged [
  | inl w ↦ trees_more file P.number old (make es ∷ []) new w.staged
      ∙ ap (λ (x : Tall). trees_from file P.number 0 old ++ x ∷ []) (ap (tall_at file (P.number (length old))) (levels es))
      ∙ ap (λ (g : Grew). trees_from file P.number 0 old ++ parts h (grown_tree file h g)) (sym w.grew)
  | inr k ↦ trees_more file P.number old (make k.0.first.entries ∷ make k.0.second.entries ∷ []) new k.1.staged
      ∙ ap (λ (x : Tall). trees_from file P.number 0 old ++ x ∷ tall_at file (P.number (length old + 1)) (level_of (make k.0.second.entries)) ∷ []) (ap (tall_at file (P.number (length old))) (levels k.0.first.entries))
      ∙ ap (λ (x : Tall). trees_from file P.number 0 old ++ tall_at file (P.number (length old)) h ∷ x ∷ []) (ap (tall_at file (P.number (length old + 1))) (levels k.0.second.entries))
      ∙ ap (λ (g : Grew). trees_from file P.number 0 old ++ parts h (grown_tree file h g)) (sym k.1.grew)
]

-- the subtree at a place
pub fresh_at : (file : Nodes) (h : ℕ) (f : Plain h → List Tall) (i : ℕ) (es : List InnerEntry) (z : InnerEntry) → i < length es → fresh_in f i (map (branch_at file h) es) ≡ f (tree_at file h (get_or es i z).child)
fresh_at file h f i [] z low = absurd (omega arith)
fresh_at file h f zero (e ∷ es) z low = refl
fresh_at file h f (suc i) (e ∷ es) z low = fresh_at file h f i es z (omega arith)

-- the new subtrees of a level, where those below are known
pub fresh_level : (P : Plan) (file : Nodes) (h : ℕ) (es : List InnerEntry) (c : InnerEntry) → chosen P.space (map inner_ball es) P.object.point < length es → c ≡ get_or es (chosen P.space (map inner_ball es) P.object.point) c →
    fresh_in (fresh (rules_of P) P.object h) (chosen P.space (map branch_ball (map (branch_at file h) es)) P.object.point) (map (branch_at file h) es) ≡ fresh (rules_of P) P.object h (tree_at file h c.child)
fresh_level P file h es c low is =
    ap (λ (bs : List Ball). fresh_in (fresh (rules_of P) P.object h) (chosen P.space bs P.object.point) (map (branch_at file h) es)) (inner_balls file h es)
    ∙ fresh_at file h (fresh (rules_of P) P.object h) (chosen P.space (map inner_ball es) P.object.point) es c low
    ∙ ap (λ (e : InnerEntry). fresh (rules_of P) P.object h (tree_at file h e.child)) (sym is)

-- the staged nodes are the roots of the new subtrees, from the leaf upward
pub descends_fresh : (P : Plan) (shelf : Shelf) (new : Nodes) → IsTrue shelf.is_known → (h page : ℕ) (above : Option (List ℕ)) (l0 : List ℕ) (old : List Node) (l1 : List ℕ) (nodes : List Node) (g : Grew) →
    Descends P shelf h page above l0 old l1 nodes g → HoldsFrom new P.number 0 nodes → Agree (nodes_of shelf.read) new (pages_at (nodes_of shelf.read) h page) →
    trees_from new P.number 0 nodes ≡ trees_from new P.number 0 old ++ fresh (rules_of P) P.object h (tree_at (nodes_of shelf.read) h page)
descends_fresh P shelf new is_known zero page above l0 old l1 nodes g d holds agree =
    trees_staged P leaf_ball leaf_with Leaf (d.0 ++ new_entry P above ∷ []) new zero old nodes g (λ xs. refl) d.3
    ∙ ap (λ (t : Grown (Plain zero)). trees_from new P.number 0 old ++ parts zero t) (descends_shown P shelf new is_known zero page above l0 old l1 nodes g d holds agree)
descends_fresh P shelf new is_known (suc h) page above l0 old l1 nodes g d holds agree =
    trees_staged P inner_ball inner_with (Inner (suc h)) _ new (suc h) d.2 nodes g (λ xs. refl) d.8
    ∙ ap (λ (r : List Tall). r ++ parts (suc h) (grown_tree new (suc h) g)) (descends_fresh P shelf new is_known h d.1.child (Some d.1.point) (l0 ++ page ∷ []) old l1 d.2 d.3 d.7 (holds_staged P inner_ball inner_with (Inner (suc h)) _ new d.2 nodes g d.8 holds)
    (agree_below (nodes_of shelf.read) new h page (suc h) d.0 d.1 is agree (chosen_in d.0 (chosen P.space (map inner_ball d.0) P.object.point) d.1 d.5 d.6)))
    ∙ ap (λ (t : Grown (Plain (suc h))). (trees_from new P.number 0 old ++ fresh (rules_of P) P.object h (tree_at (nodes_of shelf.read) h d.1.child)) ++ parts (suc h) t) (descends_shown P shelf new is_known (suc h) page above l0 old l1 nodes g d holds agree)
    ∙ append_assoc (trees_from new P.number 0 old) (fresh (rules_of P) P.object h (tree_at (nodes_of shelf.read) h d.1.child)) (parts (suc h) (inserted (rules_of P) P.object (suc h) (tree_at (nodes_of shelf.read) (suc h) page)))
    ∙ ap (λ (r : List Tall). trees_from new P.number 0 old ++ (r ++ parts (suc h) (inserted (rules_of P) P.object (suc h) (tree_at (nodes_of shelf.read) (suc h) page))))
    (sym (fresh_level P (nodes_of shelf.read) h d.0 d.1 d.5 d.6)
    ∙ ap (λ (p : Option Node). fresh_in (fresh (rules_of P) P.object h) (chosen P.space (map branch_ball (map (branch_at (nodes_of shelf.read) h) (inner_entries p))) P.object.point) (map (branch_at (nodes_of shelf.read) h) (inner_entries p))) (sym is))
  where
    is : nodes_of shelf.read page ≡ Some (Inner (suc h) d.0)
    is = told_node shelf page (Inner (suc h) d.0) (d.4.told is_known)

-- how many nodes a node makes, and whether it has grown to two
abbrev pub nodes_for : Bool → ℕ
nodes_for b = if b then 2 else 1

abbrev pub one_more : Bool → ℕ
one_more b = if b then 1 else 0

pub fit_parity : {X : Type 0} (R : Rules) (ball : X → Ball) (xs : List X) → is_split (fit R ball xs) ≡ not (nat_le (length xs) R.most)
fit_parity {X} R ball xs = cases (nat_le (length xs) R.most) _ _
  where
    cases : (b : Bool) (c d : Branch (List X)) → is_split (if b then Whole xs else Halves2 c d) ≡ not b
    cases true c d = refl
    cases false c d = refl

pub staged_parity : {E : Type 0} (P : Plan) (ball : E → Ball) (set : E → ℕ → E) (make : List E → Node) (es : List E) (old new : List Node) (g : Grew) →
    IsStaged P ball set make es old new g → (is_two g ≡ not (nat_le (length es) P.most)) × (length new ≡ length old + nodes_for (is_two g))
staged_parity P ball set make es old new g staged = elim staged [
  | inl w ↦ (
    let few = w.few in ap is_two w.grew ∙ (let e : nat_le (length es) P.most ≡ true = grind (arith, nat_tests) in rw e refl),
    rw w.grew (ap length w.staged ∙ length-append old (make es ∷ [])),
  )
  | inr k ↦ (
    let many = k.1.many in ap is_two k.1.grew ∙ (let e : nat_le (length es) P.most ≡ false = grind (arith, nat_tests) in rw e refl),
    rw k.1.grew (ap length k.1.staged ∙ length-append old (make k.0.first.entries ∷ make k.0.second.entries ∷ [])),
  )
]

pub regrown_long : (far par : List ℕ → ℕ) (i : ℕ) (g : Grew) (es : List InnerEntry) → i < length es → length (regrown far par i g es) ≡ length es + one_more (is_two g)
regrown_long far par i g [] low = absurd (omega arith)
regrown_long far par zero (One page) (e ∷ es) low = omega arith
regrown_long far par zero (Two c d) (e ∷ es) low = omega (arith, length-append es (entry_of par d ∷ []))
regrown_long far par (suc i) g (e ∷ es) low = let ih = regrown_long far par i g es (omega arith) in omega (arith, ih)

pub grown_long : (file : Nodes) (h : ℕ) (grow : Plain h → Grown (Plain h)) (far : List ℕ → ℕ) (i : ℕ) (es : List InnerEntry) (z : InnerEntry) → i < length es →
    length (grown_at grow far i (map (branch_at file h) es)) ≡ length es + one_more (is_split (grow (tree_at file h (get_or es i z).child)))
grown_long file h grow far i [] z low = absurd (omega arith)
grown_long file h grow far zero (e ∷ es) z low = cases (grow (tree_at file h e.child))
  where
    n : length (map (branch_at file h) es) ≡ length es
    n = length_map (branch_at file h) es

    cases : (t : Grown (Plain h)) → length (with_grown (far e.point) (branch_at file h e) t (map (branch_at file h) es)) ≡ length (e ∷ es) + one_more (is_split t)
    cases (Whole x) = omega (arith, n)
    cases (Halves2 c d) = omega (arith, n, length-append (map (branch_at file h) es) (d ∷ []))
grown_long file h grow far (suc i) (e ∷ es) z low = let ih = grown_long file h grow far i es z (omega arith) in omega (arith, ih)

-- a node grows to two where the rules say so
pub descends_parity : (P : Plan) (shelf : Shelf) → IsTrue shelf.is_known → (h page : ℕ) (above : Option (List ℕ)) (l0 : List ℕ) (old : List Node) (l1 : List ℕ) (nodes : List Node) (g : Grew) →
    Descends P shelf h page above l0 old l1 nodes g → is_two g ≡ is_split (inserted (rules_of P) P.object h (tree_at (nodes_of shelf.read) h page))
descends_parity P shelf is_known zero page above l0 old l1 nodes g d =
    (staged_parity P leaf_ball leaf_with Leaf (d.0 ++ new_entry P above ∷ []) old nodes g d.3).0
    ∙ ap (λ (k : ℕ). not (nat_le k P.most)) (length-append d.0 (new_entry P above ∷ []) ∙ ap (λ (k : ℕ). k + 1) (sym (length_map object_of d.0)) ∙ sym (length-append (map object_of d.0) (P.object ∷ [])))
    ∙ sym (fit_parity (rules_of P) object_ball (map object_of d.0 ++ P.object ∷ []))
    ∙ ap (λ (p : Option Node). is_split (inserted (rules_of P) P.object zero (map object_of (leaf_entries p)))) (sym (told_node shelf page (Leaf d.0) (d.1.told is_known)))
descends_parity P shelf is_known (suc h) page above l0 old l1 nodes g d =
    (staged_parity P inner_ball inner_with (Inner (suc h)) _ d.2 nodes g d.8).0
    ∙ ap (λ (k : ℕ). not (nat_le k P.most))
    (regrown_long (P.space.dist P.object.point) (parent_distance P.space above) at d.3 d.0 d.5
    ∙ ap (λ (b : Bool). length d.0 + one_more b)
    (descends_parity P shelf is_known h d.1.child (Some d.1.point) (l0 ++ page ∷ []) old l1 d.2 d.3 d.7 ∙ ap (λ (e : InnerEntry). is_split (inserted (rules_of P) P.object h (tree_at (nodes_of shelf.read) h e.child))) d.6)
    ∙ sym (grown_long (nodes_of shelf.read) h (inserted (rules_of P) P.object h) (P.space.dist P.object.point) at d.0 d.1 d.5))
    ∙ sym (fit_parity (rules_of P) branch_ball (grown_at (inserted (rules_of P) P.object h) (P.space.dist P.object.point) at (map (branch_at (nodes_of shelf.read) h) d.0)))
    ∙ ap (λ bs. is_split (fit (rules_of P) branch_ball (grown_at (inserted (rules_of P) P.object h) (P.space.dist P.object.point) (chosen P.space bs P.object.point) (map (branch_at (nodes_of shelf.read) h) d.0)))) (sym (inner_balls (nodes_of shelf.read) h d.0))
    ∙ ap (λ (p : Option Node). is_split (inserted (rules_of P) P.object (suc h) (map (branch_at (nodes_of shelf.read) h) (inner_entries p)))) (sym (told_node shelf page (Inner (suc h) d.0) (d.4.told is_known)))
  where
    at : ℕ
    at = chosen P.space (map inner_ball d.0) P.object.point

pub parts_long : (h : ℕ) (t : Grown (Plain h)) → length (parts h t) ≡ nodes_for (is_split t)
parts_long h (Whole t) = refl
parts_long h (Halves2 c d) = refl

-- as many new nodes as new subtrees
pub descends_long : (P : Plan) (shelf : Shelf) → IsTrue shelf.is_known → (h page : ℕ) (above : Option (List ℕ)) (l0 : List ℕ) (old : List Node) (l1 : List ℕ) (nodes : List Node) (g : Grew) →
    Descends P shelf h page above l0 old l1 nodes g → length nodes ≡ length old + length (fresh (rules_of P) P.object h (tree_at (nodes_of shelf.read) h page))
descends_long P shelf is_known zero page above l0 old l1 nodes g d =
    (staged_parity P leaf_ball leaf_with Leaf (d.0 ++ new_entry P above ∷ []) old nodes g d.3).1
    ∙ ap (λ (b : Bool). length old + nodes_for b) (descends_parity P shelf is_known zero page above l0 old l1 nodes g d)
    ∙ ap (λ (k : ℕ). length old + k) (sym (parts_long zero (inserted (rules_of P) P.object zero (tree_at (nodes_of shelf.read) zero page))))
descends_long P shelf is_known (suc h) page above l0 old l1 nodes g d =
    let ih = descends_long P shelf is_known h d.1.child (Some d.1.point) (l0 ++ page ∷ []) old l1 d.2 d.3 d.7 in
    let more = (staged_parity P inner_ball inner_with (Inner (suc h)) _ d.2 nodes g d.8).1 in
    let same = ap nodes_for (descends_parity P shelf is_known (suc h) page above l0 old l1 nodes g d) ∙ sym (parts_long (suc h) (inserted (rules_of P) P.object (suc h) (tree_at (nodes_of shelf.read) (suc h) page))) in
    let deep : length (fresh_in (fresh (rules_of P) P.object h) (chosen P.space (map branch_ball (tree_at (nodes_of shelf.read) (suc h) page)) P.object.point) (tree_at (nodes_of shelf.read) (suc h) page))
    ≡ length (fresh (rules_of P) P.object h (tree_at (nodes_of shelf.read) h d.1.child)) =
    ap (λ (p : Option Node). length (fresh_in (fresh (rules_of P) P.object h) (chosen P.space (map branch_ball (map (branch_at (nodes_of shelf.read) h) (inner_entries p))) P.object.point) (map (branch_at (nodes_of shelf.read) h) (inner_entries p))))
    (told_node shelf page (Inner (suc h) d.0) (d.4.told is_known))
    ∙ ap length (fresh_level P (nodes_of shelf.read) h d.0 d.1 d.5 d.6) in
    let all = length-append (fresh_in (fresh (rules_of P) P.object h) (chosen P.space (map branch_ball (tree_at (nodes_of shelf.read) (suc h) page)) P.object.point) (tree_at (nodes_of shelf.read) (suc h) page))
    (parts (suc h) (inserted (rules_of P) P.object (suc h) (tree_at (nodes_of shelf.read) (suc h) page))) in
    sums _ _ _ _ _ _ _ _ ih more same deep all
  where
    sums : (old mid new two deep deep' part whole : ℕ) → mid ≡ old + deep → new ≡ mid + two → two ≡ part → deep' ≡ deep → whole ≡ deep' + part → new ≡ old + whole
    sums old mid new two deep deep' part whole a b c d e = omega arith

-- the child that is named is the chosen one
pub named_child : (P : Plan) (es : List InnerEntry) (c : InnerEntry) → chosen P.space (map inner_ball es) P.object.point < length es → c ≡ get_or es (chosen P.space (map inner_ball es) P.object.point) c →
    chosen_child P.space P.object.point es ≡ c.child
named_child P es c low is = child_page es (chosen P.space (map inner_ball es) P.object.point) c low is

-- a walk that came to its end met no fault
pub descends_faultless : (P : Plan) (shelf : Shelf) → IsTrue shelf.is_known → (h page : ℕ) (above : Option (List ℕ)) (l0 : List ℕ) (old : List Node) (l1 : List ℕ) (nodes : List Node) (g : Grew) →
    Descends P shelf h page above l0 old l1 nodes g → walk_fault P.space shelf.read P.object.point h page ≡ None
descends_faultless P shelf is_known zero page above l0 old l1 nodes g d = ap (leaf_fault page) (d.1.told is_known)
descends_faultless P shelf is_known (suc h) page above l0 old l1 nodes g d =
    ap (inner_fault (walk_fault P.space shelf.read P.object.point h) P.space P.object.point (suc h) page) (d.4.told is_known)
    ∙ ap (λ (b : Bool). if b then walk_fault P.space shelf.read P.object.point h (chosen_child P.space P.object.point d.0) else Some (Level page)) (let e : (suc h == suc h) ≡ true = grind (arith, nat_tests) in e)
    ∙ ap (walk_fault P.space shelf.read P.object.point h) (named_child P d.0 d.1 d.5 d.6)
    ∙ descends_faultless P shelf is_known h d.1.child (Some d.1.point) (l0 ++ page ∷ []) old l1 d.2 d.3 d.7

-- the pages that are left are those of the walk
pub descends_left : (P : Plan) (shelf : Shelf) → IsTrue shelf.is_known → (h page : ℕ) (above : Option (List ℕ)) (l0 : List ℕ) (old : List Node) (l1 : List ℕ) (nodes : List Node) (g : Grew) →
    Descends P shelf h page above l0 old l1 nodes g → l1 ≡ l0 ++ walk_pages P.space (nodes_of shelf.read) P.object.point h page
descends_left P shelf is_known zero page above l0 old l1 nodes g d = d.2
descends_left P shelf is_known (suc h) page above l0 old l1 nodes g d =
    descends_left P shelf is_known h d.1.child (Some d.1.point) (l0 ++ page ∷ []) old l1 d.2 d.3 d.7
    ∙ append_assoc l0 (page ∷ []) (walk_pages P.space (nodes_of shelf.read) P.object.point h d.1.child)
    ∙ ap (λ (c : ℕ). l0 ++ (page ∷ walk_pages P.space (nodes_of shelf.read) P.object.point h c)) (sym (named_child P d.0 d.1 d.5 d.6))
    ∙ ap (λ (p : Option Node). l0 ++ (page ∷ walk_pages P.space (nodes_of shelf.read) P.object.point h (chosen_child P.space P.object.point (inner_entries p)))) (sym (told_node shelf page (Inner (suc h) d.0) (d.4.told is_known)))
