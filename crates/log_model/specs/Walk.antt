-- The walk of a query through a tree, and its marks (VLDB 1997, section 3.2).
use Rattle.std.specs.Prelude.{◌≡◌, ℕ, Bool, true, false, List, [], ◌∷◌, ◌++◌, map, Option, Some, None, IsTrue, if◌then◌else◌, nat_le}
use Rattle.std.specs.List.{AllZip}
use Rattle.metric_laws.specs.Space.{Space}
use Rattle.metric_laws.specs.Pruning.{centre_rules_out, parent_rules_out}
use Rattle.scan_model.specs.declared.hit.Hit.{Hit}
use Rattle.tree_shape.specs.declared.entry.LeafEntry.{LeafEntry}
use Rattle.tree_shape.specs.declared.entry.InnerEntry.{InnerEntry}
use Rattle.tree_shape.specs.declared.entry.Node.{Node}
use Rattle.tree_shape.specs.declared.entry.Node.TheVariants.{Leaf, Inner}
use Rattle.tree_shape.specs.Tree.{Nodes}
use Rattle.log_model.specs.declared.marks.Mark.{Mark}
use Rattle.log_model.specs.declared.marks.Mark.TheVariants.{Skip, Far, Near}
use Rattle.log_model.specs.declared.marks.Record.{Record}
use Rattle.log_model.specs.declared.marks.Need.{Need}

-- what a query searches by: a space, the query's point, and the radius that prunes
pub record Search : Type 0 where
  pub space : Space
  pub point : List ℕ
  pub rho : ℕ

abbrev pub search_at : Space → List ℕ → ℕ → Search
search_at s q rho = record { space = s; point = q; rho = rho }

-- the distance of a point from the query's point
abbrev pub away : Search → List ℕ → ℕ
away f p = f.space.dist p f.point

-- whether the parent test rules out an entry, by the distance of the routing object above from the query's point; it rules out
-- no entry of the root
abbrev pub parent_skips : Option ℕ → ℕ → ℕ → ℕ → Bool
parent_skips None stored rho radius = false
parent_skips (Some above) stored rho radius = parent_rules_out above stored rho radius

abbrev pub is_skipped : Search → Option ℕ → ℕ → ℕ → Bool
is_skipped f above stored radius = parent_skips above stored f.rho radius

-- the marks that an object, whose radius is 0, and a subtree may have
abbrev pub allows_object : Search → Option ℕ → LeafEntry → Mark → Bool
allows_object f above e Skip = is_skipped f above e.parent 0
allows_object f above e Far = centre_rules_out (away f e.point) f.rho 0
allows_object f above e Near = nat_le (away f e.point) f.rho

abbrev pub allows_subtree : Search → Option ℕ → InnerEntry → Mark → Bool
allows_subtree f above e Skip = is_skipped f above e.parent e.radius
allows_subtree f above e Far = centre_rules_out (away f e.point) f.rho e.radius
allows_subtree f above e Near = true

-- a rule says which marks the record of a node may have
abbrev pub Rule : Type 1
Rule = Search → Option ℕ → Node → List Mark → Type 0

-- one mark for each entry, each of them allowed
abbrev pub AreAllowed : Rule
AreAllowed f above (Leaf es) marks = AllZip (λ e m. IsTrue (allows_object f above e m)) es marks
AreAllowed f above (Inner level es) marks = AllZip (λ e m. IsTrue (allows_subtree f above e m)) es marks

-- the least marks: Skip where it is allowed, else Far where it is allowed, else Near
abbrev pub least_for_object : Search → Option ℕ → LeafEntry → Mark
least_for_object f above e = if is_skipped f above e.parent 0 then Skip else (if centre_rules_out (away f e.point) f.rho 0 then Far else Near)

abbrev pub least_for_subtree : Search → Option ℕ → InnerEntry → Mark
least_for_subtree f above e = if is_skipped f above e.parent e.radius then Skip else (if centre_rules_out (away f e.point) f.rho e.radius then Far else Near)

abbrev pub leaf_marks : Search → Option ℕ → List LeafEntry → List Mark
leaf_marks f above es = map (least_for_object f above) es

abbrev pub inner_marks : Search → Option ℕ → List InnerEntry → List Mark
inner_marks f above es = map (least_for_subtree f above) es

abbrev pub least_marks : Search → Option ℕ → Node → List Mark
least_marks f above (Leaf es) = leaf_marks f above es
least_marks f above (Inner level es) = inner_marks f above es

abbrev pub AreLeast : Rule
AreLeast f above node marks = marks ≡ least_marks f above node

-- the entries that are marked Near
abbrev pub near_ones : {X : Type 0} → List X → List Mark → List X
near_ones [] marks = []
near_ones (e ∷ es) [] = []
near_ones (e ∷ es) (Skip ∷ marks) = near_ones es marks
near_ones (e ∷ es) (Far ∷ marks) = near_ones es marks
near_ones (e ∷ es) (Near ∷ marks) = e ∷ near_ones es marks

abbrev pub need_of : Search → InnerEntry → Need
need_of f e = record { page = e.child; above = Some (away f e.point) }

abbrev pub root_need : ℕ → Need
root_need page = record { page = page; above = None }

abbrev pub hit_of : Search → LeafEntry → Hit
hit_of f e = record { id = e.id; dist = away f e.point }

-- the pages that a node's marks need, and the hits that they name
abbrev pub needs_of : Search → Node → List Mark → List Need
needs_of f (Leaf es) marks = []
needs_of f (Inner level es) marks = map (need_of f) (near_ones es marks)

abbrev pub hits_of : Search → Node → List Mark → List Hit
hits_of f (Leaf es) marks = map (hit_of f) (near_ones es marks)
hits_of f (Inner level es) marks = []

-- the pages needed of an inner node, by the least marks
abbrev pub inner_needs : Search → Option ℕ → List InnerEntry → List Need
inner_needs f above es = map (need_of f) (near_ones es (inner_marks f above es))

-- the walk of the needed pages takes exactly these records, in pre-order. Each record names the next needed page, the page holds a
-- node, and the marks keep the rule. The walk names the hits
abbrev pub WalksBy : Rule → Search → Nodes → List Need → List Record → List Hit → Type 0
WalksBy rule f nodes [] [] hits = hits ≡ []
WalksBy rule f nodes [] (r ∷ rs) hits = ⊥
WalksBy rule f nodes (n ∷ ns) [] hits = ⊥
WalksBy rule f nodes (n ∷ ns) (r ∷ rs) hits =
    (node : Node) × (nodes n.page ≡ Some node) × (r.page ≡ n.page) × rule f n.above node r.marks
    × ((rest : List Hit) × WalksBy rule f nodes (needs_of f node r.marks ++ ns) rs rest × (hits ≡ hits_of f node r.marks ++ rest))

-- the record of a node with the least marks
abbrev pub record_of : Search → Need → Node → Record
record_of f n node = record { page = n.page; marks = least_marks f n.above node }

-- the walk of the needed pages took these records, named the hits, and has still to open the pages `left`
abbrev pub ReachesBy : Rule → Search → Nodes → List Need → List Record → List Hit → List Need → Type 0
ReachesBy rule f nodes ns [] hits left = (hits ≡ []) × (left ≡ ns)
ReachesBy rule f nodes [] (r ∷ rs) hits left = ⊥
ReachesBy rule f nodes (n ∷ ns) (r ∷ rs) hits left =
    (node : Node) × (nodes n.page ≡ Some node) × (r.page ≡ n.page) × rule f n.above node r.marks
    × ((rest : List Hit) × ReachesBy rule f nodes (needs_of f node r.marks ++ ns) rs rest left × (hits ≡ hits_of f node r.marks ++ rest))
