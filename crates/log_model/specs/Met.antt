-- The objects that the walk of a log meets, and the pages that it reaches.
use Rattle.std.specs.Prelude.{ℕ, List, [], ◌∷◌, ◌++◌, map, length, Option, Some, None, if◌then◌else◌, ◌==◌}
use Rattle.metric_laws.specs.Space.{Space}
use Rattle.scan_model.specs.declared.hit.Hit.{Hit}
use Rattle.tree_shape.specs.declared.entry.LeafEntry.{LeafEntry}
use Rattle.tree_shape.specs.declared.entry.Node.{Node}
use Rattle.tree_shape.specs.declared.entry.Node.TheVariants.{Leaf, Inner}
use Rattle.tree_shape.specs.Tree.{Nodes}
use Rattle.log_model.specs.declared.marks.Mark.{Mark}
use Rattle.log_model.specs.declared.marks.Record.{Record}
use Rattle.log_model.specs.declared.tagged.TaggedHit.{TaggedHit}
use Rattle.log_model.specs.Counts.{entry_count}
use Rattle.log_model.specs.Walk.{Search, near_ones, leaf_marks}

-- the objects of a leaf that are marked Near, and the pages of an inner node's subtrees that are marked Near
abbrev pub near_objects : Node → List Mark → List LeafEntry
near_objects (Leaf es) marks = near_ones es marks
near_objects (Inner level es) marks = []

abbrev pub near_pages : Node → List Mark → List ℕ
near_pages (Leaf es) marks = []
near_pages (Inner level es) marks = map (λ e. e.child) (near_ones es marks)

-- the node, where it has one entry for each mark
abbrev pub with_marks : List Mark → Option Node → Option Node
with_marks marks None = None
with_marks marks (Some node) = if length marks == entry_count node then Some node else None

-- the node of the needed page, where the record names this page and has one mark for each of the node's entries
abbrev pub marked_node : Nodes → ℕ → Record → Option Node
marked_node nodes page r = if r.page == page then with_marks r.marks (nodes page) else None

abbrev pub met_from : Option Node → (Node → List LeafEntry) → List LeafEntry
met_from None rest = []
met_from (Some node) rest = rest node

-- the objects that the walk of the needed pages by the records meets: those that are marked Near, in the walk's order. It ends where
-- no page is needed or no record is left, and at the first record that doesn't mark the node of the next needed page
abbrev pub met : Nodes → List ℕ → List Record → List LeafEntry
met nodes [] [] = []
met nodes [] (r ∷ rs) = []
met nodes (p ∷ ps) [] = []
met nodes (p ∷ ps) (r ∷ rs) = met_from (marked_node nodes p r) (λ node. near_objects node r.marks ++ met nodes (near_pages node r.marks ++ ps) rs)

-- an object as a hit of a query at a point, with its tag
abbrev pub tagged_of : Space → List ℕ → LeafEntry → TaggedHit
tagged_of s q e = record { hit = record { id = e.id; dist = s.dist e.point q }; tag = e.tag }

abbrev pub hits_among : List TaggedHit → List Hit
hits_among tagged = map (λ t. t.hit) tagged

-- the objects of a leaf that the least marks name
abbrev pub leaf_tagged : Search → Option ℕ → List LeafEntry → List TaggedHit
leaf_tagged f above es = map (tagged_of f.space f.point) (near_ones es (leaf_marks f above es))

-- what the walk from the root by the records meets, as hits with their tags
abbrev pub tagged_by : Space → List ℕ → Nodes → ℕ → List Record → List TaggedHit
tagged_by s q nodes root records = map (tagged_of s q) (met nodes (root ∷ []) records)
