-- The shape of a tree, node by node.
use Rattle.std.specs.Prelude.{◌≡◌, ℕ, zero, suc, ◌+◌, ◌≤◌, List, [], ◌∷◌, ◌++◌, map, length, Option, Some, None, IsTrue}
use Rattle.std.specs.List.{AllByRecursion, flat_map}
use Rattle.metric_laws.specs.Space.{Space}
use Rattle.tree_shape.specs.declared.live.Live.{Live}
use Rattle.tree_shape.specs.declared.entry.InnerEntry.{InnerEntry}
use Rattle.tree_shape.specs.declared.entry.Node.{Node}
use Rattle.tree_shape.specs.declared.entry.Node.TheVariants.{Leaf, Inner}
use Rattle.tree_shape.specs.Tree.{Nodes, IsSoundAt, IsSoundTree, inner_entries}
use Rattle.page_store.specs.Reading.{nodes_of}
use Rattle.page_store.specs.Shelf.{Shelf, HoldsSame, IsNodeOf}
use Rattle.metric_laws.specs.Counts.{count_up}
use Rattle.tree_outline.specs.declared.outline.Shape.{Shape}
use Rattle.tree_outline.specs.declared.outline.ShapeLine.{ShapeLine}
use Rattle.tree_outline.specs.declared.outline.Named.{Named}

-- the root, and the node that an entry names
abbrev pub root_named : ℕ → Named
root_named page = record { page = page; centre = None; radius = None }

abbrev pub named_by : InnerEntry → Named
named_by e = record { page = e.child; centre = Some e.point; radius = Some e.radius }

-- the line of a node: its level and the number of its entries, with the routing point and the radius by which it is named
abbrev pub line_of : Named → Node → ShapeLine
line_of n (Leaf es) = record { level = 0; entries = length es; centre = n.centre; radius = n.radius }
line_of n (Inner level es) = record { level = level; entries = length es; centre = n.centre; radius = n.radius }

abbrev pub lines_of : Named → Option Node → List ShapeLine
lines_of n None = []
lines_of n (Some node) = line_of n node ∷ []

-- the lines of the subtree of a node, in pre-order, as deep as the height
abbrev pub lines_at : Nodes → ℕ → Named → List ShapeLine
lines_at nodes zero n = lines_of n (nodes n.page)
lines_at nodes (suc h) n = lines_of n (nodes n.page) ++ flat_map (λ e. lines_at nodes h (named_by e)) (inner_entries (nodes n.page))

-- the lines of the live tree
abbrev pub tree_lines : Nodes → Live → List ShapeLine
tree_lines nodes t = lines_at nodes t.height (root_named t.root)

-- The walk by child numbers, as the lines that it draws: it has drawn the lines, and still has to open the nodes listed last. The
-- pages that it opened make a walk of page_store (`Tours`).
abbrev pub DrawsTo : Nodes → List Named → List ShapeLine → List Named → Type 0
DrawsTo nodes ns [] left = left ≡ ns
DrawsTo nodes [] (l ∷ ls) left = ⊥
DrawsTo nodes (n ∷ ns) (l ∷ ls) left =
    (node : Node) × (nodes n.page ≡ Some node) × (l ≡ line_of n node) × DrawsTo nodes (map named_by (inner_entries (Some node)) ++ ns) ls left

-- what a shape says besides its lines
pub record IsCounted (t : Live) (shape : Shape) : Type 0 where
  pub height : shape.height ≡ t.height
  pub objects : shape.objects ≡ t.count
  pub nodes : shape.nodes ≡ length shape.lines
  pub few : length shape.lines ≤ t.pages

-- ---- the walk

-- a node was opened: its line stands last, and the nodes that it names come next
pub record IsDrawn (shelf : Shelf) (n : Named) (old_lines lines : List ShapeLine) (old_coming coming : List Named) : Type 0 where
  pub node : Node
  pub is : IsNodeOf shelf n.page node
  pub line : lines ≡ old_lines ++ line_of n node ∷ []
  pub named : coming ≡ map named_by (inner_entries (Some node)) ++ old_coming

-- a node that is still to come, in a sound tree
pub record Spot : Type 0 where
  pub named : Named
  pub height : ℕ
  pub least : ℕ
  pub above : Option (List ℕ)

abbrev pub IsSoundSpot : Space → Nodes → Spot → Type 0
IsSoundSpot s nodes p = IsSoundAt s nodes p.height p.least p.above p.named.page

-- the lines so far and those of the subtrees that are still to come are those of the tree
pub record AreFront (s : Space) (nodes : Nodes) (t : Live) (lines : List ShapeLine) (coming : List Named) : Type 0 where
  pub spots : List Spot
  pub sound : AllByRecursion (IsSoundSpot s nodes) spots
  pub are : coming ≡ map (λ p. p.named) spots
  pub whole : lines ++ flat_map (λ p. lines_at nodes p.height p.named) spots ≡ tree_lines nodes t

-- A walk has opened a page for each line, and the nodes `coming` are still to come.
pub record IsDrawing (old now : Shelf) (t : Live) (lines : List ShapeLine) (coming : List Named) : Type 0 where
  pub same : HoldsSame old now
  pub asked : now.asked ≡ count_up old.asked (length lines)
  pub reads : now.reads ≤ old.reads + length lines
  pub walk : IsTrue old.is_known → DrawsTo (nodes_of old.read) (root_named t.root ∷ []) lines coming
  pub front : IsTrue old.is_known → (s : Space) → IsSoundTree s (nodes_of old.read) t → AreFront s (nodes_of old.read) t lines coming
