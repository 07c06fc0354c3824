-- The pages that the walk of a log reaches.
use Rattle.std.specs.Prelude.{◌≡◌, ◌⊎◌, ℕ, List, [], ◌∷◌, ◌++◌, Some}
use Rattle.tree_shape.specs.declared.entry.Node.{Node}
use Rattle.tree_shape.specs.Tree.{Nodes}
use Rattle.log_model.specs.declared.marks.Record.{Record}
use Rattle.log_model.specs.Met.{marked_node, near_pages}

-- the walk of the needed pages by the records reaches the page `page`, which it needs and a record names
abbrev pub ComesTo : Nodes → List ℕ → List Record → ℕ → Type 0
ComesTo nodes [] [] page = ⊥
ComesTo nodes [] (r ∷ rs) page = ⊥
ComesTo nodes (p ∷ ps) [] page = ⊥
ComesTo nodes (p ∷ ps) (r ∷ rs) page =
    ((page ≡ p) × (r.page ≡ p)) ⊎ ((node : Node) × (marked_node nodes p r ≡ Some node) × ComesTo nodes (near_pages node r.marks ++ ps) rs page)
