-- What workers make of a set's groups, each apart from the others.
use Rattle.std.specs.Prelude.{◌≡◌, ℕ, ◌<◌, List, [], ◌∷◌, map, Option, Some, Result, Ok, Err}
use Rattle.std.specs.List.{AllByRecursion}
use Rattle.std.specs.declared.alloc.AllocError.{AllocError}
use Rattle.tree_shape.specs.declared.entry.InnerEntry.{InnerEntry}
use Rattle.tree_shape.specs.declared.entry.Node.{Node}
use Rattle.tree_shape.specs.declared.entry.Node.TheVariants.{Leaf, Inner}
use Rattle.tree_growth.specs.declared.rules.Group.{Group}
use Rattle.tree_growth.specs.Bulk.{Load}
use Rattle.page_store.specs.Numbers.{number_at}
use Rattle.bulk_load.specs.declared.sharing.Made.{Made}
use Rattle.bulk_load.specs.Postorder.{group_entry, nodes_at}

-- the nodes of a subtree by themselves are numbered from 0
abbrev pub apart : ℕ → ℕ
apart = number_at [] 0

-- a group's entry, but for its child, and the nodes of its subtree, whose root is of level `h`
pub record IsMadeOf (l : Load) (seed : Option ℕ) (h : ℕ) (g : Group) (made : Made) : Type 0 where
  pub entry : made.entry ≡ group_entry l seed g 0
  pub nodes : made.nodes.items ≡ nodes_at l apart h (Some g.seed) g.members 0

-- what is made of each group, in order; or memory ran out
abbrev pub AreMadeOf : Load → Option ℕ → ℕ → List Group → List (Result Made AllocError) → Type 0
AreMadeOf l seed h [] [] = Unit {0}
AreMadeOf l seed h (g ∷ gs) (Ok made ∷ parts) = IsMadeOf l seed h g made × AreMadeOf l seed h gs parts
AreMadeOf l seed h (g ∷ gs) (Err e ∷ parts) = AreMadeOf l seed h gs parts
AreMadeOf l seed h gs parts = ⊥

-- an entry whose child has another number
abbrev pub entry_to : (ℕ → ℕ) → InnerEntry → InnerEntry
entry_to number e = record { child = number e.child; radius = e.radius; parent = e.parent; point = e.point }

-- a node whose children have other numbers
abbrev pub node_to : (ℕ → ℕ) → Node → Node
node_to number (Leaf es) = Leaf es
node_to number (Inner level es) = Inner level (map (entry_to number) es)

-- the children of a node have numbers below n
abbrev pub AreChildrenBelow : ℕ → Node → Type 0
AreChildrenBelow n (Leaf es) = Unit {0}
AreChildrenBelow n (Inner level es) = AllByRecursion (λ e. e.child < n) es
