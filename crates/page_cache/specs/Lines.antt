-- A direct-mapped cache: each page has one line, and a line holds the node of one page.
use Rattle.std.specs.Prelude.{◌≡◌, ◌⊎◌, ℕ, ◌%◌, if◌then◌else◌, nat_eq, List, length, slice_index_or, slice_set, Option, Some, None, All, IfSome}
use Rattle.tree_shape.specs.declared.entry.Node.{Node}
use Rattle.page_store.specs.Shelf.{Shelf, IsNodeOf}

-- the lines of a cache; a line in use holds a page and its node
abbrev pub Lines : Type 0
Lines = List (Option (ℕ × Node))

-- the number of a page's line
abbrev pub line_of : Lines → ℕ → ℕ
line_of lines page = page % length lines

-- the node that a line holds for a page, if it does
abbrev pub node_on_line : ℕ → Option (ℕ × Node) → Option Node
node_on_line page None = None
node_on_line page (Some held) = if nat_eq page held.0 then Some held.1 else None

-- the node that the cache holds for a page, if it does
abbrev pub held_node : Lines → ℕ → Option Node
held_node lines page = node_on_line page (slice_index_or lines (line_of lines page) None)

-- the lines after a page was read: its line holds its node
abbrev pub holding : Lines → ℕ → Node → Lines
holding lines page node = slice_set lines (line_of lines page) (Some (page, node))

-- a page was asked for; a page that was not held may also stay so
abbrev pub IsAskedFor : Lines → Lines → ℕ → Node → Type 0
IsAskedFor old new page node = (new ≡ holding old page node) ⊎ (new ≡ old)

-- each held node is one that its page can hold; where the pages tell what they hold, it is the page's
abbrev pub LinesAgree : Lines → Shelf → Type 0
LinesAgree lines shelf = All (λ line. IfSome line (λ held. IsNodeOf shelf held.0 held.1)) lines
