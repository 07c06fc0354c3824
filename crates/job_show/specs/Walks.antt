-- The walk of a log, as its lines: the nodes that were opened, in pre-order, and the reason of each mark.
use Rattle.std.specs.Prelude.{ℕ, zero, suc, ◌+◌, List, [], ◌∷◌, ◌++◌, length, map, codes, decimal, Option, Some, None, Result, Ok, Err, if◌then◌else◌, ◌==◌}
use Rattle.std.specs.Option.{is_none}
use Rattle.fault_lines.specs.Lines.{numbered}
use Rattle.rows_text.specs.Texts.{line_end, space}
use Rattle.tree_shape.specs.declared.entry.LeafEntry.{LeafEntry}
use Rattle.tree_shape.specs.declared.entry.InnerEntry.{InnerEntry}
use Rattle.tree_shape.specs.declared.entry.Node.{Node}
use Rattle.tree_shape.specs.declared.entry.Node.TheVariants.{Leaf, Inner}
use Rattle.page_store.specs.declared.pages.PageFault.{PageFault}
use Rattle.page_store.specs.Reading.{Read}
use Rattle.log_model.specs.declared.marks.Mark.{Mark}
use Rattle.log_model.specs.declared.marks.Mark.TheVariants.{Skip, Far, Near}
use Rattle.log_model.specs.declared.marks.Record.{Record}
use Rattle.log_model.specs.Counts.{entry_count}
use Rattle.log_model.specs.Walk.{Search, near_ones, need_of, root_need}
use Rattle.log_verify.specs.Judged.{first_wrong_in}
use Rattle.job_show.specs.declared.shown.Coming.{Coming}
use Rattle.job_show.specs.declared.shown.Counts.{Counts}
use Rattle.job_show.specs.Reasons.{object_reason, subtree_reason}

-- two blanks for each step below the root
abbrev pub indent : ℕ → List ℕ
indent zero = []
indent (suc depth) = codes "  " ++ indent depth

-- `node PAGE level LEVEL`
abbrev pub node_line : ℕ → ℕ → ℕ → List ℕ
node_line depth page level = indent depth ++ numbered (codes "node ") page ++ numbered (codes " level ") level ++ line_end

-- `PLACE object ID REASON`, `PLACE child PAGE REASON`
abbrev pub entry_line : ℕ → ℕ → List ℕ → ℕ → List ℕ → List ℕ
entry_line depth place word number reason = indent depth ++ decimal place ++ numbered word number ++ space ++ reason ++ line_end

abbrev pub object_line : Search → Coming → ℕ → LeafEntry → Mark → List ℕ
object_line f c place e mark = entry_line (c.depth + 1) place (codes " object ") e.id (object_reason f c.need.above e mark)

abbrev pub subtree_line : Search → Coming → ℕ → InnerEntry → Mark → List ℕ
subtree_line f c place e mark = entry_line (c.depth + 1) place (codes " child ") e.child (subtree_reason f c.need.above e mark)

-- a line for each entry with its mark, where the first has the place `place`
abbrev pub marked_lines : {X : Type 0} → (ℕ → X → Mark → List ℕ) → ℕ → List X → List Mark → List ℕ
marked_lines line place [] marks = []
marked_lines line place (e ∷ es) [] = []
marked_lines line place (e ∷ es) (m ∷ marks) = line place e m ++ marked_lines line (place + 1) es marks

-- the lines of an opened node
abbrev pub node_lines : Search → Coming → Node → List Mark → List ℕ
node_lines f c (Leaf es) marks = node_line c.depth c.need.page 0 ++ marked_lines (object_line f c) 0 es marks
node_lines f c (Inner level es) marks = node_line c.depth c.need.page level ++ marked_lines (subtree_line f c) 0 es marks

-- how often a mark stands in a list
abbrev pub skips_in : List Mark → ℕ
skips_in [] = 0
skips_in (Skip ∷ marks) = suc (skips_in marks)
skips_in (Far ∷ marks) = skips_in marks
skips_in (Near ∷ marks) = skips_in marks

abbrev pub fars_in : List Mark → ℕ
fars_in [] = 0
fars_in (Skip ∷ marks) = fars_in marks
fars_in (Far ∷ marks) = suc (fars_in marks)
fars_in (Near ∷ marks) = fars_in marks

abbrev pub nears_in : List Mark → ℕ
nears_in [] = 0
nears_in (Skip ∷ marks) = nears_in marks
nears_in (Far ∷ marks) = nears_in marks
nears_in (Near ∷ marks) = suc (nears_in marks)

-- what is shown of a walk: its lines, the number of opened nodes, and how often each mark stands there
pub record Shown : Type 0 where
  pub lines : List ℕ
  pub counts : Counts

abbrev pub none_counted : Counts
none_counted = record { opened = 0; skips = 0; fars = 0; nears = 0 }

abbrev pub nothing_shown : Shown
nothing_shown = record { lines = []; counts = none_counted }

-- the marks of one node more
abbrev pub with_marks : List Mark → Counts → Counts
with_marks marks counts = record {
  opened = suc counts.opened;
  skips = skips_in marks + counts.skips;
  fars = fars_in marks + counts.fars;
  nears = nears_in marks + counts.nears;
}

-- a node, and then the rest of the walk
abbrev pub node_then : List ℕ → List Mark → Shown → Shown
node_then lines marks rest = record { lines = lines ++ rest.lines; counts = with_marks marks rest.counts }

abbrev pub root_coming : ℕ → Coming
root_coming page = record { need = root_need page; depth = 0 }

-- a page that a subtree marked Near needs, one step deeper
abbrev pub coming_of : Search → Coming → InnerEntry → Coming
coming_of f c e = record { need = need_of f e; depth = c.depth + 1 }

abbrev pub comings_of : Search → Coming → List InnerEntry → List Mark → List Coming
comings_of f c es marks = map (coming_of f c) (near_ones es marks)

-- the pages that a node's marks need
abbrev pub coming_from : Search → Coming → Node → List Mark → List Coming
coming_from f c (Leaf es) marks = []
coming_from f c (Inner level es) marks = comings_of f c es marks

-- the node with which a record agrees: there is one mark for each entry
abbrev pub node_marked : List Mark → Result Node PageFault → Option Node
node_marked marks (Err fault) = None
node_marked marks (Ok node) = if length marks == entry_count node then Some node else None

-- the node of a needed page, where the record names the page and agrees with its node
abbrev pub node_told : Read → ℕ → Record → Option Node
node_told read page r = if r.page == page then node_marked r.marks (read page) else None

-- a record's node and the rest of the walk, which goes on where each mark is allowed
abbrev pub shown_on : Search → Coming → List Mark → Option Node → (Node → Shown) → Shown
shown_on f c marks None rest = nothing_shown
shown_on f c marks (Some node) rest =
    node_then (node_lines f c node marks) marks (if is_none (first_wrong_in f c.need.above node marks) then rest node else nothing_shown)

-- What is shown of the records of a log, as far as they lead: each names the next page that is needed, the page holds a node, and there
-- is one mark for each entry. A node with a mark that is not allowed is the last.
abbrev pub shown : Search → Read → List Coming → List Record → Shown
shown f read [] rs = nothing_shown
shown f read (c ∷ cs) [] = nothing_shown
shown f read (c ∷ cs) (r ∷ rs) =
    shown_on f c r.marks (node_told read c.need.page r) (λ node. shown f read (coming_from f c node r.marks ++ cs) rs)
