-- The walk of a join's log, as its lines: the nodes that were opened, each beside the other item, and the reason of each mark.
use Rattle.std.specs.Prelude.{ℕ, ◌+◌, List, [], ◌∷◌, ◌++◌, map, codes, decimal, Option, Some, None, if◌then◌else◌}
use Rattle.std.specs.Option.{is_none}
use Rattle.fault_lines.specs.Lines.{numbered}
use Rattle.rows_text.specs.Texts.{line_end, space}
use Rattle.tree_shape.specs.declared.entry.Node.{Node}
use Rattle.tree_shape.specs.declared.entry.Node.TheVariants.{Leaf, Inner}
use Rattle.page_store.specs.Reading.{Read}
use Rattle.log_model.specs.declared.marks.Mark.{Mark}
use Rattle.log_model.specs.declared.marks.JoinRecord.{JoinRecord}
use Rattle.log_model.specs.declared.pairs.JoinNeed.{JoinNeed}
use Rattle.log_model.specs.Items.{Item, Subtree, Object}
use Rattle.log_model.specs.JoinWalk.{Entry, JoinSearch, centre_of, entries_of, join_needs, opened, opens_right, other, page_of}
use Rattle.log_verify.specs.JoinJudged.{is_of, join_wrong_in, read_of}
use Rattle.job_join.specs.Lines.{side_name}
use Rattle.job_show.specs.declared.shown.Counts.{Counts}
use Rattle.job_show.specs.Walks.{indent, marked_lines, node_marked, none_counted, with_marks}
use Rattle.job_show.specs.Frames.{distances}
use Rattle.job_show_joins.specs.declared.shown.PairComing.{PairComing}
use Rattle.job_show_joins.specs.Reasons.{pair_reason}

-- `node PAGE`, or `object ID`
abbrev pub item_name : Item → List ℕ
item_name (Subtree page rank centre radius) = numbered (codes "node ") page
item_name (Object id point) = numbered (codes "object ") id

abbrev pub level_of : Node → ℕ
level_of (Leaf es) = 0
level_of (Inner level es) = level

-- `left node PAGE level LEVEL with node PAGE`
abbrev pub pair_line : PairComing → ℕ → List ℕ
pair_line c level =
    indent c.depth ++ side_name (opens_right c.need) ++ numbered (codes " node ") (page_of (opened c.need))
    ++ numbered (codes " level ") level ++ codes " with " ++ item_name (other c.need) ++ line_end

-- ` child PAGE`, or ` object ID`
abbrev pub entry_name : Item → List ℕ
entry_name (Subtree page rank centre radius) = numbered (codes " child ") page
entry_name (Object id point) = numbered (codes " object ") id

-- `PLACE child PAGE REASON`, `PLACE object ID REASON`
abbrev pub pair_entry_line : JoinSearch → PairComing → ℕ → Entry → Mark → List ℕ
pair_entry_line j c place e mark =
    indent (c.depth + 1) ++ decimal place ++ entry_name e.item ++ space ++ pair_reason j c.need e mark ++ line_end

-- the lines of an opened node
abbrev pub pair_lines : JoinSearch → PairComing → Node → List Mark → List ℕ
pair_lines j c node marks = pair_line c (level_of node) ++ marked_lines (pair_entry_line j c) 0 (entries_of node) marks

-- what is shown of a walk: its lines, its counts, and how many distances were computed
pub record PairsShown : Type 0 where
  pub lines : List ℕ
  pub counts : Counts
  pub measured : ℕ

abbrev pub nothing_shown : PairsShown
nothing_shown = record { lines = []; counts = none_counted; measured = 0 }

-- the distances of a node's entries from the other item: one for each that was not skipped, and none beside a root, which has no centre
abbrev pub measured_beside : Option (List ℕ) → List Mark → ℕ
measured_beside None marks = 0
measured_beside (Some centre) marks = distances (with_marks marks none_counted)

-- a node, and then the rest of the walk
abbrev pub node_then : JoinSearch → PairComing → Node → List Mark → PairsShown → PairsShown
node_then j c node marks rest = record {
  lines = pair_lines j c node marks ++ rest.lines;
  counts = with_marks marks rest.counts;
  measured = measured_beside (centre_of (other c.need)) marks + rest.measured;
}

-- a pair at this depth
abbrev pub coming_at : ℕ → JoinNeed → PairComing
coming_at depth need = record { need = need; depth = depth }

-- the pairs that a node's marks need, one step deeper
abbrev pub pairs_coming : JoinSearch → PairComing → Node → List Mark → List PairComing
pairs_coming j c node marks = map (coming_at (c.depth + 1)) (join_needs j c.need node marks)

-- the node of a pair, where the record names its side and its page and agrees with its node
abbrev pub node_told : Read → Read → JoinNeed → JoinRecord → Option Node
node_told left right n r = if is_of n r then node_marked r.marks (read_of left right (opens_right n) (page_of (opened n))) else None

-- a record's node and the rest of the walk, which goes on where each mark is allowed
abbrev pub shown_on : JoinSearch → PairComing → List Mark → Option Node → (Node → PairsShown) → PairsShown
shown_on j c marks None rest = nothing_shown
shown_on j c marks (Some node) rest =
    node_then j c node marks (if is_none (join_wrong_in j c.need node marks) then rest node else nothing_shown)

-- What is shown of the records of a join's log, as far as they lead: each names the side and the page that are needed next, the page holds
-- a node, and there is one mark for each entry. A node with a mark that is not allowed is the last.
abbrev pub shown : JoinSearch → Read → Read → List PairComing → List JoinRecord → PairsShown
shown j left right [] rs = nothing_shown
shown j left right (c ∷ cs) [] = nothing_shown
shown j left right (c ∷ cs) (r ∷ rs) =
    shown_on j c r.marks (node_told left right c.need r) (λ node. shown j left right (pairs_coming j c node r.marks ++ cs) rs)
