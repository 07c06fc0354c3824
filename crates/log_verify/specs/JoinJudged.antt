-- The first fault of a join's log, in the verifier's order.
use Rattle.std.specs.Prelude.{ℕ, ◌+◌, Bool, true, false, not, List, [], ◌∷◌, ◌++◌, length, Option, Some, None, Result, Ok, Err, if◌then◌else◌, ◌==◌, ◌&&◌}
use Rattle.metric_laws.specs.Space.{Space}
use Rattle.scan_model.specs.declared.hit.Pair.{Pair}
use Rattle.tree_shape.specs.declared.live.Live.{Live}
use Rattle.tree_shape.specs.declared.entry.Node.{Node}
use Rattle.page_store.specs.declared.pages.PageFault.{PageFault}
use Rattle.page_store.specs.Reading.{Read}
use Rattle.log_model.specs.declared.marks.Mark.{Mark}
use Rattle.log_model.specs.declared.marks.JoinRecord.{JoinRecord}
use Rattle.log_model.specs.declared.pairs.JoinNeed.{JoinNeed}
use Rattle.log_model.specs.declared.logs.JoinLog.{JoinLog}
use Rattle.log_model.specs.Counts.{entry_count}
use Rattle.log_model.specs.InOrder.{in_order, pair_before}
use Rattle.log_model.specs.JoinWalk.{JoinSearch, opens_right, opened, page_of, entries_of, allows_entry, join_needs, join_hits}
use Rattle.log_model.specs.SoundJoin.{join_at, root_pair}
use Rattle.log_verify.specs.Judged.{first_wrong}
use Rattle.log_verify.specs.declared.faults.JoinVerdict.{JoinVerdict}
use Rattle.log_verify.specs.declared.faults.JoinVerdict.TheVariants.{OtherState, Page, WrongPage, WrongCount, WrongMark, WrongAnswer, LeftOver}

-- the first entry whose mark is not allowed
abbrev pub join_wrong_in : JoinSearch → JoinNeed → Node → List Mark → Option ℕ
join_wrong_in j n node marks = first_wrong (allows_entry j n) (entries_of node) marks 0

-- after a record's marks: the first mark that is not allowed, or the rest of the walk
abbrev pub after_join_marks : ℕ → Option ℕ → Result (List Pair) JoinVerdict → Result (List Pair) JoinVerdict
after_join_marks i None rest = rest
after_join_marks i (Some k) rest = Err (WrongMark i k)

-- after a record's page: why it holds no node, or the check of the number of marks and of the marks
abbrev pub after_join_page : JoinSearch → JoinNeed → List Mark → ℕ → Result Node PageFault →
    (Node → Result (List Pair) JoinVerdict) → Result (List Pair) JoinVerdict
after_join_page j n marks i (Err fault) rest = Err (Page (opens_right n) fault)
after_join_page j n marks i (Ok node) rest =
    if length marks == entry_count node then after_join_marks i (join_wrong_in j n node marks) (rest node) else Err (WrongCount i)

-- what the pages of a side hold
abbrev pub read_of : Read → Read → Bool → Read
read_of left right is_right = if is_right then right else left

-- whether two sides are the same
abbrev pub is_same_side : Bool → Bool → Bool
is_same_side one other = if one then other else not other

abbrev pub is_of : JoinNeed → JoinRecord → Bool
is_of n r = is_same_side r.right (opens_right n) && (r.page == page_of (opened n))

-- the walk that needs these pairs and has these records left; the first record is number `i`. It gives the pairs that were named and
-- that it names, or its first fault
abbrev pub join_walked : JoinSearch → Read → Read → List Pair → List JoinNeed → List JoinRecord → ℕ → Result (List Pair) JoinVerdict
join_walked j left right named [] [] i = Ok named
join_walked j left right named [] (r ∷ rs) i = Err (LeftOver i)
join_walked j left right named (n ∷ ns) [] i = Err (WrongPage i)
join_walked j left right named (n ∷ ns) (r ∷ rs) i =
    if is_of n r
    then after_join_page j n r.marks i (read_of left right (opens_right n) (page_of (opened n)))
    (λ node. join_walked j left right (named ++ join_hits j n node r.marks) (join_needs j n node r.marks ++ ns) rs (i + 1))
    else Err (WrongPage i)

-- the first place where the log's answers and the named ones differ, including a missing one
abbrev pub pair_difference : ℕ → List Pair → List Pair → Option JoinVerdict
pair_difference i [] [] = None
pair_difference i [] (y ∷ ys) = Some (WrongAnswer i)
pair_difference i (x ∷ xs) [] = Some (WrongAnswer i)
pair_difference i (x ∷ xs) (y ∷ ys) =
    if (x.left == y.left) && ((x.right == y.right) && (x.dist == y.dist)) then pair_difference (i + 1) xs ys else Some (WrongAnswer i)

abbrev pub after_join_walk : JoinLog → Result (List Pair) JoinVerdict → Option JoinVerdict
after_join_walk log (Err fault) = Some fault
after_join_walk log (Ok hits) = pair_difference 0 log.answers (in_order pair_before hits)

-- the walk of all records from the two live roots
abbrev pub join_walk_of : Space → Read → Read → Live → Live → JoinLog → Result (List Pair) JoinVerdict
join_walk_of s left right l r log = join_walked (join_at s log.r) left right [] (root_pair l r ∷ []) log.records 0

-- whether a log names the generation and the root of a live slot
abbrev pub names : ℕ × ℕ → Live → Bool
names named live = (named.0 == live.generation) && (named.1 == live.root)

-- the log's first fault: the left state is checked before the right state
abbrev pub join_fault : Space → Read → Read → Live → Live → JoinLog → Option JoinVerdict
join_fault s left right l r log =
    if names log.left l
    then (if names log.right r
    then after_join_walk log (join_walk_of s left right l r log)
    else Some (OtherState true log.right (r.generation, r.root)))
    else Some (OtherState false log.left (l.generation, l.root))
