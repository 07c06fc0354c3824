-- The first fault of a log, in the verifier's order.
use Rattle.std.specs.Prelude.{ℕ, ◌+◌, Bool, List, [], ◌∷◌, ◌++◌, length, Option, Some, None, Result, Ok, Err, if◌then◌else◌, ◌==◌, ◌&&◌}
use Rattle.metric_laws.specs.Space.{Space}
use Rattle.scan_model.specs.declared.hit.Hit.{Hit}
use Rattle.tree_shape.specs.declared.live.Live.{Live}
use Rattle.tree_shape.specs.declared.entry.Node.{Node}
use Rattle.tree_shape.specs.declared.entry.Node.TheVariants.{Leaf, Inner}
use Rattle.page_store.specs.declared.pages.PageFault.{PageFault}
use Rattle.page_store.specs.Reading.{Read}
use Rattle.log_model.specs.declared.marks.Mark.{Mark}
use Rattle.log_model.specs.declared.marks.Record.{Record}
use Rattle.log_model.specs.declared.marks.Need.{Need}
use Rattle.log_model.specs.declared.logs.Log.{Log}
use Rattle.log_model.specs.Counts.{entry_count}
use Rattle.log_model.specs.Grammar.{query_point}
use Rattle.log_model.specs.Walk.{Search, allows_object, allows_subtree, needs_of, hits_of, root_need}
use Rattle.log_model.specs.Sound.{search_for, selected}
use Rattle.log_verify.specs.declared.faults.Verdict.{Verdict}
use Rattle.log_verify.specs.declared.faults.Verdict.TheVariants.{OtherState, Point, Page, WrongPage, WrongCount, WrongMark, WrongAnswer, LeftOver}

-- the first entry whose mark is not allowed
abbrev pub first_wrong : {X : Type 0} → (X → Mark → Bool) → List X → List Mark → ℕ → Option ℕ
first_wrong allows [] marks j = None
first_wrong allows (e ∷ es) [] j = None
first_wrong allows (e ∷ es) (m ∷ marks) j = if allows e m then first_wrong allows es marks (j + 1) else Some j

abbrev pub first_wrong_in : Search → Option ℕ → Node → List Mark → Option ℕ
first_wrong_in f above (Leaf es) marks = first_wrong (allows_object f above) es marks 0
first_wrong_in f above (Inner level es) marks = first_wrong (allows_subtree f above) es marks 0

-- after a record's marks: the first mark that is not allowed, or the rest of the walk
abbrev pub after_marks : ℕ → Option ℕ → Result (List Hit) Verdict → Result (List Hit) Verdict
after_marks i None rest = rest
after_marks i (Some j) rest = Err (WrongMark i j)

-- after a record's page: why it holds no node, or the check of the number of marks and of the marks
abbrev pub after_page : Search → Option ℕ → List Mark → ℕ → Result Node PageFault → (Node → Result (List Hit) Verdict) → Result (List Hit) Verdict
after_page f above marks i (Err fault) rest = Err (Page fault)
after_page f above marks i (Ok node) rest =
    if length marks == entry_count node then after_marks i (first_wrong_in f above node marks) (rest node) else Err (WrongCount i)

-- the walk that needs these pages and has these records left; the first record is number `i`. It gives the hits that were named and
-- that it names, or its first fault
abbrev pub walked : Search → Read → List Hit → List Need → List Record → ℕ → Result (List Hit) Verdict
walked f read named [] [] i = Ok named
walked f read named [] (r ∷ rs) i = Err (LeftOver i)
walked f read named (n ∷ ns) [] i = Err (WrongPage i)
walked f read named (n ∷ ns) (r ∷ rs) i =
    if r.page == n.page
    then after_page f n.above r.marks i (read n.page) (λ node. walked f read (named ++ hits_of f node r.marks) (needs_of f node r.marks ++ ns) rs (i + 1))
    else Err (WrongPage i)

-- the first place where the log's answers and the named ones differ, including a missing one
abbrev pub first_difference : ℕ → List Hit → List Hit → Option Verdict
first_difference i [] [] = None
first_difference i [] (y ∷ ys) = Some (WrongAnswer i)
first_difference i (x ∷ xs) [] = Some (WrongAnswer i)
first_difference i (x ∷ xs) (y ∷ ys) = if (x.id == y.id) && (x.dist == y.dist) then first_difference (i + 1) xs ys else Some (WrongAnswer i)

abbrev pub after_walk : Log → Result (List Hit) Verdict → Option Verdict
after_walk log (Err fault) = Some fault
after_walk log (Ok hits) = first_difference 0 log.answers (selected log.query hits)

-- the walk of all records from the live root
abbrev pub walk_of : Space → Read → Live → Log → Result (List Hit) Verdict
walk_of s read live log = walked (search_for s log.query log.answers) read [] (root_need live.root ∷ []) log.records 0

-- the log's first fault
abbrev pub log_fault : Space → Read → Live → Log → Option Verdict
log_fault s read live log =
    if (log.generation == live.generation) && (log.root == live.root)
    then (if s.is_point (query_point log.query) then after_walk log (walk_of s read live log) else Some Point)
    else Some (OtherState (log.generation, log.root) (live.generation, live.root))
