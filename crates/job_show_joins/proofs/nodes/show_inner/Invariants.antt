use Rattle.std.proofs.Common.{◌≡◌, ◌++◌, ◌&&◌, drop, map}
use Rattle.std.specs.Option.{is_none}
use Rattle.log_model.specs.Walk.{near_ones}
use Rattle.log_model.specs.JoinWalk.{allows_entry, subtree_entry, with_entry}
use Rattle.log_model.specs.JoinSteps.{needs_among}
use Rattle.log_verify.specs.Judged.{first_wrong}
use Rattle.job_show.specs.Steps.{space_in}
use Rattle.job_show.specs.Walks.{marked_lines}
use Rattle.job_show_joins.specs.Walks.{pair_entry_line}
use Rattle.job_show_joins.specs.Steps.{search_by}
use Rattle.job_show_joins.proofs.MarkedPairs.{lines_from, needs_from, wrong_from}
use Rattle.job_show_joins.proofs.nodes.show_inner.Given as goal

-- the lines and the test of the entries that are left, and the pairs that they need
abbrev pub invariant-loop-i : goal.invariant-loop-i
invariant-loop-i l = record {
  lines : l.walk.lines.items ++ lines_from (subtree_entry l.level) (pair_entry_line (search_by l.gauge.search) l.gauge.coming.now) l.i (drop l.i l.entries) (drop l.i l.marks)
      ≡ l.fn.walk.lines.items ++ marked_lines (pair_entry_line (search_by l.gauge.search) l.gauge.coming.now) 0 (map (subtree_entry l.level) l.entries) l.marks;
  allowed : (l.allowed && is_none (wrong_from (subtree_entry l.level) (allows_entry (search_by l.gauge.search) l.gauge.coming.now.need) (drop l.i l.entries) (drop l.i l.marks) l.i))
      ≡ is_none (first_wrong (allows_entry (search_by l.gauge.search) l.gauge.coming.now.need) (map (subtree_entry l.level) l.entries) l.marks 0);
  needs : l.walk.named.needs.items ++ needs_from (subtree_entry l.level) (space_in l.gauge.search.space) l.gauge.coming.now.need (drop l.i l.entries) (drop l.i l.marks)
      ≡ l.fn.walk.named.needs.items ++ needs_among (map (with_entry (space_in l.gauge.search.space) l.gauge.coming.now.need) (near_ones (map (subtree_entry l.level) l.entries) l.marks));
  stack : l.walk.stack.items ≡ l.fn.walk.stack.items;
  counts : l.walk.counts ≡ l.fn.walk.counts;
  measured : l.walk.measured ≡ l.fn.walk.measured;
}
