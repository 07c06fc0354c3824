use Rattle.std.proofs.Common.{◌≡◌, ◌++◌, ◌&&◌, drop}
use Rattle.std.specs.Option.{is_none}
use Rattle.log_model.specs.Walk.{allows_subtree}
use Rattle.log_verify.specs.Judged.{first_wrong}
use Rattle.job_show.specs.Walks.{comings_of, marked_lines, subtree_line}
use Rattle.job_show.specs.Steps.{search_by}
use Rattle.job_show.proofs.nodes.show_inner.Given as goal

-- the lines and the test of the entries that are left, and the pages that they need
abbrev pub invariant-loop-i : goal.invariant-loop-i
invariant-loop-i l = record {
  lines : l.walk.lines.items ++ marked_lines (subtree_line (search_by l.gauge) l.coming) l.i (drop l.i l.entries) (drop l.i l.marks)
      ≡ l.fn.walk.lines.items ++ marked_lines (subtree_line (search_by l.gauge) l.coming) 0 l.entries l.marks;
  allowed : (l.allowed && is_none (first_wrong (allows_subtree (search_by l.gauge) l.coming.need.above) (drop l.i l.entries) (drop l.i l.marks) l.i))
      ≡ is_none (first_wrong (allows_subtree (search_by l.gauge) l.coming.need.above) l.entries l.marks 0);
  needs : l.walk.needs.items ++ comings_of (search_by l.gauge) l.coming (drop l.i l.entries) (drop l.i l.marks)
      ≡ l.fn.walk.needs.items ++ comings_of (search_by l.gauge) l.coming l.entries l.marks;
  stack : l.walk.stack.items ≡ l.fn.walk.stack.items;
  counts : l.walk.counts ≡ l.fn.walk.counts;
}
