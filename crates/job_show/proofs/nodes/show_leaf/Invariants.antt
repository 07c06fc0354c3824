use Rattle.std.proofs.Common.{◌≡◌, ◌++◌, ◌&&◌, drop}
use Rattle.std.specs.Option.{is_none}
use Rattle.log_model.specs.Walk.{allows_object}
use Rattle.log_verify.specs.Judged.{first_wrong}
use Rattle.job_show.specs.Walks.{marked_lines, object_line}
use Rattle.job_show.specs.Steps.{search_by}
use Rattle.job_show.proofs.nodes.show_leaf.Given as goal

-- the lines and the test of the entries that are left
abbrev pub invariant-loop-i : goal.invariant-loop-i
invariant-loop-i l = record {
  lines : l.out.items ++ marked_lines (object_line (search_by l.gauge) l.coming) l.i (drop l.i l.entries) (drop l.i l.marks)
      ≡ l.fn.out.items ++ marked_lines (object_line (search_by l.gauge) l.coming) 0 l.entries l.marks;
  allowed : (l.allowed && is_none (first_wrong (allows_object (search_by l.gauge) l.coming.need.above) (drop l.i l.entries) (drop l.i l.marks) l.i))
      ≡ is_none (first_wrong (allows_object (search_by l.gauge) l.coming.need.above) l.entries l.marks 0);
}
