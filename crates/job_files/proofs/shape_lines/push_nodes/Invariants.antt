use Rattle.std.proofs.Common.{◌≡◌, ◌++◌, take}
use Rattle.std.specs.Prelude.{flat_map}
use Rattle.job_files.specs.Lines.{node_text}
use Rattle.job_files.proofs.shape_lines.push_nodes.Given as goal

-- the lines of the nodes so far are written
abbrev pub invariant-loop-line : goal.invariant-loop-line
invariant-loop-line l = l.out.items ≡ l.fn.out.items ++ flat_map node_text (take l.line-index l.lines)
