use Rattle.std.proofs.Common.{◌≡◌, ◌++◌, take}
use Rattle.rows_text.specs.Texts.{coordinates_text}
use Rattle.job_files.proofs.shape_lines.push_after_commas.Given as goal

-- the coordinates so far are written
abbrev pub invariant-loop-x : goal.invariant-loop-x
invariant-loop-x l = l.out.items ≡ l.fn.out.items ++ coordinates_text (take l.x-index l.point)
