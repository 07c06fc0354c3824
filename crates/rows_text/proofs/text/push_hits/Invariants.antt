use Rattle.std.proofs.Common.{◌≡◌, ◌++◌, take}
use Rattle.std.specs.Prelude.{flat_map}
use Rattle.rows_text.specs.Texts.{hit_line}
use Rattle.rows_text.proofs.text.push_hits.Given as goal

-- the lines of those so far are written
abbrev pub invariant-loop-hit : goal.invariant-loop-hit
invariant-loop-hit l = l.out.items ≡ l.fn.out.items ++ flat_map hit_line (take l.hit-index l.hits)
