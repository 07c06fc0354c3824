use Rattle.std.proofs.Common.{◌≡◌, ◌++◌, take, drop}
use Rattle.std.specs.Prelude.{map}
use Rattle.rows_text.specs.Meaning.{advanced}
use Rattle.plain_scan.proofs.cursors.advance_cursors.Given as goal

-- the cursors so far are done, and the others are as before
abbrev pub invariant-loop-cursor : goal.invariant-loop-cursor
invariant-loop-cursor l = l.cursors ≡ map (advanced l.number l.n) (take l.cursor-index l.initial.cursors) ++ drop l.cursor-index l.initial.cursors
