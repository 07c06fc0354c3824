use Rattle.std.proofs.Common.{◌≤◌}
use Rattle.mtree_cli.proofs.watched.first_line.Given as goal

-- the line has room for what was copied
abbrev pub invariant-loop-byte : goal.invariant-loop-byte
invariant-loop-byte l = l.length ≤ 40
