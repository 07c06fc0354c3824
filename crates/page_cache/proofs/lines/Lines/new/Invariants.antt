use Rattle.std.proofs.Common.{◌≡◌, replicate, None}
use Rattle.page_cache.proofs.lines.Lines.new.Given as goal

abbrev pub invariant-loop : goal.invariant-loop
invariant-loop l = l.lines.items ≡ replicate l.counter None
