use Rattle.std.proofs.Common.{◌≡◌, ◌++◌, map, drop, reverse}
use Rattle.nearest_search.specs.Seeing.{seen_near, need_seen}
use Rattle.nearest_search.proofs.logging.push_needs.Given as goal

-- the subtrees from this one on are on the stack
abbrev pub invariant-loop-i : goal.invariant-loop-i
invariant-loop-i l = reverse l.stack.items ≡ map need_seen (seen_near l.rho (drop l.i l.sights)) ++ reverse l.fn.stack.items
