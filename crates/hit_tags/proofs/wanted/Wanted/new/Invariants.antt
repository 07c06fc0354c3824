use Rattle.std.proofs.Common.{◌≡◌, Some, None, take}
use Rattle.std.specs.List.{AllByRecursion}
use Rattle.hit_tags.specs.Wanted.{held}
use Rattle.hit_tags.proofs.wanted.Wanted.new.Given as goal

-- the ids so far are wanted
abbrev pub invariant-loop-hit : goal.invariant-loop-hit
invariant-loop-hit l = AllByRecursion (λ h. held l.tags.entries h.id ≡ Some None) (take l.hit-index l.hits)
