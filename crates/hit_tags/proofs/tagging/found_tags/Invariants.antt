use Rattle.std.proofs.Common.{map, take}
use Rattle.hit_tags.specs.Wanted.{hit_tag, TakesIn}
use Rattle.hit_tags.proofs.tagging.found_tags.Given as goal

-- the hits so far are taken in
abbrev pub invariant-loop-one : goal.invariant-loop-one
invariant-loop-one l = TakesIn l.initial.wanted (map hit_tag (take l.one-index l.found.tagged)) l.wanted
