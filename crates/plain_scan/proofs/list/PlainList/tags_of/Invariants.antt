use Rattle.std.proofs.Common.{◌≡◌, take}
use Rattle.plain_scan.specs.List.{state_of}
use Rattle.rows_text.specs.Meaning.{tags_of}
use Rattle.plain_scan.proofs.list.PlainList.tags_of.Given as goal

-- the tags so far are those of the hits so far
abbrev pub invariant-loop-hit : goal.invariant-loop-hit
invariant-loop-hit l = l.tags.items ≡ tags_of (state_of l.self).objects (take l.hit-index l.hits)
