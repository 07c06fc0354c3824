use Rattle.std.proofs.Common.{◌≡◌, ◌++◌, map, drop, length}
use Rattle.nearest_search.specs.Seeing.{marked_by, marks_seen, seen_near, tagged_seen}
use Rattle.nearest_search.proofs.logging.mark_objects.Given as goal

-- the tagged hits and the marks so far, and those of the rest
abbrev pub invariant-loop-index : goal.invariant-loop-index
invariant-loop-index l = record {
  tagged : l.tagged.items ++ map tagged_seen (seen_near l.rho (drop l.index l.sights)) ≡ l.fn.tagged.items ++ map tagged_seen (seen_near l.rho l.sights);
  marks : marked_by l.rho l.marks (drop l.index l.sights) ≡ marks_seen l.rho l.count l.sights;
  long : length l.marks ≡ l.count;
}
