use Rattle.std.proofs.Common.{◌≡◌, drop, length}
use Rattle.nearest_search.specs.Seeing.{marked_by, marks_seen}
use Rattle.nearest_search.proofs.logging.marks_at.Given as goal

-- the marks so far, and those of the rest
abbrev pub invariant-loop-index : goal.invariant-loop-index
invariant-loop-index l = record {
  marks : marked_by l.rho l.marks (drop l.index l.sights) ≡ marks_seen l.rho l.count l.sights;
  long : length l.marks ≡ l.count;
}
