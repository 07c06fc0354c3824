use Rattle.std.proofs.Common.{◌≡◌, ◌+◌, suc, drop}
use Rattle.job_show.specs.Walks.{fars_in, nears_in, skips_in}
use Rattle.job_show.proofs.nodes.count_marks.Given as goal

-- the counts so far and those of the marks that are left
abbrev pub invariant-loop-mark : goal.invariant-loop-mark
invariant-loop-mark l = record {
  opened : l.counted.opened ≡ suc l.fn.counts.opened;
  skips : skips_in (drop l.mark-index l.marks) + l.counted.skips ≡ skips_in l.marks + l.fn.counts.skips;
  fars : fars_in (drop l.mark-index l.marks) + l.counted.fars ≡ fars_in l.marks + l.fn.counts.fars;
  nears : nears_in (drop l.mark-index l.marks) + l.counted.nears ≡ nears_in l.marks + l.fn.counts.nears;
}
