use Rattle.std.proofs.Common.{◌≡◌, ◌≤◌, ◌-◌, length, reverse}
use Rattle.nearest_search.specs.Keeping.{kept_seen}
use Rattle.nearest_search.specs.RebuiltLog.{IsRebuilding}
use Rattle.nearest_search.proofs.logging.rebuild_log.Given as goal

abbrev pub invariant-loop-need : goal.invariant-loop-need
invariant-loop-need l = record {
  count : l.opened ≡ length l.walk.records.items;
  low : l.opened ≤ l.live.pages;
  walk : IsRebuilding l.rho (kept_seen l.kept) l.live.root l.walk.records.items l.walk.tagged.items (reverse l.walk.stack.items);
}

abbrev pub decreases-loop-need : goal.decreases-loop-need
decreases-loop-need l = l.live.pages - l.opened
