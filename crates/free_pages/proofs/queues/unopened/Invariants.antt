use Rattle.std.proofs.Common.{◌≡◌, ◌-◌, ◌≤◌, length}
use Rattle.free_pages.proofs.Flags.{unset_in}
use Rattle.free_pages.proofs.queues.unopened.Given as goal

abbrev pub invariant-loop-page : goal.invariant-loop-page
invariant-loop-page l = record {
  free : l.free.items ≡ unset_in l.opened (l.page - 3);
  short : length l.opened ≤ 3 → l.page ≡ 3;
}
