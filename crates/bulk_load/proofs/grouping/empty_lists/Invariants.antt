use Rattle.std.proofs.Common.{◌≡◌, replicate, []}
use Rattle.bulk_load.specs.MemberLists.{lists_in}
use Rattle.bulk_load.proofs.grouping.empty_lists.Given as goal

abbrev pub invariant-loop : goal.invariant-loop
invariant-loop l = lists_in l.lists.items ≡ replicate l.counter []
