use Rattle.std.proofs.Common.{◌≡◌, ◌++◌}
use Rattle.bulk_load.specs.MemberLists.{lists_in, groups_with}
use Rattle.bulk_load.proofs.grouping.with_seeds.Given as goal

-- the groups so far, and those of the seeds and lists that are left
abbrev pub invariant-loop-seed : goal.invariant-loop-seed
invariant-loop-seed l =
    l.groups.items ++ groups_with l.set l.seed-iterator.a.rest.now (lists_in l.seed-iterator.b.rest.items) ≡ groups_with l.set l.seeds (lists_in l.fn.lists.items)
