use Rattle.std.proofs.Common.{◌≡◌, ℕ, ◌<◌, ◌++◌, [], drop, get_or, vec_len}
use Rattle.tree_growth.specs.Groups.{members_from}
use Rattle.bulk_load.specs.MemberLists.{lists_in}
use Rattle.bulk_load.proofs.grouping.member_lists.Given as goal

-- each list has the members of its group so far, and the others are those among the objects that are left
abbrev pub invariant-loop-place : goal.invariant-loop-place
invariant-loop-place l =
    (vec_len l.lists ≡ l.groups)
    × ((a : ℕ) → a < l.groups → get_or (lists_in l.lists.items) a [] ++ members_from a (drop l.place l.set) (drop l.place l.placed) ≡ members_from a l.set l.placed)
