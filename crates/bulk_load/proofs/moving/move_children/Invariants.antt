use Rattle.std.proofs.Common.{◌≡◌, ◌+◌, ◌≤◌, ◌^◌, ◌++◌, take, drop}
use Rattle.std.specs.Prelude.{map}
use Rattle.std.specs.List.{AllByRecursion}
use Rattle.page_store.specs.Numbers.{number_at}
use Rattle.bulk_load.specs.Apart.{entry_to}
use Rattle.bulk_load.proofs.moving.move_children.Given as goal

-- the entries so far are done, and the others are as before
abbrev pub invariant-loop-entry : goal.invariant-loop-entry
invariant-loop-entry l =
    (l.entries ≡ map (entry_to (λ i. number_at l.numbering.numbers.now l.numbering.first (l.first + i))) (take l.entry-index l.initial.entries) ++ drop l.entry-index l.initial.entries)
    × AllByRecursion (λ e. l.first + e.child ≤ 2 ^ 26) (drop l.entry-index l.entries)
