use Rattle.std.proofs.Common.{◌≡◌, ◌<◌, ◌+◌, ◌++◌, length, reverse}
use Rattle.std.specs.List.{AllByRecursion}
use Rattle.page_store.proofs.settling.stage_all.Given as goal
use Rattle.page_store.specs.Numbers.{number_at, numbered}

abbrev pub invariant-loop-place : goal.invariant-loop-place
invariant-loop-place l = record {
  rest : l.place + length l.nodes.items ≡ length l.fn.nodes.items;
  staged : l.staged ++ numbered (number_at l.numbering.numbers.now l.numbering.first) l.place (reverse l.nodes.items) ≡ numbered (number_at l.numbering.numbers.now l.numbering.first) 0 (reverse l.fn.nodes.items);
  low : AllByRecursion (λ s. s.page < number_at l.numbering.numbers.now l.numbering.first l.place) l.staged;
}
