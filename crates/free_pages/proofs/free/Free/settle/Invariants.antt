use Rattle.std.proofs.Common.{◌≡◌, ◌+◌, ◌≤◌, length, drop}
use Rattle.free_pages.specs.Commits.{with_all_left, after_commit}
use Rattle.free_pages.proofs.free.Free.settle.Given as goal

abbrev pub invariant-uses : goal.invariant-uses
invariant-uses l = record {
  taken : l.self ≡ record l.fn.self { free = drop l.counter l.fn.self.free };
}

abbrev pub invariant-leaves : goal.invariant-leaves
invariant-leaves l = record {
  rest : with_all_left l.generation (drop l.page-index l.left) l.self ≡ after_commit l.used l.left l.generation l.fn.self;
  room : length l.left ≤ l.page-index + l.self.spare;
}
