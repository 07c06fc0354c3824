use Rattle.std.proofs.Common.{◌≡◌}
use Rattle.std.specs.Prelude.{drop}
use Rattle.page_store.specs.Staging.{staged_for}
use Rattle.page_store.proofs.staging.Staged.get.Given as goal

abbrev pub invariant-loop-staged : goal.invariant-loop-staged
invariant-loop-staged l = staged_for (drop l.staged-index l.staged-items) l.page ≡ staged_for l.staged-items l.page
