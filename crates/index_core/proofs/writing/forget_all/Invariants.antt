use Rattle.std.proofs.Common.{◌≡◌, drop}
use Rattle.page_store.specs.Staging.{pages_of}
use Rattle.index_core.specs.Writing.{forgotten}
use Rattle.index_core.proofs.writing.forget_all.Given as goal

abbrev pub invariant-loop-place : goal.invariant-loop-place
invariant-loop-place l = forgotten (drop l.place (pages_of l.staged)) l.kept ≡ forgotten (pages_of l.staged) l.fn.kept
