use Rattle.std.proofs.Common.{rules}
use Rattle.std.specs.Prelude.{not, ◌==◌}
use Rattle.std.proofs.lemmas.Fn.{filter_same}
use Rattle.session_run.specs.declared.pinned.PinnedCursor.{PinnedCursor}
use Rattle.session_run.proofs.pinned.PinnedCursors.remove.Goals as goal

pub returns-clause-cursors : goal.returns-clause-cursors
returns-clause-cursors c = filter_same _ (λ (x : PinnedCursor). not (x.number == c.args.number)) _ (λ x b f k. search rules) _ _ c.retain.ensures.filtered
