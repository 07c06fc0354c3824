use Rattle.std.proofs.Common.{sym, ◌∙◌}
use Rattle.session_run.proofs.Counts.{released_last, released_walked}
use Rattle.session_run.proofs.Pins.{each_released}
use Rattle.session_run.proofs.pinned.PinnedCursors.release.Goals as goal

pub returns-clause-kept : goal.returns-clause-kept
returns-clause-kept g c = each_released (g.M.Metric.space c.args.index.now.file.metric) c.args.index.now c.unpin.new.self c.args.generation c.args.self.now.cursors.items c.unpin.ensures.list (sym c.has_tree.ensures ∙ c.if-has_tree.false) c.requires.kept

pub returns-then-has_tree-clause-pins : goal.returns-then-has_tree-clause-pins
returns-then-has_tree-clause-pins g c = released_walked c.args.index.now c.args.self.now.cursors.items c.args.generation (sym c.has_tree.ensures ∙ c.if-has_tree.true)

pub returns-clause-pins : goal.returns-clause-pins
returns-clause-pins g c = released_last c.args.index.now c.unpin.new.self c.args.self.now.cursors.items c.args.generation (sym c.has_tree.ensures ∙ c.if-has_tree.false) c.unpin.ensures.list c.requires.pinned
