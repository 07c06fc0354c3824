use Rattle.std.proofs.Common.{sym, ap, subst, ◌∙◌}
use Rattle.std.specs.Prelude.{◌==◌, not}
use Rattle.std.specs.List.{AllByRecursion}
use Rattle.std.proofs.lemmas.List.Quantifiers.{position-Some}
use Rattle.metric_laws.proofs.Published.{all_filter}
use Rattle.session_run.specs.declared.pinned.PinnedCursor.{PinnedCursor}
use Rattle.index_core.specs.Index.{OpenIndex}
use Rattle.session_run.specs.Pinned.{GoesThrough, IsKeptBy, StandsFor}
use Rattle.session_run.proofs.Pins.{closed_by, same_of}
use Rattle.session_run.proofs.Standing.{named_at, numbered_filter}
use Rattle.session_run.proofs.Stepped.{unnamed_closed}
use Rattle.session_run.proofs.Trees.{left_through}
use Rattle.session_run.proofs.pinned.PinnedCursors.close.Goals as goal

pub returns-in_default-clause-closed : goal.returns-in_default-clause-closed
returns-in_default-clause-closed g c = λ bytes opened stand. unnamed_closed (g.M.Metric.space c.args.index.now.file.metric) c.args.index.now bytes c.args.self.now opened c.args.number (sym c.place_of.ensures ∙ c.in_default.is) stand

pub release-requires-clause-kept : goal.release-requires-clause-kept
release-requires-clause-kept g c = λ κs outlives.
    subst (AllByRecursion (IsKeptBy (g.M.Metric.space c.args.index.now.file.metric) c.args.index.now)) (sym c.remove.ensures.cursors)
    (all_filter (IsKeptBy (g.M.Metric.space c.args.index.now.file.metric) c.args.index.now) (λ (x : PinnedCursor). not (x.number == c.args.number)) c.args.self.now.cursors.items c.requires.kept.each)

pub returns-clause-kept : goal.returns-clause-kept
returns-clause-kept g c = record {
  each = c.release.ensures.kept;
  numbers = rw (c.remove.ensures.cursors, c.remove.ensures.next) (numbered_filter (λ (x : PinnedCursor). not (x.number == c.args.number)) c.args.self.now.cursors.items 0 c.args.self.now.next c.requires.kept.numbers);
}

pub returns-clause-closed : goal.returns-clause-closed
returns-clause-closed g c = λ bytes opened stand.
    let found = position-Some (λ (x : PinnedCursor). x.number == c.args.number) c.args.self.now.cursors.items c.in-Some.place c.index.result.now (sym c.place_of.ensures ∙ c.in-Some.is) in
    let named = named_at (StandsFor (g.M.Metric.space c.args.index.now.file.metric) c.args.index.now bytes) (StandsFor (g.M.Metric.space c.args.index.now.file.metric) c.args.index.now bytes) (λ x m is. is.number) (λ x m is. is) c.args.self.now.cursors.items opened.cursors 0 c.args.self.now.next c.in-Some.place c.args.number c.index.result.now
    c.requires.kept.numbers stand.each found.0 (same_of _ _ found.1) in
    closed_by (g.M.Metric.space c.args.index.now.file.metric) c.args.index.now c.release.new.index bytes c.args.self.now c.remove.new.self opened c.args.number named.0 stand c.remove.ensures.cursors c.remove.ensures.next c.release.ensures.only c.release.ensures.guarded
    c.release.ensures.kept named.1

pub returns-clause-through : goal.returns-clause-through
returns-clause-through g c = λ bytes all.
    left_through (g.M.Metric.space c.args.index.now.file.metric) c.args.index.now c.release.new.index bytes c.remove.new.self.cursors.items (ap (λ (i : OpenIndex g.row.M.Denot). i.file) c.release.ensures.only)
    c.release.ensures.guarded c.release.ensures.kept
    (subst (AllByRecursion (GoesThrough c.args.index.now bytes)) (sym c.remove.ensures.cursors)
    (all_filter (GoesThrough c.args.index.now bytes) (λ (x : PinnedCursor). not (x.number == c.args.number)) c.args.self.now.cursors.items all))
