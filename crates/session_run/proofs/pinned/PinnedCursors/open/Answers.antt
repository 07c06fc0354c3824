use Rattle.std.proofs.Common.{◌≡◌, true, ap, refl, subst, sym, ◌∙◌, ◌+◌, ◌++◌, ◌∷◌, [], List}
use Rattle.std.specs.Prelude.{◌==◌}
use Rattle.std.specs.List.{list_any}
use Rattle.std.proofs.lemmas.Result.{err_from_is_err_and}
use Rattle.tree_shape.specs.declared.live.Live.{Live}
use Rattle.rows_text.specs.declared.command.Command.TheVariants as command
use Rattle.index_core.specs.Index.{OpenIndex}
use Rattle.session_run.specs.declared.pinned.PinnedCursor.{PinnedCursor}
use Rattle.session_run.specs.declared.stop.SessionStop.TheVariants as stop
use Rattle.session_run.proofs.Carrying.{carried_stopped}
use Rattle.session_run.proofs.Opening.{not_full, not_less, reads_none}
use Rattle.session_run.proofs.Pins.{pinned_among}
use Rattle.session_run.proofs.Stepped.{full_carried, opened_carried, pin_stopped}
use Rattle.session_run.proofs.pinned.PinnedCursors.open.Goals as goal

pub returns-then-is_full-clause-done : goal.returns-then-is_full-clause-done
returns-then-is_full-clause-done g c = rw c.plain.ensures
    (full_carried (g.M.Metric.space c.args.index.now.file.metric) c.args.show c.args.index.now c.args.self.now (g.D.Disk.state c.args.disk.now) c.args.q.now c.is_valid.ensures (c.requires.stands c.requires.going) c.requires.going c.requires.kept c.requires.point
    (not_less _ (sym c.is_full.ensures ∙ c.if-is_full.true)))

pub returns-in_err-point-clause-done : goal.returns-in_err-point-clause-done
returns-in_err-point-clause-done g c =
    let p = err_from_is_err_and c.from_residual.result c.from_residual.ensures.1 in
    rw (p.1, p.2)
    (carried_stopped (g.M.Metric.space c.args.index.now.file.metric) c.args.show c.args.index.now c.args.index.now c.args.self.now c.args.self.now (g.D.Disk.state c.args.disk.now) (g.D.Disk.state c.args.disk.now) (command.Cursor c.args.q.now) c.is_valid.ensures (c.requires.stands c.requires.going)
    (reads_none c.args.index.now.file (g.D.Disk.state c.args.disk.now)) stop.Memory tt (λ all. tt))

pub returns-in_err-cursor-clause-done : goal.returns-in_err-cursor-clause-done
returns-in_err-cursor-clause-done g c =
    let p = err_from_is_err_and c.from_residual-in_err-cursor.result c.from_residual-in_err-cursor.ensures.1 in
    rw (p.1, p.2)
    (carried_stopped (g.M.Metric.space c.args.index.now.file.metric) c.args.show c.args.index.now c.args.index.now c.args.self.now c.args.self.now (g.D.Disk.state c.args.disk.now) (g.D.Disk.state c.args.disk.now) (command.Cursor c.args.q.now) c.is_valid.ensures (c.requires.stands c.requires.going)
    (reads_none c.args.index.now.file (g.D.Disk.state c.args.disk.now)) stop.Memory tt (λ all. tt))

pub returns-in_err-reserve-clause-done : goal.returns-in_err-reserve-clause-done
returns-in_err-reserve-clause-done g c =
    let p = err_from_is_err_and c.from_residual-in_err-reserve.result c.from_residual-in_err-reserve.ensures.1 in
    rw (p.1, p.2)
    (carried_stopped (g.M.Metric.space c.args.index.now.file.metric) c.args.show c.args.index.now c.args.index.now c.args.self.now (record { cursors = c.reserve.new.self; next = c.args.self.now.next }) (g.D.Disk.state c.args.disk.now) (g.D.Disk.state c.args.disk.now) (command.Cursor c.args.q.now) c.is_valid.ensures (c.requires.stands c.requires.going)
    (reads_none c.args.index.now.file (g.D.Disk.state c.args.disk.now)) stop.Memory tt (λ all. tt))

pub pin_tree-requires-clause-pinned : goal.pin_tree-requires-clause-pinned
pin_tree-requires-clause-pinned g c = λ κs outlives is.
    pinned_among (g.M.Metric.space c.args.index.now.file.metric) c.args.index.now c.args.index.now.file.live.generation c.args.self.now.cursors.items
    (subst (λ (l : List PinnedCursor). list_any (λ (x : PinnedCursor). x.cursor.live.generation == c.args.index.now.file.live.generation) l ≡ true) c.reserve.ensures.items
    (subst (λ (t : Live). list_any (λ (x : PinnedCursor). x.cursor.live.generation == t.generation) c.reserve.new.self.items ≡ true) c.live-live.ensures (sym c.has_tree-is_pinned.ensures ∙ is))) c.requires.kept.each

pub returns-in-Err-clause-done : goal.returns-in-Err-clause-done
returns-in-Err-clause-done g c = rw c.answer_of_fault.ensures
    (pin_stopped (g.M.Metric.space c.args.index.now.file.metric) c.args.show c.args.index.now c.pin_tree.new.index c.args.self.now (record { cursors = c.reserve.new.self; next = c.args.self.now.next }) (g.D.Disk.state c.args.disk.now) (g.D.Disk.state c.pin_tree.new.disk) (command.Cursor c.args.q.now) c.in-Err.fault c.is_valid.ensures (c.requires.stands c.requires.going)
    c.pin_tree.ensures.reads c.in-Err.ensures.cause c.in-Err.ensures.damage c.in-Err.ensures.undamaged)

pub returns-clause-done : goal.returns-clause-done
returns-clause-done g c = rw c.plain-2.ensures
    (opened_carried (g.M.Metric.space c.args.index.now.file.metric) c.args.show c.args.index.now c.pin_tree.new.index c.args.self.now (record { cursors = c.push_reserved.new.self; next = c.args.self.now.next + 1 }) (g.D.Disk.state c.args.disk.now) (g.D.Disk.state c.pin_tree.new.disk) c.args.q.now
    (record { number = c.args.self.now.next; cursor = c.in_ok-cursor.cursor }) c.live-live.result c.in_ok-point.point c.is_valid.ensures (c.requires.stands c.requires.going)
    (c.pin_tree.ensures.stands (ap (λ (i : OpenIndex g.row.M.Denot). i.stopped) c.pin_tree.ensures.rest ∙ c.requires.going))
    (ap (λ (i : OpenIndex g.row.M.Denot). i.stopped) c.pin_tree.ensures.rest ∙ c.requires.going) (g.M.Metric.axioms c.args.index.now.file.metric) c.requires.point c.pin_tree.ensures.reads c.pin_tree.ensures.guarded
    c.in_default.ensures.pinned c.sound_trees_are_whole.ensures c.in_default.ensures.guards c.live-live.ensures (c.in_ok-point.ensures ∙ c.as_slice.ensures) c.in_ok-cursor.ensures.begun c.in_ok-cursor.ensures.starts
    refl (c.push_reserved.ensures.items ∙ ap (λ (l : List PinnedCursor). l ++ (record { number = c.args.self.now.next; cursor = c.in_ok-cursor.cursor }) ∷ []) c.reserve.ensures.items) refl c.requires.kept (not_full _ (sym c.is_full.ensures ∙ c.if-is_full.false)))
