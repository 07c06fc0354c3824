use Rattle.std.proofs.Common.{◌≡◌, ℕ, List, refl, sym, subst, ◌∙◌}
use Rattle.std.specs.Prelude.{◌==◌, IsTrue, set}
use Rattle.std.specs.List.{AllByRecursion}
use Rattle.std.specs.Vec.{with_item}
use Rattle.std.proofs.lemmas.List.Quantifiers.{position-Some}
use Rattle.std.proofs.lemmas.Result.{err_from_is_err_and}
use Rattle.session_run.specs.declared.pinned.PinnedCursor.{PinnedCursor}
use Rattle.session_run.specs.Pinned.{GoesThrough}
use Rattle.session_run.proofs.Pins.{same_of}
use Rattle.session_run.proofs.Standing.{all_at, all_set}
use Rattle.session_run.proofs.Trees.{goes_on}
use Rattle.session_run.proofs.Stepped.{IsRefusal, IsStep, advanced_by, kept_set, step_cause, step_stands, unnamed_by}
use Rattle.session_run.proofs.pinned.PinnedCursors.advance.Goals as goal

pub returns-in_default-clause-advanced : goal.returns-in_default-clause-advanced
returns-in_default-clause-advanced g c = λ opened is_known stand. unnamed_by (g.M.Metric.space c.args.index.now.file.metric) c.args.index.now (g.D.Disk.state c.args.disk.now).bytes c.args.self.now opened c.args.number c.args.n (sym c.place_of.ensures ∙ c.in_default.is) stand

pub returns-clause-kept : goal.returns-clause-kept
returns-clause-kept g c =
    let found = position-Some (λ (x : PinnedCursor). x.number == c.args.number) c.args.self.now.cursors.items c.in-Some.place c.index_mut-pinned.result.now (sym c.place_of.ensures ∙ c.in-Some.is) in
    kept_set (g.M.Metric.space c.args.index.now.file.metric) c.args.index.now (g.D.Disk.state c.args.disk.now) (g.D.Disk.state c.step_cursor.new.disk) c.args.self.now (record { cursors = with_item c.args.self.now.cursors c.in-Some.place (record { number = c.index_mut-pinned.result.now.number; cursor = c.step_cursor.new.cursor }); next = c.args.self.now.next }) c.args.number c.args.n c.in-Some.place c.index_mut-pinned.result.now c.step_cursor.new.cursor c.requires.kept found.0 (same_of _ _ found.1) (λ i. set c.args.self.now.cursors.items c.in-Some.place (record { number = (c.index_mut-pinned.ensures.value i).number; cursor = c.step_cursor.new.cursor })) refl
    (subst (λ (p : PinnedCursor). c.step_cursor.new.cursor.live ≡ p.cursor.live) c.index_mut-pinned.ensures.value c.step_cursor.ensures.live)
    (subst (λ (p : PinnedCursor). c.step_cursor.new.cursor.point ≡ p.cursor.point) c.index_mut-pinned.ensures.value c.step_cursor.ensures.point)

pub returns-clause-advanced : goal.returns-clause-advanced
returns-clause-advanced g c = λ opened is_known stand.
    let found = position-Some (λ (x : PinnedCursor). x.number == c.args.number) c.args.self.now.cursors.items c.in-Some.place c.index_mut-pinned.result.now (sym c.place_of.ensures ∙ c.in-Some.is) in
    advanced_by (g.M.Metric.space c.args.index.now.file.metric) c.args.index.now (g.D.Disk.state c.args.disk.now) (g.D.Disk.state c.step_cursor.new.disk) c.args.self.now (record { cursors = with_item c.args.self.now.cursors c.in-Some.place (record { number = c.index_mut-pinned.result.now.number; cursor = c.step_cursor.new.cursor }); next = c.args.self.now.next }) c.args.number c.args.n c.in-Some.place c.index_mut-pinned.result.now c.step_cursor.new.cursor c.requires.kept found.0 (same_of _ _ found.1) opened c.in_ok-stepped.stepped.hits c.in_ok-stepped.stepped.tags c.step_cursor.ensures.same c.step_cursor.ensures.later is_known stand (λ i. set c.args.self.now.cursors.items c.in-Some.place (record { number = (c.index_mut-pinned.ensures.value i).number; cursor = c.step_cursor.new.cursor })) refl
    (subst (λ (p : PinnedCursor). IsStep (g.M.Metric.space c.args.index.now.file.metric) c.args.index.now.file.head.dim (g.D.Disk.state c.args.disk.now) p.cursor c.step_cursor.new.cursor c.args.n c.in_ok-stepped.stepped.hits c.in_ok-stepped.stepped.tags) c.index_mut-pinned.ensures.value (record {
      live = c.step_cursor.ensures.live;
      point = c.step_cursor.ensures.point;
      given = c.in_ok-stepped.ensures.given;
      gives = c.in_ok-stepped.ensures.gives;
    }))

pub returns-in_err-stepped-clause-cause : goal.returns-in_err-stepped-clause-cause
returns-in_err-stepped-clause-cause g c =
    let p = err_from_is_err_and c.from_residual.result c.from_residual.ensures.1 in
    rw (p.1, p.2)
    ((let found = position-Some (λ (x : PinnedCursor). x.number == c.args.number) c.args.self.now.cursors.items c.in-Some.place c.index_mut-pinned.result.now (sym c.place_of.ensures ∙ c.in-Some.is) in
    step_cause (g.M.Metric.space c.args.index.now.file.metric) c.args.index.now (g.D.Disk.state c.args.disk.now) (g.D.Disk.state c.step_cursor.new.disk) c.args.self.now (record { cursors = with_item c.args.self.now.cursors c.in-Some.place (record { number = c.index_mut-pinned.result.now.number; cursor = c.step_cursor.new.cursor }); next = c.args.self.now.next }) c.args.number c.args.n c.in-Some.place c.index_mut-pinned.result.now c.step_cursor.new.cursor c.requires.kept found.0 (same_of _ _ found.1) c.in_err-stepped.field-0.0
    (subst (λ (p : PinnedCursor). IsRefusal (g.M.Metric.space c.args.index.now.file.metric) c.args.index.now.file.head.dim (g.D.Disk.state c.args.disk.now) (g.D.Disk.state c.step_cursor.new.disk) p.cursor c.in_err-stepped.field-0.0) c.index_mut-pinned.ensures.value (record {
      asked = c.in_err-stepped.ensures.cause.0;
      cause = c.in_err-stepped.ensures.cause.1;
      sound = c.in_err-stepped.ensures.sound;
    }))))

pub returns-in_err-stepped-clause-damage : goal.returns-in_err-stepped-clause-damage
returns-in_err-stepped-clause-damage g c =
    let p = err_from_is_err_and c.from_residual.result c.from_residual.ensures.1 in
    rw (p.1, p.2)
    (λ through. (let found = position-Some (λ (x : PinnedCursor). x.number == c.args.number) c.args.self.now.cursors.items c.in-Some.place c.index_mut-pinned.result.now (sym c.place_of.ensures ∙ c.in-Some.is) in
    step_stands (g.M.Metric.space c.args.index.now.file.metric) c.args.index.now (g.D.Disk.state c.args.disk.now) (g.D.Disk.state c.step_cursor.new.disk) c.index_mut-pinned.result.now c.in_err-stepped.field-0.0 c.step_cursor.ensures.same (record {
      asked = c.in_err-stepped.ensures.cause.0;
      cause = c.in_err-stepped.ensures.cause.1;
      sound = c.in_err-stepped.ensures.sound;
    })
    (λ is_known. subst (GoesThrough c.args.index.now (g.D.Disk.state c.args.disk.now).bytes) (sym c.index_mut-pinned.ensures.value)
    (all_at (GoesThrough c.args.index.now (g.D.Disk.state c.args.disk.now).bytes) c.args.self.now.cursors.items c.in-Some.place c.index_mut-pinned.result.now found.0 (through is_known)))))

pub returns-clause-through : goal.returns-clause-through
returns-clause-through g c = λ through is_known.
    let found = position-Some (λ (x : PinnedCursor). x.number == c.args.number) c.args.self.now.cursors.items c.in-Some.place c.index_mut-pinned.result.now (sym c.place_of.ensures ∙ c.in-Some.is) in
    let now : IsTrue (g.D.Disk.state c.args.disk.now).is_known = subst IsTrue c.step_cursor.ensures.same.same_known is_known in
    let goes = subst (GoesThrough c.args.index.now (g.D.Disk.state c.args.disk.now).bytes) (sym c.index_mut-pinned.ensures.value)
    (all_at (GoesThrough c.args.index.now (g.D.Disk.state c.args.disk.now).bytes) c.args.self.now.cursors.items c.in-Some.place c.index_mut-pinned.result.now found.0 (through now)) in
    subst (λ (bytes : List ℕ). AllByRecursion (GoesThrough c.args.index.now bytes) (set c.args.self.now.cursors.items c.in-Some.place (record { number = c.index_mut-pinned.result.now.number; cursor = c.step_cursor.new.cursor })))
    (sym c.step_cursor.ensures.same.same_bytes)
    (all_set (GoesThrough c.args.index.now (g.D.Disk.state c.args.disk.now).bytes) c.args.self.now.cursors.items c.in-Some.place (record { number = c.index_mut-pinned.result.now.number; cursor = c.step_cursor.new.cursor })
    (goes_on c.args.index.now (g.D.Disk.state c.args.disk.now).bytes c.index_mut-pinned.result.now goes c.step_cursor.new.cursor c.step_cursor.ensures.live (c.in_ok-stepped.ensures.walks now goes.walked)) (through now))
