use Rattle.std.proofs.Common.{◌≡◌, ℕ, sym, ap, subst, ◌∙◌, Some}
use Rattle.std.specs.Prelude.{OnOk}
use Rattle.tree_shape.specs.declared.live.Live.{Live}
use Rattle.free_pages.specs.Keeping.{FreePages, IsFreeOrHeld}
use Rattle.index_core.specs.Files.{OpenFile}
use Rattle.index_core.specs.Index.{OpenIndex, IsValidFree, MayGoOn}
use Rattle.index_core.specs.Pinning.{pinned}
use Rattle.index_core.specs.Writing.{GuardsPages, IsExact}
use Rattle.index_core.proofs.Damaged.{list_blames}
use Rattle.index_core.proofs.Pinned.{pin_valid, put_back_exact, put_back_stands, pinned_guarded, pinned_guards}
use Rattle.index_core.proofs.index.Index.pin.Goals as goal

pub put_free-requires-after_bounds : goal.put_free-requires-after_bounds
put_free-requires-after_bounds g c = λ κs within.
    pin_valid c.take_free.new.self.file.live c.in-Ok.free c.pin-pinned.new.self c.pin-pinned.result
    (subst (λ (o : OpenFile g.row.M.Denot). IsValidFree o.live c.in-Ok.free) (sym c.in-Ok.ensures.reads.rest) c.in-Ok.ensures.valid)
    (subst (λ (t : Live). OnOk c.pin-pinned.result (c.pin-pinned.new.self ≡ pinned t.generation c.in-Ok.free)) c.live-live.ensures c.pin-pinned.ensures.ok) c.pin-pinned.ensures.err

pub returns-in-Ok-pinned-clause-stands : goal.returns-in-Ok-pinned-clause-stands
returns-in-Ok-pinned-clause-stands g c =
    let is = c.put_free.ensures ∙ ap (λ (i : OpenIndex g.row.M.Denot). record i { free = Some c.pin-pinned.new.self }) c.in-Ok.ensures.rest in
    subst (λ (i : OpenIndex g.row.M.Denot). MayGoOn i (g.D.Disk.state c.take_free.new.disk)) (sym is) (λ going.
    put_back_stands c.args.self.now c.take_free.new.self.file c.in-Ok.free (g.D.Disk.state c.args.disk.now) (g.D.Disk.state c.take_free.new.disk) c.in-Ok.ensures.reads c.in-Ok.ensures.list c.pin-pinned.new.self
    (λ page i. subst (λ (f : FreePages). IsFreeOrHeld f page) c.in-Ok-pinned.ensures.ok i) c.in-Ok.ensures.stands (c.requires.stands going) c.in-Ok.ensures.beside)

pub returns-in-Ok-pinned-clause-guards : goal.returns-in-Ok-pinned-clause-guards
returns-in-Ok-pinned-clause-guards g c = λ is_known tree reached.
    let same = ap (λ (t : Live). t.generation) c.live-live.ensures ∙ ap (λ (o : OpenFile g.row.M.Denot). o.live.generation) c.in-Ok.ensures.reads.rest in
    let is = c.put_free.ensures ∙ (ap (λ (i : OpenIndex g.row.M.Denot). record i { free = Some c.pin-pinned.new.self }) c.in-Ok.ensures.rest
    ∙ ap (λ (f : FreePages). record c.args.self.now { file = c.take_free.new.self.file; free = Some f }) (c.in-Ok-pinned.ensures.ok ∙ ap (λ (n : ℕ). pinned n c.in-Ok.free) same)) in
    subst (GuardsPages c.args.self.now.file.live.generation tree) (sym is)
    (pinned_guards c.args.self.now c.take_free.new.self.file c.in-Ok.free (g.D.Disk.state c.args.disk.now) (g.D.Disk.state c.take_free.new.disk) c.in-Ok.ensures.reads c.in-Ok.ensures.list tree
    (c.in-Ok.ensures.beside is_known) reached)

pub returns-in-Ok-pinned-clause-guarded : goal.returns-in-Ok-pinned-clause-guarded
returns-in-Ok-pinned-clause-guarded g c = λ generation tree guards.
    let same = ap (λ (t : Live). t.generation) c.live-live.ensures ∙ ap (λ (o : OpenFile g.row.M.Denot). o.live.generation) c.in-Ok.ensures.reads.rest in
    let is = c.put_free.ensures ∙ (ap (λ (i : OpenIndex g.row.M.Denot). record i { free = Some c.pin-pinned.new.self }) c.in-Ok.ensures.rest
    ∙ ap (λ (f : FreePages). record c.args.self.now { file = c.take_free.new.self.file; free = Some f }) (c.in-Ok-pinned.ensures.ok ∙ ap (λ (n : ℕ). pinned n c.in-Ok.free) same)) in
    subst (GuardsPages generation tree) (sym is)
    (pinned_guarded c.args.self.now c.take_free.new.self.file c.in-Ok.free (g.D.Disk.state c.args.disk.now) (g.D.Disk.state c.take_free.new.disk) c.in-Ok.ensures.reads c.in-Ok.ensures.list generation tree guards)

pub returns-in-Ok-pinned-clause-exact : goal.returns-in-Ok-pinned-clause-exact
returns-in-Ok-pinned-clause-exact g c = λ sound exact.
    let is = c.put_free.ensures ∙ ap (λ (i : OpenIndex g.row.M.Denot). record i { free = Some c.pin-pinned.new.self }) c.in-Ok.ensures.rest in
    subst (λ (i : OpenIndex g.row.M.Denot). IsExact i (g.D.Disk.state c.take_free.new.disk)) (sym is)
    (put_back_exact c.args.self.now c.take_free.new.self.file c.in-Ok.free (g.D.Disk.state c.args.disk.now) (g.D.Disk.state c.take_free.new.disk) c.in-Ok.ensures.reads c.in-Ok.ensures.list c.pin-pinned.new.self
    (λ page. (λ i. subst (λ (f : FreePages). IsFreeOrHeld f page) c.in-Ok-pinned.ensures.ok i, λ i. subst (λ (f : FreePages). IsFreeOrHeld f page) (sym c.in-Ok-pinned.ensures.ok) i)) (c.in-Ok.ensures.exact sound exact))

pub returns-in-Err-pinned-clause-exact : goal.returns-in-Err-pinned-clause-exact
returns-in-Err-pinned-clause-exact g c = λ sound exact.
    let is = c.put_free.ensures ∙ ap (λ (i : OpenIndex g.row.M.Denot). record i { free = Some c.pin-pinned.new.self }) c.in-Ok.ensures.rest in
    subst (λ (i : OpenIndex g.row.M.Denot). IsExact i (g.D.Disk.state c.take_free.new.disk)) (sym is)
    (put_back_exact c.args.self.now c.take_free.new.self.file c.in-Ok.free (g.D.Disk.state c.args.disk.now) (g.D.Disk.state c.take_free.new.disk) c.in-Ok.ensures.reads c.in-Ok.ensures.list c.pin-pinned.new.self
    (λ page. (λ i. subst (λ (f : FreePages). IsFreeOrHeld f page) c.in-Err-pinned.ensures.err i, λ i. subst (λ (f : FreePages). IsFreeOrHeld f page) (sym c.in-Err-pinned.ensures.err) i)) (c.in-Ok.ensures.exact sound exact))

pub returns-in-Err-clause-damage : goal.returns-in-Err-clause-damage
returns-in-Err-clause-damage g c = list_blames c.args.self.now.file (g.D.Disk.state c.args.disk.now) _ c.in-Err.fault c.in-Err.ensures.cause
