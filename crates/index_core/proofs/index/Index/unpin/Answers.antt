use Rattle.std.proofs.Common.{sym, ap, subst, ◌∙◌, Option, Some}
use Rattle.std.specs.Prelude.{MatchOption}
use Rattle.free_pages.specs.Keeping.{FreePages}
use Rattle.index_core.specs.Index.{OpenIndex, IsValidFree}
use Rattle.index_core.specs.Pinning.{IsPinned, LiesBesideTree, LiesOutside}
use Rattle.index_core.specs.Writing.{GuardsPages}
use Rattle.index_core.proofs.Pinned.{unpinned_valid, unpinned_guarded, unpinned_beside, unpinned_outside}
use Rattle.index_core.proofs.index.Index.unpin.Goals as goal

pub put_free-requires-after_bounds : goal.put_free-requires-after_bounds
put_free-requires-after_bounds g c = λ κs within.
    let valid = subst (λ (free : Option FreePages). MatchOption free (Unit {0}) (IsValidFree c.self.inside.view.live)) (sym c.in-Some.ensures.value) c.self.invariant.free in
    subst (IsValidFree c.self.inside.view.live) (sym c.unpin.ensures.pins) (unpinned_valid c.self.inside.view.live c.in-Some.free c.args.generation valid)

pub returns-in-Some-clause-guarded : goal.returns-in-Some-clause-guarded
returns-in-Some-clause-guarded g c = λ other tree stays guards.
    let list = sym (c.in-Some.ensures.value ∙ ap (λ (i : OpenIndex g.row.M.Denot). i.free) c.self.view_is) in
    let is = c.put_free.ensures ∙ (ap (λ (i : OpenIndex g.row.M.Denot). record i { free = Some c.unpin.new.self }) c.self.view_is
    ∙ ap (λ (f : FreePages). record c.args.self.now { free = Some f }) c.unpin.ensures.pins) in
    subst (GuardsPages other tree) (sym is)
    (unpinned_guarded c.args.self.now c.in-Some.free c.args.generation list other tree (subst (IsPinned other) is stays) guards)

pub returns-in-Some-clause-beside : goal.returns-in-Some-clause-beside
returns-in-Some-clause-beside g c = λ nodes beside.
    let list = sym (c.in-Some.ensures.value ∙ ap (λ (i : OpenIndex g.row.M.Denot). i.free) c.self.view_is) in
    let is = c.put_free.ensures ∙ (ap (λ (i : OpenIndex g.row.M.Denot). record i { free = Some c.unpin.new.self }) c.self.view_is
    ∙ ap (λ (f : FreePages). record c.args.self.now { free = Some f }) c.unpin.ensures.pins) in
    subst (LiesBesideTree nodes) (sym is) (unpinned_beside c.args.self.now c.in-Some.free c.args.generation list nodes beside)

pub returns-in-Some-clause-outside : goal.returns-in-Some-clause-outside
returns-in-Some-clause-outside g c = λ tree outside.
    let list = sym (c.in-Some.ensures.value ∙ ap (λ (i : OpenIndex g.row.M.Denot). i.free) c.self.view_is) in
    let is = c.put_free.ensures ∙ (ap (λ (i : OpenIndex g.row.M.Denot). record i { free = Some c.unpin.new.self }) c.self.view_is
    ∙ ap (λ (f : FreePages). record c.args.self.now { free = Some f }) c.unpin.ensures.pins) in
    subst (LiesOutside tree) (sym is) (unpinned_outside c.args.self.now c.in-Some.free c.args.generation list tree outside)
