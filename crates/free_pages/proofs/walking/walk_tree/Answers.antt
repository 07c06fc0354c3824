use Rattle.std.proofs.Common.{◌≡◌, ◌∷◌, ℕ, List, reverse, subst, arith}
use Rattle.std.proofs.lemmas.Grind.{common_steps}
use Rattle.std.proofs.lemmas.Result.{err_from_is_err_and}
use Rattle.free_pages.specs.Opened.{IsUnderWay}
use Rattle.free_pages.proofs.Steps.{few_opened, fewer_opened}
use Rattle.free_pages.proofs.walking.walk_tree.Goals as goal

pub visit-requires-clause-few : goal.visit-requires-clause-few
visit-requires-clause-few g c =
    let way = c.loop-page.invariant.way in
    omega (arith, way.counted, few_opened c.loop-page.walk.opened.items way.opened way.flagged)

pub loop-page-smaller : goal.loop-page-smaller
loop-page-smaller g c =
    let old = g.P.Pages.shelf c.args.pages.now in
    let coming : reverse c.loop-page.walk.coming.items ≡ c.in-Some.page ∷ reverse c.pop.new.self.items = grind (arith, common_steps, c.in-Some.ensures.items) in
    let way = c.in_ok-visit.ensures.opened old c.args.live.now
    (subst (λ (xs : List ℕ). IsUnderWay old (g.P.Pages.shelf c.loop-page.pages) c.args.live.now c.loop-page.walk.count c.loop-page.walk.opened.items xs) coming c.loop-page.invariant.way) in
    omega (arith, way.counted, way.pages, few_opened c.visit.new.walk.opened.items way.opened way.flagged, c.in_ok-visit.ensures.one)

pub returns-in_err-visit-clause-err : goal.returns-in_err-visit-clause-err
returns-in_err-visit-clause-err g c =
    let old = g.P.Pages.shelf c.args.pages.now in
    let coming : reverse c.loop-page.walk.coming.items ≡ c.in-Some.page ∷ reverse c.pop.new.self.items = grind (arith, common_steps, c.in-Some.ensures.items) in
    let p = err_from_is_err_and c.from_residual-in_err-visit.result c.from_residual-in_err-visit.ensures.1 in
    rw (p.1, p.2) (c.in_err-visit.ensures.err old c.args.live.now (reverse c.pop.new.self.items)
    (subst (λ (xs : List ℕ). IsUnderWay old (g.P.Pages.shelf c.loop-page.pages) c.args.live.now c.loop-page.walk.count c.loop-page.walk.opened.items xs) coming c.loop-page.invariant.way))

pub returns-in_err-visit-clause-asked : goal.returns-in_err-visit-clause-asked
returns-in_err-visit-clause-asked g c some =
    let way = c.loop-page.invariant.way in
    omega (arith, way.asked, way.pages, c.visit.ensures.asked, some, fewer_opened c.loop-page.walk.opened.items way.opened way.flagged (omega (arith, some, way.pages)))

pub returns-clause-asked : goal.returns-clause-asked
returns-clause-asked g c some =
    let way = c.loop-page.invariant.way in
    omega (arith, way.asked, way.pages, few_opened c.loop-page.walk.opened.items way.opened way.flagged)

pub returns-clause-few : goal.returns-clause-few
returns-clause-few g c = omega (arith, c.loop-page.invariant.way.pages, (c.in_ok-walk.ensures.begun (g.P.Pages.shelf c.args.pages.now)).pages, c.in_ok-walk.ensures.few)

pub returns-in_err-visit-clause-reads : goal.returns-in_err-visit-clause-reads
returns-in_err-visit-clause-reads g c some =
    let way = c.loop-page.invariant.way in
    omega (arith, way.reads, way.pages, c.visit.ensures.reads, some, fewer_opened c.loop-page.walk.opened.items way.opened way.flagged (omega (arith, some, way.pages)))

pub returns-clause-reads : goal.returns-clause-reads
returns-clause-reads g c some =
    let way = c.loop-page.invariant.way in
    omega (arith, way.reads, way.pages, few_opened c.loop-page.walk.opened.items way.opened way.flagged)
