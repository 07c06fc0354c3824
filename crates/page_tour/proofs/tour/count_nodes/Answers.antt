use Rattle.std.proofs.Common.{◌∙◌, ◌∷◌, ◌++◌, [], arith, length-append}
use Rattle.std.proofs.lemmas.Result.{err_from_is_err_and}
use Rattle.page_store.proofs.Published.{tour_passes}
use Rattle.page_tour.specs.Courses.{OpensNext}
use Rattle.page_tour.proofs.Touring.{tour_goes_on, tour_stops}
use Rattle.page_tour.proofs.tour.count_nodes.Goals as goal

pub returns-in_err-next-clause-sound : goal.returns-in_err-next-clause-sound
returns-in_err-next-clause-sound g c =
    let old = g.P.Pages.shelf c.args.pages.now in
    let new = g.P.Pages.shelf c.next.new.pages in
    let live = c.args.live.now in
    let way = c.loop-tour.invariant.way in
    let fault = c.in_err-next.field-0.0 in
    let cause = tour_stops old live (g.P.Pages.shelf c.loop-tour.pages) new c.loop-tour.tour way.0 way.1 fault c.in_err-next.ensures.stop in
    let p = err_from_is_err_and c.from_residual-in_err-next.result c.from_residual-in_err-next.ensures.1 in
    rw (p.1, p.2) (λ is_known s sound. tour_passes s live old new fault cause is_known sound)

pub loop-tour-preserved-in-Some : goal.loop-tour-preserved-in-Some
loop-tour-preserved-in-Some g c =
    let old = g.P.Pages.shelf c.args.pages.now in
    let now = g.P.Pages.shelf c.loop-tour.pages in
    let new = g.P.Pages.shelf c.next.new.pages in
    let way = c.loop-tour.invariant.way in
    let one = c.in-Some.field-0 in
    let opens : OpensNext now new c.loop-tour.tour c.next.new.self one.0 one.1 = rw c.in-Some.is at c.in_ok-next.ensures.opened in
    record {
      keeps = g.met.P.Pages.keeps_both c.args.pages.now c.loop-tour.pages c.next.new.pages c.loop-tour.invariant.keeps c.next.ensures.keeps;
      no_fault = c.in_ok-next.ensures.no_fault ∙ c.loop-tour.invariant.no_fault;
      way = (
        way.0 ++ one.0 ∷ [],
        tour_goes_on old c.args.live.now now new c.loop-tour.tour way.0 way.1 c.next.new.self one.0 one.1 opens c.next.ensures.same c.next.ensures.reads,
        (let count = way.2 in let long = length-append way.0 (one.0 ∷ []) in omega arith),
      );
    }
