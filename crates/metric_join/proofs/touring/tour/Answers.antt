use Rattle.std.proofs.Common.{◌≡◌, ◌∙◌, ◌∷◌, ◌++◌, [], None, sym, subst, arith}
use Rattle.std.proofs.lemmas.Grind.{common_steps}
use Rattle.std.proofs.lemmas.Result.{err_from_is_err_and}
use Rattle.page_tour.specs.Courses.{OpensNext}
use Rattle.page_tour.proofs.Published.{tour_goes_on, tour_stops}
use Rattle.metric_join.specs.Joined.{IsWalked}
use Rattle.metric_join.proofs.Course.{walked_at_end}
use Rattle.metric_join.proofs.touring.tour.Goals as goal

pub loop-tour-preserved-in-Some : goal.loop-tour-preserved-in-Some
loop-tour-preserved-in-Some g c =
    let old = g.P.Pages.shelf c.args.pages.now in
    let now = g.P.Pages.shelf c.loop-tour.pages in
    let new = g.P.Pages.shelf c.next.new.pages in
    let way = c.loop-tour.invariant.way in
    let one = c.in-Some.field-0 in
    let opens : OpensNext now new c.loop-tour.tour c.next.new.self one.0 one.1 = rw c.in-Some.is at c.in_ok-next.ensures.opened in
    record {
      keeps = g.met.P.Pages.keeps_both c.args.pages.now c.loop-tour.pages c.next.new.pages c.loop-tour.invariant.keeps c.next.ensures.keeps;
      no_fault = c.in_ok-next.ensures.no_fault ∙ c.loop-tour.invariant.no_fault;
      way = (
        way.0 ++ one.0 ∷ [],
        tour_goes_on old c.args.live.now now new c.loop-tour.tour way.0 way.1 c.next.new.self one.0 one.1 opens c.next.ensures.same c.next.ensures.reads,
      );
    }

pub returns-in_err-next-clause-cause : goal.returns-in_err-next-clause-cause
returns-in_err-next-clause-cause g c =
    let old = g.P.Pages.shelf c.args.pages.now in
    let new = g.P.Pages.shelf c.next.new.pages in
    let way = c.loop-tour.invariant.way in
    let p = err_from_is_err_and c.from_residual-in_err-next.result c.from_residual-in_err-next.ensures.1 in
    rw (p.1, p.2)
    (tour_stops old c.args.live.now (g.P.Pages.shelf c.loop-tour.pages) new c.loop-tour.tour way.0 way.1 c.in_err-next.field-0.0 c.in_err-next.ensures.stop)

pub returns-clause-walked : goal.returns-clause-walked
returns-clause-walked g c =
    let old = g.P.Pages.shelf c.args.pages.now in
    let now = g.P.Pages.shelf c.loop-tour.pages in
    let way = c.loop-tour.invariant.way in
    let none : c.in_ok-next.field-0 ≡ None = grind (arith, common_steps, c.in_default.not-Some) in
    let facts : (c.loop-tour.tour.coming ≡ []) × (c.next.new.self ≡ c.loop-tour.tour) × (c.next.new.pages ≡ c.loop-tour.pages) = rw none at c.in_ok-next.ensures.ended in
    subst (λ p. IsWalked c.args.live.now old (g.P.Pages.shelf p) 0) (sym facts.2) (walked_at_end c.args.live.now old now c.loop-tour.tour way.0 facts.0 way.1)
