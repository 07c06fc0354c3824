use Rattle.std.proofs.lemmas.Result.{err_from_is_err_and}
use Rattle.page_store.proofs.Published.{tour_passes}
use Rattle.page_tour.specs.Courses.{OpensNext}
use Rattle.page_tour.proofs.Published.{tour_stops}
use Rattle.job_make.proofs.Walked.{begins, ends, goes_on}
use Rattle.job_make.proofs.collecting.collect.Goals as goal

pub loop-tour-init : goal.loop-tour-init
loop-tour-init g c =
    let old = g.P.Pages.shelf c.args.pages.now in
    record {
      keeps = g.met.P.Pages.keeps_none c.args.pages.now;
      collecting = rw c.new-found.ensures.items (begins old old c.args.live.now c.in_ok-tour.tour c.in_ok-tour.ensures);
    }

pub returns-in_err-node-clause-sound : goal.returns-in_err-node-clause-sound
returns-in_err-node-clause-sound g c =
    let old = g.P.Pages.shelf c.args.pages.now in
    let new = g.P.Pages.shelf c.next.new.pages in
    let live = c.args.live.now in
    let before = c.loop-tour.invariant.collecting in
    let fault = c.in_err-node.field-0.0 in
    let cause = tour_stops old live (g.P.Pages.shelf c.loop-tour.pages) new c.loop-tour.tour before.opened before.tour fault c.in_err-node.ensures.stop in
    let p = err_from_is_err_and c.from_residual-in_err-node.result c.from_residual-in_err-node.ensures.1 in
    rw (p.1, p.2) (λ is_known s sound. tour_passes s live old new fault cause is_known sound)

pub loop-tour-preserved : goal.loop-tour-preserved
loop-tour-preserved g c =
    let old = g.P.Pages.shelf c.args.pages.now in
    let now = g.P.Pages.shelf c.loop-tour.pages in
    let new = g.P.Pages.shelf c.next.new.pages in
    let page = c.in-Some.field-0-0 in
    let opens : OpensNext now new c.loop-tour.tour c.next.new.self page c.in-Some.node = rw c.in-Some.is at c.in_ok-node.ensures.opened in
    record {
      keeps = g.met.P.Pages.keeps_both c.args.pages.now c.loop-tour.pages c.next.new.pages c.loop-tour.invariant.keeps c.next.ensures.keeps;
      collecting = rw c.in_ok-push_objects.ensures
          (goes_on old now c.args.live.now new c.loop-tour.tour c.next.new.self c.loop-tour.found.items page c.in-Some.node c.loop-tour.invariant.collecting opens c.next.ensures.same c.next.ensures.reads);
    }

pub returns-clause-found : goal.returns-clause-found
returns-clause-found g c =
    ends (g.P.Pages.shelf c.args.pages.now) (g.P.Pages.shelf c.loop-tour.pages) c.args.live.now c.loop-tour.tour c.loop-tour.found.items c.loop-tour.invariant.collecting (rw c.in_default.is at c.in_ok-node.ensures.ended).0
