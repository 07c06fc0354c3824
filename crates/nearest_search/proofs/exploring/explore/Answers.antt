use Rattle.std.proofs.Common.{◌∙◌, ℕ, suc, ap, subst, refl, arith}
use Rattle.std.specs.BinaryHeap.{heap_items}
use Rattle.metric_laws.specs.Counts.{next_count}
use Rattle.log_model.specs.Walk.{search_at}
use Rattle.log_model.proofs.Published.{count_up_more}
use Rattle.nearest_search.specs.Counts.{IsRadius}
use Rattle.nearest_search.specs.Keeping.{kept_seen}
use Rattle.nearest_search.proofs.Explored.{explore_begins, explore_steps, explore_room, explore_passes, explore_cause, explore_repeats}
use Rattle.nearest_search.proofs.Spans.{none_fit}
use Rattle.nearest_search.proofs.exploring.explore.Goals as goal

pub loop-next-init : goal.loop-next-init
loop-next-init g c = record {
  metric = refl;
  used = omega arith;
  keeps = g.met.P.Pages.keeps_none c.args.pages.now;
  no_fault = refl;
  count = refl;
  fits = none_fit c.args.machine.now.kept c.requires.kept;
  exploring = rw (c.requires.queue, c.requires.best, c.requires.kept)
      (explore_begins (g.R.M.Metric.space (g.R.Ruler.metric c.args.ruler.now)) (g.met.R.Ruler.axioms c.args.ruler.now) (g.P.Pages.shelf c.args.pages.now) c.args.live.now c.args.q.now c.requires.point c.args.machine.now.best.k (g.R.Ruler.used c.args.ruler.now));
}

pub returns-then-opened-live-clause-sound : goal.returns-then-opened-live-clause-sound
returns-then-opened-live-clause-sound g c is_known sound =
    explore_room (g.R.M.Metric.space (g.R.Ruler.metric c.args.ruler.now)) (g.met.R.Ruler.axioms c.args.ruler.now) (g.P.Pages.shelf c.args.pages.now) c.args.live.now c.args.q.now c.requires.point c.args.machine.now.best.k (g.R.Ruler.used c.args.ruler.now)
    (g.P.Pages.shelf c.loop-next.pages) (record { queue = c.loop-next.machine.frontier; best = heap_items c.loop-next.machine.best.heap; kept = kept_seen c.loop-next.machine.kept; used = g.R.Ruler.used c.loop-next.ruler }) c.loop-next.opened
    c.loop-next.invariant.exploring c.radius-rho.result (subst (λ (k : ℕ). IsRadius k (heap_items c.loop-next.machine.best.heap) c.radius-rho.result) c.loop-next.invariant.count c.radius-rho.ensures)
    c.in-Some.next c.take_next.new.self c.in-Some.ensures.some c.if-opened-live.true is_known sound

pub returns-in-Err-clause-sound : goal.returns-in-Err-clause-sound
returns-in-Err-clause-sound g c is_known sound =
    explore_passes (g.R.M.Metric.space (g.R.Ruler.metric c.args.ruler.now)) (g.met.R.Ruler.axioms c.args.ruler.now) (g.P.Pages.shelf c.args.pages.now) c.args.live.now c.args.q.now c.requires.point c.args.machine.now.best.k (g.R.Ruler.used c.args.ruler.now)
    (g.P.Pages.shelf c.loop-next.pages) (record { queue = c.loop-next.machine.frontier; best = heap_items c.loop-next.machine.best.heap; kept = kept_seen c.loop-next.machine.kept; used = g.R.Ruler.used c.loop-next.ruler }) c.loop-next.opened
    c.loop-next.invariant.exploring c.radius-rho.result (subst (λ (k : ℕ). IsRadius k (heap_items c.loop-next.machine.best.heap) c.radius-rho.result) c.loop-next.invariant.count c.radius-rho.ensures)
    c.in-Some.next c.take_next.new.self c.in-Some.ensures.some (g.P.Pages.shelf c.open_page.new.pages) c.in-Err.fault c.in-Err.ensures.cause is_known sound

pub returns-then-opened-live-clause-cause : goal.returns-then-opened-live-clause-cause
returns-then-opened-live-clause-cause g c =
    explore_repeats (g.R.M.Metric.space (g.R.Ruler.metric c.args.ruler.now)) (g.met.R.Ruler.axioms c.args.ruler.now) (g.P.Pages.shelf c.args.pages.now) c.args.live.now c.args.q.now c.requires.point c.args.machine.now.best.k (g.R.Ruler.used c.args.ruler.now)
    (g.P.Pages.shelf c.loop-next.pages) (record { queue = c.loop-next.machine.frontier; best = heap_items c.loop-next.machine.best.heap; kept = kept_seen c.loop-next.machine.kept; used = g.R.Ruler.used c.loop-next.ruler }) c.loop-next.opened
    c.loop-next.invariant.exploring c.radius-rho.result (subst (λ (k : ℕ). IsRadius k (heap_items c.loop-next.machine.best.heap) c.radius-rho.result) c.loop-next.invariant.count c.radius-rho.ensures)
    c.in-Some.next c.take_next.new.self c.in-Some.ensures.some c.if-opened-live.true

pub returns-in-Err-clause-cause : goal.returns-in-Err-clause-cause
returns-in-Err-clause-cause g c =
    explore_cause (g.R.M.Metric.space (g.R.Ruler.metric c.args.ruler.now)) (g.met.R.Ruler.axioms c.args.ruler.now) (g.P.Pages.shelf c.args.pages.now) c.args.live.now c.args.q.now c.requires.point c.args.machine.now.best.k (g.R.Ruler.used c.args.ruler.now)
    (g.P.Pages.shelf c.loop-next.pages) (record { queue = c.loop-next.machine.frontier; best = heap_items c.loop-next.machine.best.heap; kept = kept_seen c.loop-next.machine.kept; used = g.R.Ruler.used c.loop-next.ruler }) c.loop-next.opened
    c.loop-next.invariant.exploring c.radius-rho.result (subst (λ (k : ℕ). IsRadius k (heap_items c.loop-next.machine.best.heap) c.radius-rho.result) c.loop-next.invariant.count c.radius-rho.ensures)
    c.in-Some.next c.take_next.new.self c.in-Some.ensures.some (g.P.Pages.shelf c.open_page.new.pages) c.in-Err.fault c.in-Err.ensures.cause

pub loop-next-preserved : goal.loop-next-preserved
loop-next-preserved g c = record {
  metric = c.open_page.ensures.metric ∙ c.loop-next.invariant.metric;
  used = omega (arith, c.open_page.ensures.used, c.loop-next.invariant.used);
  keeps = g.met.P.Pages.keeps_both c.args.pages.now c.loop-next.pages c.open_page.new.pages c.loop-next.invariant.keeps c.open_page.ensures.keeps;
  no_fault = c.in-Ok.ensures.no_fault ∙ c.loop-next.invariant.no_fault;
  count = c.open_page.ensures.count ∙ c.loop-next.invariant.count;
  fits = c.in-Ok.ensures.fits;
  exploring = explore_steps (g.R.M.Metric.space (g.R.Ruler.metric c.args.ruler.now)) (g.met.R.Ruler.axioms c.args.ruler.now) (g.P.Pages.shelf c.args.pages.now) c.args.live.now c.args.q.now c.requires.point c.args.machine.now.best.k (g.R.Ruler.used c.args.ruler.now)
      (g.P.Pages.shelf c.loop-next.pages) (record { queue = c.loop-next.machine.frontier; best = heap_items c.loop-next.machine.best.heap; kept = kept_seen c.loop-next.machine.kept; used = g.R.Ruler.used c.loop-next.ruler }) c.loop-next.opened
      c.loop-next.invariant.exploring c.radius-rho.result (subst (λ (k : ℕ). IsRadius k (heap_items c.loop-next.machine.best.heap) c.radius-rho.result) c.loop-next.invariant.count c.radius-rho.ensures)
      c.in-Some.next c.take_next.new.self c.in-Some.ensures.some (search_at (g.R.M.Metric.space (g.R.Ruler.metric c.loop-next.ruler)) c.args.q.now c.radius-rho.result) c.loop-next.machine.best.k
      (g.P.Pages.shelf c.open_page.new.pages) (record { queue = c.open_page.new.machine.frontier; best = heap_items c.open_page.new.machine.best.heap; kept = kept_seen c.open_page.new.machine.kept; used = g.R.Ruler.used c.open_page.new.ruler })
      (ap (λ m. search_at (g.R.M.Metric.space m) c.args.q.now c.radius-rho.result) c.loop-next.invariant.metric) c.loop-next.invariant.count
      c.in-Ok.ensures.opened c.open_page.ensures.same c.open_page.ensures.asked c.open_page.ensures.reads (let f = c.loop-next.invariant.exploring.few in omega arith);
}

pub returns-in-Err-clause-asked : goal.returns-in-Err-clause-asked
returns-in-Err-clause-asked g c = (
  suc c.loop-next.opened,
  (let few = c.loop-next.invariant.exploring.few in omega arith),
  c.open_page.ensures.asked ∙ ap next_count c.loop-next.invariant.exploring.asked ∙ count_up_more (g.P.Pages.shelf c.args.pages.now).asked c.loop-next.opened,
)

pub returns-in-Err-clause-measured : goal.returns-in-Err-clause-measured
returns-in-Err-clause-measured g c = record {
  opened = suc c.loop-next.opened;
  few = (let few = c.loop-next.invariant.exploring.few in omega arith);
  asked_is = c.open_page.ensures.asked ∙ ap next_count c.loop-next.invariant.exploring.asked ∙ count_up_more (g.P.Pages.shelf c.args.pages.now).asked c.loop-next.opened;
  used_few = omega (arith, c.open_page.ensures.used, c.loop-next.invariant.used);
}

pub returns-then-opened-live-clause-measured : goal.returns-then-opened-live-clause-measured
returns-then-opened-live-clause-measured g c = record {
  opened = c.loop-next.opened;
  few = c.loop-next.invariant.exploring.few;
  asked_is = c.loop-next.invariant.exploring.asked;
  used_few = c.loop-next.invariant.used;
}

pub returns-in_default-clause-measured : goal.returns-in_default-clause-measured
returns-in_default-clause-measured g c = record {
  opened = c.loop-next.opened;
  few = c.loop-next.invariant.exploring.few;
  asked_is = c.loop-next.invariant.exploring.asked;
  used_few = c.loop-next.invariant.used;
}
