use Rattle.std.proofs.Common.{rules, ◌≡◌, ◌∙◌, [], ◌∷◌, ap, arith, subst, refl, length-append}
use Rattle.std.proofs.lemmas.Result.{err_from_is_err_and}
use Rattle.pin_cursor.specs.declared.waiting.Subtree.{Subtree}
use Rattle.pin_cursor.specs.declared.waiting.Candidate.{Candidate}
use Rattle.pin_cursor.specs.Lines.{Tried}
use Rattle.pin_cursor.specs.Cursor.{hit_of}
use Rattle.pin_cursor.specs.Steps.{IsOpened}
use Rattle.pin_cursor.proofs.Ways.{way_begins, way_asked_more, way_opens, way_cause, way_repeats, way_passes, way_room, way_small, way_gives}
use Rattle.pin_cursor.proofs.stepping.advance.Goals as goal

pub loop-alloc-init : goal.loop-alloc-init
loop-alloc-init g c = record {
  metric = refl;
  keeps = g.met.P.Pages.keeps_none c.args.pages.now;
  no_fault = refl;
  subtrees = refl;
  candidates = refl;
  long = rw c.requires.hits (omega arith);
  way = rw (c.requires.hits, c.requires.tags) (way_begins (g.R.M.Metric.space (g.R.Ruler.metric c.args.ruler.now)) (g.met.R.Ruler.axioms c.args.ruler.now) (g.P.Pages.shelf c.args.pages.now) c.args.live.now
      c.args.goal.q.now c.requires.point c.args.walk.now.given c.args.walk.now.opened c.args.walk.now.subtrees.waits c.args.walk.now.candidates.waits c.requires.few c.requires.room);
}

pub returns-then-spent-clause-cause : goal.returns-then-spent-clause-cause
returns-then-spent-clause-cause g c =
    way_repeats (g.R.M.Metric.space (g.R.Ruler.metric c.args.ruler.now)) (g.met.R.Ruler.axioms c.args.ruler.now) (g.P.Pages.shelf c.args.pages.now) c.args.live.now c.args.goal.q.now c.requires.point
    c.args.walk.now.given c.args.walk.now.opened c.args.walk.now.subtrees.waits c.args.walk.now.candidates.waits (g.P.Pages.shelf c.loop-alloc.pages) c.loop-alloc.walk.given c.loop-alloc.walk.opened c.loop-alloc.walk.subtrees.waits
    c.loop-alloc.walk.candidates.waits c.loop-alloc.walk.hits.items c.loop-alloc.walk.tags.items c.loop-alloc.invariant.way c.in-Some.next c.take_within.new.subtrees.waits (rw c.in-Some.is at c.in_ok-next.ensures.some) (search rules)

pub returns-then-spent-clause-sound : goal.returns-then-spent-clause-sound
returns-then-spent-clause-sound g c nodes is_known sound holds on =
    way_room (g.R.M.Metric.space (g.R.Ruler.metric c.args.ruler.now)) (g.met.R.Ruler.axioms c.args.ruler.now) (g.P.Pages.shelf c.args.pages.now) c.args.live.now c.args.goal.q.now c.requires.point
    c.args.walk.now.given c.args.walk.now.opened c.args.walk.now.subtrees.waits c.args.walk.now.candidates.waits (g.P.Pages.shelf c.loop-alloc.pages) c.loop-alloc.walk.given c.loop-alloc.walk.opened c.loop-alloc.walk.subtrees.waits
    c.loop-alloc.walk.candidates.waits c.loop-alloc.walk.hits.items c.loop-alloc.walk.tags.items c.loop-alloc.invariant.way c.in-Some.next c.take_within.new.subtrees.waits (rw c.in-Some.is at c.in_ok-next.ensures.some) nodes is_known sound holds on
    (search rules)

pub returns-in_err-open_page-clause-asked : goal.returns-in_err-open_page-clause-asked
returns-in_err-open_page-clause-asked g c =
    way_asked_more (g.R.M.Metric.space (g.R.Ruler.metric c.args.ruler.now)) (g.met.R.Ruler.axioms c.args.ruler.now) (g.P.Pages.shelf c.args.pages.now) c.args.live.now c.args.goal.q.now c.requires.point
    c.args.walk.now.given c.args.walk.now.opened c.args.walk.now.subtrees.waits c.args.walk.now.candidates.waits (g.P.Pages.shelf c.loop-alloc.pages) c.loop-alloc.walk.given c.loop-alloc.walk.opened c.loop-alloc.walk.subtrees.waits
    c.loop-alloc.walk.candidates.waits c.loop-alloc.walk.hits.items c.loop-alloc.walk.tags.items c.loop-alloc.invariant.way (g.P.Pages.shelf c.open_page.new.pages) (let f = c.loop-alloc.invariant.way.few in omega arith)
    c.open_page.ensures.asked

pub returns-in_err-open_page-clause-cause : goal.returns-in_err-open_page-clause-cause
returns-in_err-open_page-clause-cause g c =
    let p = err_from_is_err_and c.from_residual-in_err-open_page.result c.from_residual-in_err-open_page.ensures.1 in
    rw (p.1, p.2) (way_cause (g.R.M.Metric.space (g.R.Ruler.metric c.args.ruler.now)) (g.met.R.Ruler.axioms c.args.ruler.now) (g.P.Pages.shelf c.args.pages.now) c.args.live.now c.args.goal.q.now c.requires.point
    c.args.walk.now.given c.args.walk.now.opened c.args.walk.now.subtrees.waits c.args.walk.now.candidates.waits (g.P.Pages.shelf c.loop-alloc.pages) c.loop-alloc.walk.given c.loop-alloc.walk.opened c.loop-alloc.walk.subtrees.waits
    c.loop-alloc.walk.candidates.waits c.loop-alloc.walk.hits.items c.loop-alloc.walk.tags.items c.loop-alloc.invariant.way c.in-Some.next c.take_within.new.subtrees.waits (rw c.in-Some.is at c.in_ok-next.ensures.some)
    (g.P.Pages.shelf c.open_page.new.pages) c.in_err-open_page.field-0.0 c.in_err-open_page.ensures.cause)

pub returns-in_err-open_page-clause-sound : goal.returns-in_err-open_page-clause-sound
returns-in_err-open_page-clause-sound g c =
    let p = err_from_is_err_and c.from_residual-in_err-open_page.result c.from_residual-in_err-open_page.ensures.1 in
    rw (p.1, p.2) (λ nodes is_known sound holds on. way_passes (g.R.M.Metric.space (g.R.Ruler.metric c.args.ruler.now)) (g.met.R.Ruler.axioms c.args.ruler.now) (g.P.Pages.shelf c.args.pages.now) c.args.live.now c.args.goal.q.now c.requires.point
    c.args.walk.now.given c.args.walk.now.opened c.args.walk.now.subtrees.waits c.args.walk.now.candidates.waits (g.P.Pages.shelf c.loop-alloc.pages) c.loop-alloc.walk.given c.loop-alloc.walk.opened c.loop-alloc.walk.subtrees.waits
    c.loop-alloc.walk.candidates.waits c.loop-alloc.walk.hits.items c.loop-alloc.walk.tags.items c.loop-alloc.invariant.way c.in-Some.next c.take_within.new.subtrees.waits (rw c.in-Some.is at c.in_ok-next.ensures.some) nodes is_known sound holds on
    (g.P.Pages.shelf c.open_page.new.pages) c.in_err-open_page.field-0.0 c.in_err-open_page.ensures.cause)

pub loop-alloc-preserved-in-Some : goal.loop-alloc-preserved-in-Some
loop-alloc-preserved-in-Some g c = record {
  metric = c.open_page.ensures.metric ∙ c.loop-alloc.invariant.metric;
  keeps = g.met.P.Pages.keeps_both c.args.pages.now c.loop-alloc.pages c.open_page.new.pages c.loop-alloc.invariant.keeps c.open_page.ensures.keeps;
  no_fault = c.in_ok-open_page.ensures.no_fault ∙ c.loop-alloc.invariant.no_fault;
  subtrees = c.open_page.ensures.subtrees ∙ c.take_within.ensures.handed ∙ c.loop-alloc.invariant.subtrees;
  candidates = c.open_page.ensures.candidates ∙ c.loop-alloc.invariant.candidates;
  long = rw c.open_page.ensures.hits c.loop-alloc.invariant.long;
  way = rw (c.open_page.ensures.given, c.open_page.ensures.opened, c.open_page.ensures.hits, c.open_page.ensures.tags)
      (way_opens (g.R.M.Metric.space (g.R.Ruler.metric c.args.ruler.now)) (g.met.R.Ruler.axioms c.args.ruler.now) (g.P.Pages.shelf c.args.pages.now) c.args.live.now c.args.goal.q.now c.requires.point
      c.args.walk.now.given c.args.walk.now.opened c.args.walk.now.subtrees.waits c.args.walk.now.candidates.waits (g.P.Pages.shelf c.loop-alloc.pages) c.loop-alloc.walk.given c.loop-alloc.walk.opened c.loop-alloc.walk.subtrees.waits
      c.loop-alloc.walk.candidates.waits c.loop-alloc.walk.hits.items c.loop-alloc.walk.tags.items c.loop-alloc.invariant.way c.in-Some.next c.take_within.new.subtrees.waits (rw c.in-Some.is at c.in_ok-next.ensures.some)
      (g.P.Pages.shelf c.open_page.new.pages) c.open_page.new.walk.candidates.waits c.open_page.new.walk.subtrees.waits
      (subst (λ m. IsOpened (g.R.M.Metric.space m) c.args.goal.q.now (g.P.Pages.shelf c.loop-alloc.pages) c.in-Some.next.page c.loop-alloc.walk.candidates.waits c.open_page.new.walk.candidates.waits c.take_within.new.subtrees.waits
      c.open_page.new.walk.subtrees.waits) c.loop-alloc.invariant.metric c.in_ok-open_page.ensures.node)
      c.open_page.ensures.same c.open_page.ensures.asked c.open_page.ensures.reads (let f = c.loop-alloc.invariant.way.few in omega arith));
}

pub give-requires : goal.give-requires
give-requires g c =
    way_small (g.R.M.Metric.space (g.R.Ruler.metric c.args.ruler.now)) (g.met.R.Ruler.axioms c.args.ruler.now) (g.P.Pages.shelf c.args.pages.now) c.args.live.now c.args.goal.q.now c.requires.point
    c.args.walk.now.given c.args.walk.now.opened c.args.walk.now.subtrees.waits c.args.walk.now.candidates.waits (g.P.Pages.shelf c.loop-alloc.pages) c.loop-alloc.walk.given c.loop-alloc.walk.opened c.loop-alloc.walk.subtrees.waits
    c.loop-alloc.walk.candidates.waits c.loop-alloc.walk.hits.items c.loop-alloc.walk.tags.items c.loop-alloc.invariant.way (omega arith)

pub loop-alloc-preserved : goal.loop-alloc-preserved
loop-alloc-preserved g c =
    let same : c.take_within.new.subtrees.waits ≡ c.loop-alloc.walk.subtrees.waits = rw c.in_default.is at c.in_ok-next.ensures.same in record {
      metric = c.loop-alloc.invariant.metric;
      keeps = c.loop-alloc.invariant.keeps;
      no_fault = c.loop-alloc.invariant.no_fault;
      subtrees = ap (λ (t : Tried Subtree). t.handed) c.give.ensures.subtrees ∙ c.take_within.ensures.handed ∙ c.loop-alloc.invariant.subtrees;
      candidates = ap (λ (t : Tried Candidate). t.handed) c.give.ensures.candidates ∙ c.take_nearest.ensures.handed ∙ c.loop-alloc.invariant.candidates;
      long = rw c.in_ok-give.ensures.hits (let l = length-append c.loop-alloc.walk.hits.items (hit_of c.in-Some-2.next ∷ []) in omega arith);
      way = rw (c.in_ok-give.ensures.given, c.give.ensures.opened, c.give.ensures.subtrees, same, c.give.ensures.candidates, c.in_ok-give.ensures.hits, c.in_ok-give.ensures.tags)
          (way_gives (g.R.M.Metric.space (g.R.Ruler.metric c.args.ruler.now)) (g.met.R.Ruler.axioms c.args.ruler.now) (g.P.Pages.shelf c.args.pages.now) c.args.live.now c.args.goal.q.now c.requires.point
          c.args.walk.now.given c.args.walk.now.opened c.args.walk.now.subtrees.waits c.args.walk.now.candidates.waits (g.P.Pages.shelf c.loop-alloc.pages) c.loop-alloc.walk.given c.loop-alloc.walk.opened c.loop-alloc.walk.subtrees.waits
          c.loop-alloc.walk.candidates.waits c.loop-alloc.walk.hits.items c.loop-alloc.walk.tags.items c.loop-alloc.invariant.way c.in-Some-2.next c.take_nearest.new.candidates.waits (rw c.in-Some-2.is at c.in_ok-next-2.ensures.some)
          (rw c.in-Some-2.is at c.in_ok-next-2.ensures.first) c.reach_of-reach.result c.reach_of-reach.ensures (rw c.in_default.is at c.in_ok-next.ensures.none));
    }
