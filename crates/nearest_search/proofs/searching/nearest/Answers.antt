use Rattle.std.proofs.Common.{◌∙◌, ap, subst, ℕ, List}
use Rattle.std.specs.BinaryHeap.{heap_items}
use Rattle.scan_model.specs.declared.query.Query.TheVariants.{Nearest}
use Rattle.nearest_search.specs.Keeping.{kept_seen}
use Rattle.nearest_search.specs.Searched.{IsExplored}
use Rattle.nearest_search.proofs.Explored.{nearest_log, nearest_ends, nearest_spent, nearest_front, nearest_tagged}
use Rattle.nearest_search.proofs.searching.nearest.Goals as goal

pub returns-clause-log : goal.returns-clause-log
returns-clause-log g c =
    nearest_log (g.R.M.Metric.space (g.R.Ruler.metric c.args.ruler.now)) (g.met.R.Ruler.axioms c.args.ruler.now) (g.P.Pages.shelf c.args.pages.now) c.args.live.now c.args.q.now c.requires.point c.args.k (g.R.Ruler.used c.args.ruler.now)
    c.requires.some c.requires.few_pages (kept_seen c.explore.new.machine.kept) c.in_ok-explored.explored.rho c.in_ok-walk.walk.records.items c.in_ok-walk.walk.tagged.items
    c.in_ok-walk.ensures
    c.in_ok-of.field-0 c.in_ok-of.ensures.generation c.in_ok-of.ensures.root (c.in_ok-of.ensures.query ∙ ap (λ (p : List ℕ). Nearest p c.args.k) c.in_ok-point.ensures) c.in_ok-of.ensures.records
    c.in_ok-of.ensures.answers c.in_ok-of.ensures.hits

pub returns-clause-nearest : goal.returns-clause-nearest
returns-clause-nearest g c is_known sound =
    nearest_ends (g.R.M.Metric.space (g.R.Ruler.metric c.args.ruler.now)) (g.met.R.Ruler.axioms c.args.ruler.now) (g.P.Pages.shelf c.args.pages.now) c.args.live.now c.args.q.now c.requires.point c.args.k (g.R.Ruler.used c.args.ruler.now)
    c.requires.some (g.P.Pages.shelf c.explore.new.pages)
    (record { queue = c.explore.new.machine.frontier; best = heap_items c.explore.new.machine.best.heap; kept = kept_seen c.explore.new.machine.kept; used = g.R.Ruler.used c.explore.new.ruler })
    c.in_ok-explored.explored.rho c.in_ok-explored.explored.opened
    (subst (λ (k : ℕ). IsExplored (g.R.M.Metric.space (g.R.Ruler.metric c.args.ruler.now)) (g.P.Pages.shelf c.args.pages.now) (g.P.Pages.shelf c.explore.new.pages) c.args.live.now c.args.q.now k
    (record { queue = c.explore.new.machine.frontier; best = heap_items c.explore.new.machine.best.heap; kept = kept_seen c.explore.new.machine.kept; used = g.R.Ruler.used c.explore.new.ruler })
    c.in_ok-explored.explored.rho c.in_ok-explored.explored.opened (g.R.Ruler.used c.args.ruler.now)) c.in_ok-machine.ensures.count c.in_ok-explored.ensures.ok)
    c.in_ok-walk.walk.records.items c.in_ok-walk.walk.tagged.items
    c.in_ok-walk.ensures
    c.in_ok-of.field-0 c.in_ok-of.ensures.records c.in_ok-of.ensures.answers (returns-clause-log g c) is_known sound

pub returns-clause-few_measured : goal.returns-clause-few_measured
returns-clause-few_measured g c is_known sound =
    nearest_spent (g.R.M.Metric.space (g.R.Ruler.metric c.args.ruler.now)) (g.met.R.Ruler.axioms c.args.ruler.now) (g.P.Pages.shelf c.args.pages.now) c.args.live.now c.args.q.now c.requires.point c.args.k (g.R.Ruler.used c.args.ruler.now)
    c.requires.some (g.P.Pages.shelf c.explore.new.pages)
    (record { queue = c.explore.new.machine.frontier; best = heap_items c.explore.new.machine.best.heap; kept = kept_seen c.explore.new.machine.kept; used = g.R.Ruler.used c.explore.new.ruler })
    c.in_ok-explored.explored.rho c.in_ok-explored.explored.opened
    (subst (λ (k : ℕ). IsExplored (g.R.M.Metric.space (g.R.Ruler.metric c.args.ruler.now)) (g.P.Pages.shelf c.args.pages.now) (g.P.Pages.shelf c.explore.new.pages) c.args.live.now c.args.q.now k
    (record { queue = c.explore.new.machine.frontier; best = heap_items c.explore.new.machine.best.heap; kept = kept_seen c.explore.new.machine.kept; used = g.R.Ruler.used c.explore.new.ruler })
    c.in_ok-explored.explored.rho c.in_ok-explored.explored.opened (g.R.Ruler.used c.args.ruler.now)) c.in_ok-machine.ensures.count c.in_ok-explored.ensures.ok)
    c.in_ok-walk.walk.records.items c.in_ok-walk.walk.tagged.items
    c.in_ok-walk.ensures
    c.in_ok-of.field-0 c.in_ok-of.ensures.records is_known sound

pub returns-clause-front : goal.returns-clause-front
returns-clause-front g c is_known =
    nearest_front (g.R.M.Metric.space (g.R.Ruler.metric c.args.ruler.now)) (g.met.R.Ruler.axioms c.args.ruler.now) (g.P.Pages.shelf c.args.pages.now) c.args.live.now c.args.q.now c.requires.point c.args.k (g.R.Ruler.used c.args.ruler.now)
    (g.P.Pages.shelf c.explore.new.pages)
    (record { queue = c.explore.new.machine.frontier; best = heap_items c.explore.new.machine.best.heap; kept = kept_seen c.explore.new.machine.kept; used = g.R.Ruler.used c.explore.new.ruler })
    c.in_ok-explored.explored.rho c.in_ok-explored.explored.opened
    (subst (λ (k : ℕ). IsExplored (g.R.M.Metric.space (g.R.Ruler.metric c.args.ruler.now)) (g.P.Pages.shelf c.args.pages.now) (g.P.Pages.shelf c.explore.new.pages) c.args.live.now c.args.q.now k
    (record { queue = c.explore.new.machine.frontier; best = heap_items c.explore.new.machine.best.heap; kept = kept_seen c.explore.new.machine.kept; used = g.R.Ruler.used c.explore.new.ruler })
    c.in_ok-explored.explored.rho c.in_ok-explored.explored.opened (g.R.Ruler.used c.args.ruler.now)) c.in_ok-machine.ensures.count c.in_ok-explored.ensures.ok)
    c.in_ok-walk.walk.records.items c.in_ok-walk.walk.tagged.items
    c.in_ok-walk.ensures
    c.in_ok-of.field-0 c.in_ok-of.ensures.records c.in_ok-of.ensures.answers is_known

pub returns-clause-tagged : goal.returns-clause-tagged
returns-clause-tagged g c is_known =
    nearest_tagged (g.R.M.Metric.space (g.R.Ruler.metric c.args.ruler.now)) (g.met.R.Ruler.axioms c.args.ruler.now) (g.P.Pages.shelf c.args.pages.now) c.args.live.now c.args.q.now c.requires.point c.args.k (g.R.Ruler.used c.args.ruler.now)
    (g.P.Pages.shelf c.explore.new.pages)
    (record { queue = c.explore.new.machine.frontier; best = heap_items c.explore.new.machine.best.heap; kept = kept_seen c.explore.new.machine.kept; used = g.R.Ruler.used c.explore.new.ruler })
    c.in_ok-explored.explored.rho c.in_ok-explored.explored.opened
    (subst (λ (k : ℕ). IsExplored (g.R.M.Metric.space (g.R.Ruler.metric c.args.ruler.now)) (g.P.Pages.shelf c.args.pages.now) (g.P.Pages.shelf c.explore.new.pages) c.args.live.now c.args.q.now k
    (record { queue = c.explore.new.machine.frontier; best = heap_items c.explore.new.machine.best.heap; kept = kept_seen c.explore.new.machine.kept; used = g.R.Ruler.used c.explore.new.ruler })
    c.in_ok-explored.explored.rho c.in_ok-explored.explored.opened (g.R.Ruler.used c.args.ruler.now)) c.in_ok-machine.ensures.count c.in_ok-explored.ensures.ok)
    c.in_ok-walk.walk.records.items c.in_ok-walk.walk.tagged.items
    c.in_ok-walk.ensures
    c.in_ok-of.field-0 c.in_ok-of.ensures.records c.in_ok-of.ensures.tagged is_known
