use Rattle.std.proofs.Common.{◌∙◌, ap, subst, sym, ℕ, List, []}
use Rattle.std.proofs.lemmas.Result.{err_from_is_err_and}
use Rattle.scan_model.specs.declared.query.Query.TheVariants.{Range}
use Rattle.page_store.specs.Reading.{nodes_of}
use Rattle.log_model.specs.Walk.{search_at}
use Rattle.log_model.specs.Met.{tagged_by}
use Rattle.range_search.specs.Searched.{IsUnderWay}
use Rattle.range_search.proofs.Answered.{range_found, found_scanned, passes}
use Rattle.range_search.proofs.searching.range.Goals as goal

pub returns-in_err-walk-clause-sound : goal.returns-in_err-walk-clause-sound
returns-in_err-walk-clause-sound g c =
    let p = err_from_is_err_and c.from_residual-in_err-walk.result c.from_residual-in_err-walk.ensures.1 in
    rw (p.1, p.2) (λ is_known sound. passes (search_at (g.R.M.Metric.space (g.R.Ruler.metric c.args.ruler.now)) c.args.q.now c.min.result) c.args.live.now (g.P.Pages.shelf c.args.pages.now) (g.P.Pages.shelf c.follow.new.pages)
    c.in_err-walk.field-0.0 c.in_err-walk.ensures.cause is_known sound)

pub returns-clause-found : goal.returns-clause-found
returns-clause-found g c =
    let query = c.in_ok-of.ensures.query ∙ ap (λ (p : List ℕ). Range p c.args.r) c.in_ok-point.ensures in
    range_found (g.R.M.Metric.space (g.R.Ruler.metric c.args.ruler.now)) (g.met.R.Ruler.axioms c.args.ruler.now) c.args.live.now c.args.q.now c.args.r
    c.requires.point c.requires.few_pages (g.P.Pages.shelf c.args.pages.now) (g.P.Pages.shelf c.follow.new.pages) (g.R.Ruler.used c.args.ruler.now) (g.R.Ruler.used c.follow.new.ruler)
    c.in_ok-walk.walk.records.items c.in_ok-walk.walk.tagged.items
    (subst (λ (rho : ℕ). IsUnderWay (search_at (g.R.M.Metric.space (g.R.Ruler.metric c.args.ruler.now)) c.args.q.now rho) (g.P.Pages.shelf c.args.pages.now) (g.P.Pages.shelf c.follow.new.pages)
    (g.R.Ruler.used c.args.ruler.now) (g.R.Ruler.used c.follow.new.ruler) c.args.live.now.root c.in_ok-walk.walk.records.items c.in_ok-walk.walk.tagged.items []) c.min.ensures c.in_ok-walk.ensures.ok)
    c.in_ok-walk.ensures.few c.in_ok-of.field-0 c.in_ok-of.ensures.generation c.in_ok-of.ensures.root query c.in_ok-of.ensures.records
    c.in_ok-of.ensures.answers c.in_ok-of.ensures.hits

pub returns-clause-scanned : goal.returns-clause-scanned
returns-clause-scanned g c is_known sound =
    let found = returns-clause-found g c in
    found_scanned (g.R.M.Metric.space (g.R.Ruler.metric c.args.ruler.now)) (g.met.R.Ruler.axioms c.args.ruler.now) c.args.live.now (Range c.args.q.now c.args.r)
    (nodes_of (g.P.Pages.shelf c.args.pages.now).read) c.in_ok-of.field-0 found.log.hits_are (found.least is_known) sound

pub returns-clause-tagged : goal.returns-clause-tagged
returns-clause-tagged g c is_known =
    c.in_ok-of.ensures.tagged ∙ c.in_ok-walk.ensures.ok.tagged_are is_known
    ∙ ap (tagged_by (g.R.M.Metric.space (g.R.Ruler.metric c.args.ruler.now)) c.args.q.now (nodes_of (g.P.Pages.shelf c.args.pages.now).read) c.args.live.now.root) (sym c.in_ok-of.ensures.records)
