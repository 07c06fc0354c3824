use Rattle.std.proofs.Common.{◌≡◌, [], Ok, ap, subst, ◌∙◌, length}
use Rattle.tree_shape.specs.Fill.{root_least}
use Rattle.tree_audit.specs.declared.walking.Visits.{Visits}
use Rattle.tree_audit.specs.Audited.{audited_at}
use Rattle.tree_audit.specs.Visits.{seen_of}
use Rattle.tree_audit.proofs.Sound.{walked_pages}
use Rattle.tree_audit.proofs.auditing.audit.Goals as goal

pub returns-clause-nodes : goal.returns-clause-nodes
returns-clause-nodes g c = λ is_known.
    let met : Visits → Type 0 = λ v.
    audited_at (g.R.M.Metric.space (g.R.Ruler.metric c.args.ruler.now)) (g.P.Pages.shelf c.args.pages.now).read v.ids.limit c.args.live.now.height (root_least c.args.live.now.height) [] c.args.live.now.root (seen_of v)
    ≡ Ok (seen_of c.walk.new.visits) in
    c.len.ensures.len ∙ ap length (walked_pages (g.R.M.Metric.space (g.R.Ruler.metric c.args.ruler.now)) (g.P.Pages.shelf c.args.pages.now).read c.args.live.now (seen_of c.walk.new.visits)
    (subst met c.in_ok-visits.ensures (rw (← c.root_least.ensures, ← c.new-path.ensures.items) (c.in_ok-walk.ensures.ok is_known))))
