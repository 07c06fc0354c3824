use Rattle.std.proofs.Common.{◌≡◌}
use Rattle.tree_shape.specs.Tree.{Nodes, points_by_id, tags_by_id}
use Rattle.job_make.specs.declared.filling.Objects.{Objects}
use Rattle.job_make.proofs.OldFiles.{if_still, still_taking}
use Rattle.job_make.proofs.migrating.audited.Goals as goal

pub returns-clause-points : goal.returns-clause-points
returns-clause-points g c =
    if_still c.audit_faults_are_unsoundness.ensures (g.M.Metric.space c.args.metric) (g.P.Pages.shelf c.args.pages.now) (g.P.Pages.shelf c.audit.new.pages) c.args.live.now c.requires.within
    (rw c.new-ruler.ensures.metric at c.in_ok-audit.ensures.ok) c.audit.ensures.same (λ (o : Objects) (nodes : Nodes). o.rows.points ≡ points_by_id nodes c.args.live.now) c.objects_of.result c.objects_of.ensures.points

pub returns-clause-tags : goal.returns-clause-tags
returns-clause-tags g c =
    if_still c.audit_faults_are_unsoundness.ensures (g.M.Metric.space c.args.metric) (g.P.Pages.shelf c.args.pages.now) (g.P.Pages.shelf c.audit.new.pages) c.args.live.now c.requires.within
    (rw c.new-ruler.ensures.metric at c.in_ok-audit.ensures.ok) c.audit.ensures.same (λ (o : Objects) (nodes : Nodes). o.tags.items ≡ tags_by_id nodes c.args.live.now) c.objects_of.result c.objects_of.ensures.tags

pub returns-clause-fault : goal.returns-clause-fault
returns-clause-fault g c =
    still_taking c.audit_faults_are_unsoundness.ensures (g.M.Metric.space c.args.metric) (g.P.Pages.shelf c.args.pages.now) (g.P.Pages.shelf c.audit.new.pages) c.args.live.now c.requires.within
    (rw c.new-ruler.ensures.metric at c.in_ok-audit.ensures.ok) c.audit.ensures.same _ _ c.objects_of.result c.objects_of.ensures.cause
