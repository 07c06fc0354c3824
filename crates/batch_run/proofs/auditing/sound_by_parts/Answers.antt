use Rattle.std.proofs.Common.{◌≡◌, ◌∙◌, ℕ, List, map, Ok, Result, sym, ap, subst, length}
use Rattle.std.specs.Prelude.{IsTrue}
use Rattle.disk_model.specs.Disk.{DiskState}
use Rattle.tree_shape.specs.declared.entry.Node.{Node}
use Rattle.tree_shape.specs.declared.entry.Node.TheVariants.{Inner}
use Rattle.tree_shape.specs.Fill.{IsFilled, root_least}
use Rattle.page_store.specs.Reading.{reading, reading_in}
use Rattle.tree_audit.specs.declared.faults.AuditFault.{AuditFault}
use Rattle.tree_audit.specs.declared.parts.Part.{Part}
use Rattle.batch_run.specs.Audits.{AreTried}
use Rattle.batch_run.proofs.Parts.{IsRootWith, numbers_if_some}
use Rattle.batch_run.proofs.auditing.sound_by_parts.Goals as goal

pub returns-in-Some-2 : goal.returns-in-Some-2
returns-in-Some-2 g c =
    let s = g.M.Metric.space c.args.metric in
    let live = c.args.live.now in
    let disk : DiskState = g.D.Disk.state c.args.disk.now in
    let on : DiskState = g.D.Disk.state c.new-pages.result.disk.now in
    let es = c.in-Inner.entries in
    let parts : List Part = c.deref.result.now in
    let level : c.in-Inner.level ≡ live.height = c.is_root.ensures.level c.if-not-is_root.false in
    let same : on ≡ g.D.Disk.state c.in-Some.reader = (λ i. g.D.Disk.state (c.new-pages.ensures.same i)) in
    let dim : c.new-pages.result.dim ≡ s.dimension = c.new-pages.ensures.dim ∙ c.dimension-dim.ensures in
    let root : IsRootWith s live disk es = λ told.
    let bytes : on.bytes ≡ disk.bytes = (λ i. (same i).bytes) ∙ (c.in-Some.ensures.same told).1 in
    let is_known : IsTrue on.is_known = (λ i. (same i).is_known) ∙ (c.in-Some.ensures.same told).0 in
    let read : reading s.dimension live.pages disk.bytes live.root ≡ reading_in c.new-pages.result.version c.new-pages.result.dim c.new-pages.result.pages on.bytes live.root =
    λ i. reading_in (sym c.new-pages.ensures.version i) (sym dim i) (sym c.new-pages.ensures.pages i) (sym bytes i) live.root in
    read ∙ c.in-Ok.ensures.ok.told is_known ∙ ap (λ (n : Node). Ok n) (sym c.as_ref.ensures ∙ c.in-Inner.is) ∙ (λ i. Ok (Inner (level i) es)) in
    let all = rw c.in-Some-2.is at c.in_ok-parts.ensures in
    let tried : AreTried s live disk 0 es (map (λ part. Ok part) parts) =
    subst (AreTried s live disk 0 es) (all ∙ ap (λ (ps : List Part). (let oks : List (Result Part AuditFault) = map (λ part. Ok part) ps in oks)) (sym c.deref.ensures.value)) c.in_ok-tried.ensures in
    numbers_if_some s live disk es parts c.join_parts.result c.parts_make_the_whole.ensures (c.is_root.ensures.above c.if-not-is_root.false) root
    (subst (λ (n : ℕ). IsFilled n (root_least live.height) (length es)) c.dimension-dim.ensures (rw c.len.ensures at (c.is_root.ensures.filled c.if-not-is_root.false))) tried
    c.join_parts.ensures.apart c.join_parts.ensures.objects c.join_parts.ensures.nodes
