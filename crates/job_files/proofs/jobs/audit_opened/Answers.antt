use Rattle.std.proofs.Common.{◌≡◌, ap, sym, refl, rules}
use Rattle.std.proofs.Common.{Option, IfErr, subst}
use Rattle.metric_mix.specs.MixSpaces.{mix_space}
use Rattle.metric_mix.specs.MixKinds.{mix_kind, mix_dim}
use Rattle.page_store.specs.Reading.{reading, reading_in}
use Rattle.page_store.specs.Shelves.{disk_shelf}
use Rattle.tree_audit.specs.declared.faults.AuditFault.{AuditFault}
use Rattle.tree_audit.specs.Audited.{audit_fault, HasAuditCause}
use Rattle.job_files.proofs.Spaces.{space_by_head}
use Rattle.job_files.proofs.Audited.{of_audit}
use Rattle.job_files.proofs.jobs.audit_opened.Goals as goal

pub new-pages-requires-clause-some : goal.new-pages-requires-clause-some
new-pages-requires-clause-some g c = (space_by_head c.args.head.now.kind c.args.head.now.dim c.requires.head.space).low_dim

pub new-pages-requires-clause-few : goal.new-pages-requires-clause-few
new-pages-requires-clause-few g c = (space_by_head c.args.head.now.kind c.args.head.now.dim c.requires.head.space).high_dim

pub returns-clause-err : goal.returns-clause-err
returns-clause-err g c =
    let p = c.new-pages.result in
    let q = c.audit.new.pages in
    let m = c.new-ruler.result.metric in
    let head = c.args.head.now in
    let live = c.args.live.now in
    let old = disk_shelf p.version p.dim p.pages (g.D.Disk.state p.disk.now) p.asked in
    let new = disk_shelf q.version q.dim q.pages (g.D.Disk.state q.disk.now) q.asked in
    let told : audit_fault (mix_space (mix_kind m) (mix_dim m)) (reading_in p.version p.dim p.pages (g.D.Disk.state p.disk.now).bytes) live
    ≡ audit_fault (mix_space head.kind head.dim) (reading head.dim live.pages (g.D.Disk.state c.args.disk.now).bytes) live =
    rw (c.new-pages.ensures.version, c.new-pages.ensures.dim, c.new-pages.ensures.pages, c.new-pages.ensures.same, c.new-ruler.ensures.metric, c.space_of.ensures.kind, c.space_of.ensures.dim) refl in
    of_audit c.audit.result old new (g.D.Disk.state c.args.disk.now) _ _
    (ap (λ d. (g.D.Disk.state d).is_known) (sym c.new-pages.ensures.same)) (ap (λ d. (g.D.Disk.state d).faults) (sym c.new-pages.ensures.same)) (search rules)
    (subst (λ (t : Option AuditFault). IfErr c.audit.result (HasAuditCause old new t)) told c.audit.ensures.err)
