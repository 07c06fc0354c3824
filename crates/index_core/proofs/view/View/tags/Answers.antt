use Rattle.std.proofs.Common.{ap, rules}
use Rattle.page_store.specs.Shelves.{disk_shelf}
use Rattle.page_store.specs.declared.disk_pages.DiskPages.{DiskPages}
use Rattle.index_core.specs.Files.{OpenFile}
use Rattle.index_core.specs.Lending.{lent_shelf}
use Rattle.index_core.proofs.Tagged.{tagged}
use Rattle.index_core.proofs.view.View.tags.Goals as goal

pub returns-clause-tagged : goal.returns-clause-tagged
returns-clause-tagged g c =
    let w = c.tags_of-answer.ensures in
    tagged (g.M.Metric.space c.args.self.now.metric) c.args.self.now c.args.found.now (g.D.Disk.state c.args.disk.now) _ c.self.inside.live _
    (lent_shelf (λ (p : DiskPages g.row.D.Denot g.D.Disk). disk_shelf p.version p.dim p.pages (g.D.Disk.state p.disk.now) p.asked) c.tags_of-answer.new.pages)
    c.tags_of-answer.result c.answer_of.result c.lend-pages.ensures.shelf (ap (λ (f : OpenFile g.row.M.Denot). f.live) c.self.view_is) (search rules) (search rules) c.answer_of.ensures
    (record { few = w.reads; each = w.each; met = w.met; own = w.own; objects = w.objects; cause = w.cause; sound = w.sound })
