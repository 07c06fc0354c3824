use Rattle.std.proofs.Common.{sym, ap, subst, rules}
use Rattle.std.specs.Prelude.{IsTrue}
use Rattle.tree_shape.specs.Tree.{IsSoundTree}
use Rattle.page_store.specs.Placing.{live_pages}
use Rattle.page_store.specs.Reading.{nodes_of}
use Rattle.page_store.specs.Shelf.{Shelf}
use Rattle.free_pages.specs.Commits.{AreOutside}
use Rattle.index_core.specs.Answers.{IsSoundOn}
use Rattle.index_core.specs.Causes.{LieOutside}
use Rattle.index_core.specs.Files.{OpenFile, nodes_on, pages_on}
use Rattle.index_core.specs.Index.{AreSpare, IsValidFree}
use Rattle.index_core.specs.Writing.{IsExactFor}
use Rattle.page_store.specs.Shelves.{disk_shelf}
use Rattle.page_store.specs.declared.disk_pages.DiskPages.{DiskPages}
use Rattle.index_core.specs.Lending.{lent_shelf}
use Rattle.index_core.proofs.Listed.{fresh_valid, fresh_made, fresh_spare, fresh_exact, list_cause}
use Rattle.index_core.proofs.view.View.list_free.Goals as goal

pub returns-clause-made : goal.returns-clause-made
returns-clause-made g c =
    fresh_made c.args.self.now (g.D.Disk.state c.args.disk.now) c.in-Ok.free (λ is_known.
    subst (λ (f : OpenFile g.row.M.Denot). LieOutside (pages_on c.args.self.now (g.D.Disk.state c.args.disk.now) 0).read f.live c.in-Ok.free.free) c.self.view_is
    (subst (λ (h : Shelf). LieOutside h.read c.self.inside.live c.in-Ok.free.free) c.lend-pages.ensures.shelf
    (let o = c.in-Ok.ensures.outside (subst (λ (h : Shelf). IsTrue h.is_known) (sym c.lend-pages.ensures.shelf) is_known) in (o.tree, o.walk, o.outside)))) c.in-Ok.ensures.fresh

pub returns-clause-valid : goal.returns-clause-valid
returns-clause-valid g c =
    subst (λ (f : OpenFile g.row.M.Denot). IsValidFree f.live c.in-Ok.free) c.self.view_is (fresh_valid c.self.inside.live c.in-Ok.free c.in-Ok.ensures.numbers c.in-Ok.ensures.fresh)

pub returns-clause-beside : goal.returns-clause-beside
returns-clause-beside g c = λ is_known.
    let told = subst (λ (h : Shelf). IsTrue h.is_known) (sym c.lend-pages.ensures.shelf) is_known in
    subst (λ (f : OpenFile g.row.M.Denot). AreSpare (nodes_on c.args.self.now (g.D.Disk.state c.args.disk.now)) f.live c.in-Ok.free) c.self.view_is
    (subst (λ (h : Shelf). AreSpare (nodes_of h.read) c.self.inside.live c.in-Ok.free) c.lend-pages.ensures.shelf
    (fresh_spare _ _ c.self.inside.live c.in-Ok.free (c.in-Ok.ensures.outside told) c.in-Ok.ensures.fresh))

pub returns-clause-exact : goal.returns-clause-exact
returns-clause-exact g c =
    subst (λ (f : OpenFile g.row.M.Denot). IsSoundOn (g.M.Metric.space c.args.self.now.metric) f (g.D.Disk.state c.args.disk.now) → IsExactFor f c.in-Ok.free (g.D.Disk.state c.args.disk.now)) c.self.view_is
    (λ sound.
    let exact = subst (λ (h : Shelf). IsTrue h.is_known → IsSoundTree (g.M.Metric.space c.args.self.now.metric) (nodes_of h.read) c.self.inside.live →
    AreOutside c.self.inside.live.pages (live_pages (nodes_of h.read) c.self.inside.live) c.in-Ok.free) c.lend-pages.ensures.shelf
    (λ is_known is. fresh_exact c.self.inside.live _ c.in-Ok.free (c.in-Ok.ensures.sound (g.M.Metric.space c.args.self.now.metric) is_known is) c.in-Ok.ensures.fresh) in
    subst (λ (f : OpenFile g.row.M.Denot). IsTrue (g.D.Disk.state c.args.disk.now).is_known → IsSoundTree (g.M.Metric.space c.args.self.now.metric) (nodes_on f (g.D.Disk.state c.args.disk.now)) c.self.inside.live →
    AreOutside c.self.inside.live.pages (live_pages (nodes_on f (g.D.Disk.state c.args.disk.now)) c.self.inside.live) c.in-Ok.free) (sym c.self.view_is) exact sound.0 sound.1)

pub returns-in-Err-clause-cause : goal.returns-in-Err-clause-cause
returns-in-Err-clause-cause g c =
    list_cause c.in-Err.fault c.read_fault.result _
    (lent_shelf (λ (p : DiskPages g.row.D.Denot g.D.Disk). disk_shelf p.version p.dim p.pages (g.D.Disk.state p.disk.now) p.asked) c.of-answer.new.pages) c.args.self.now (g.D.Disk.state c.args.disk.now) _
    c.self.inside.live c.lend-pages.ensures.shelf (ap (λ (f : OpenFile g.row.M.Denot). f.live) c.self.view_is) (search rules) c.read_fault.ensures c.in-Err.ensures.err
