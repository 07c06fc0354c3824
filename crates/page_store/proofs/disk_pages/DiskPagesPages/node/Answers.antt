use Rattle.std.proofs.Common.{refl, sym, ◌∙◌}
use Rattle.page_store.proofs.Answers.{answers_node, answers_fault, answers_outside, not_outside}
use Rattle.page_store.specs.Reading.{}
use Rattle.page_store.specs.Shelves.{disk_shelf}
use Rattle.page_store.proofs.Results.{holds_at_ok}
use Rattle.page_store.proofs.disk_pages.DiskPagesPages.node.Goals as goal

pub returns-then-not-is_within-clause-cause : goal.returns-then-not-is_within-clause-cause
returns-then-not-is_within-clause-cause g c =
    let p = c.args.self.now in
    let s = disk_shelf p.version p.dim p.pages (g.D.Disk.state p.disk.now) p.asked in
    answers_outside p.version s s c.args.page (g.D.Disk.state p.disk.now).bytes (sym c.is_within.ensures.test ∙ c.if-not-is_within.true) (λ is_known. refl)

pub returns-clause-ok : goal.returns-clause-ok
returns-clause-ok g c =
    let p = c.args.self.now in
    let disk = g.D.Disk.state p.disk.now in
    answers_node p.version c.node_on.result (disk_shelf p.version p.dim p.pages disk p.asked) c.args.page c.read_page.new.bytes disk.bytes
    (sym c.is_within.ensures.test ∙ c.if-not-is_within.false) c.node_on.ensures.valid c.node_on.ensures.told
    (holds_at_ok c.read_page.result (sym c.is_err.ensures.value ∙ c.if-is_err.false) c.read_page.ensures.read) (λ is_known. refl)

pub returns-clause-cause : goal.returns-clause-cause
returns-clause-cause g c =
    let p = c.args.self.now in
    let disk = g.D.Disk.state p.disk.now in
    answers_fault p.version c.node_on.result (disk_shelf p.version p.dim p.pages disk p.asked)
    (disk_shelf p.version p.dim p.pages (g.D.Disk.state c.read_page.new.disk) c.saturating_add-self.result) c.args.page c.read_page.new.bytes disk.bytes
    (sym c.is_within.ensures.test ∙ c.if-not-is_within.false) c.node_on.ensures.fault
    (holds_at_ok c.read_page.result (sym c.is_err.ensures.value ∙ c.if-is_err.false) c.read_page.ensures.read) (λ is_known. refl)

pub returns-clause-outside : goal.returns-clause-outside
returns-clause-outside g c = not_outside c.args.self.now.pages c.args.page (sym c.is_within.ensures.test ∙ c.if-not-is_within.false)
