use Rattle.std.proofs.Common.{rules, ap, refl}
use Rattle.page_store.specs.Shelves.{disk_shelf}
use Rattle.job_files.proofs.Spaces.{space_by_head}
use Rattle.job_files.proofs.Shaped.{IsOf, lines_of, stop_of}
use Rattle.job_files.proofs.shaping.shape_opened.Goals as goal

pub new-pages-requires-clause-some : goal.new-pages-requires-clause-some
new-pages-requires-clause-some g c = (space_by_head c.args.head.now.kind c.args.head.now.dim c.requires.head.space).low_dim

pub new-pages-requires-clause-few : goal.new-pages-requires-clause-few
new-pages-requires-clause-few g c = (space_by_head c.args.head.now.kind c.args.head.now.dim c.requires.head.space).high_dim

pub returns-clause-lines : goal.returns-clause-lines
returns-clause-lines g c =
    let p = c.new-pages.result in
    let d = g.D.Disk.state c.args.disk.now in
    let old = disk_shelf p.version p.dim p.pages (g.D.Disk.state p.disk.now) p.asked in
    let is : IsOf old d c.args.head.now c.args.live.now = record {
      is_known = ap (λ x. (g.D.Disk.state x).is_known) c.new-pages.ensures.same;
      read = rw (c.new-pages.ensures.version, c.new-pages.ensures.dim, c.new-pages.ensures.pages, c.new-pages.ensures.same) refl;
      faults = ap (λ x. (g.D.Disk.state x).faults) c.new-pages.ensures.same;
    } in
    lines_of c.shape_of.result old d c.args.head.now c.args.live.now is c.shape_of.ensures.walk c.shape_of.ensures.lines

pub returns-clause-stop : goal.returns-clause-stop
returns-clause-stop g c =
    let p = c.new-pages.result in
    let q = c.shape_of.new.pages in
    let d = g.D.Disk.state c.args.disk.now in
    let old = disk_shelf p.version p.dim p.pages (g.D.Disk.state p.disk.now) p.asked in
    let new = disk_shelf q.version q.dim q.pages (g.D.Disk.state q.disk.now) q.asked in
    let is : IsOf old d c.args.head.now c.args.live.now = record {
      is_known = ap (λ x. (g.D.Disk.state x).is_known) c.new-pages.ensures.same;
      read = rw (c.new-pages.ensures.version, c.new-pages.ensures.dim, c.new-pages.ensures.pages, c.new-pages.ensures.same) refl;
      faults = ap (λ x. (g.D.Disk.state x).faults) c.new-pages.ensures.same;
    } in
    stop_of c.shape_of.result old new d _ c.args.head.now c.args.live.now is (search rules) c.shape_of.ensures.cause c.shape_of.ensures.sound
