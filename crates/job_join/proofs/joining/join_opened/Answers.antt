use Rattle.std.proofs.Common.{rules, ◌≡◌, refl}
use Rattle.metric_mix.specs.MixSpaces.{mix_space}
use Rattle.metric_mix.specs.MixKinds.{mix_kind, mix_dim}
use Rattle.page_store.specs.Shelves.{disk_shelf}
use Rattle.page_cache.specs.Cache.{asked_for}
use Rattle.job_join.specs.Trees.{tree_of, space_of}
use Rattle.job_join.proofs.Refusals.{Sides}
use Rattle.job_join.proofs.Joined.{join_of, refusal_of}
use Rattle.job_join.proofs.joining.join_opened.Goals as goal

pub returns-clause-joined : goal.returns-clause-joined
returns-clause-joined g c =
    let p = c.from_parts-left_pages.result in
    let q = c.from_parts-right_pages.result in
    let p2 = c.join-joined.new.left in
    let q2 = c.join-joined.new.right in
    let m = c.new-ruler.result.metric in
    let trees = c.args.trees.now in
    let d = g.D.Disk.state c.args.index.now in
    let e = g.E.Disk.state c.args.other.now in
    let a = asked_for (disk_shelf p.inner.version p.inner.dim p.inner.pages (g.D.Disk.state p.inner.disk.now) p.inner.asked) p.asked in
    let b = asked_for (disk_shelf q.inner.version q.inner.dim q.inner.pages (g.E.Disk.state q.inner.disk.now) q.inner.asked) q.asked in
    let sides : Sides trees d e a b = record {
      one = c.requires.one_space;
      left = record {
        is_known = rw (c.from_parts-left_pages.ensures, c.new-left_pages.ensures.same) refl;
        read = rw (c.from_parts-left_pages.ensures, c.new-left_pages.ensures.version, c.new-left_pages.ensures.dim, c.new-left_pages.ensures.pages, c.new-left_pages.ensures.same) refl;
        faults = rw (c.from_parts-left_pages.ensures, c.new-left_pages.ensures.same) refl;
      };
      right = record {
        is_known = rw (c.from_parts-right_pages.ensures, c.new-right_pages.ensures.same) refl;
        read = rw (c.from_parts-right_pages.ensures, c.new-right_pages.ensures.version, c.new-right_pages.ensures.dim, c.new-right_pages.ensures.pages, c.new-right_pages.ensures.same) refl;
        faults = rw (c.from_parts-right_pages.ensures, c.new-right_pages.ensures.same) refl;
      };
    } in
    let same : mix_space (mix_kind m) (mix_dim m) ≡ space_of (tree_of d trees.left) = rw (c.new-ruler.ensures.metric, c.space_of.ensures.kind, c.space_of.ensures.dim) refl in
    join_of c.join-joined.result _ trees d e c.args.radius a (asked_for (disk_shelf p2.inner.version p2.inner.dim p2.inner.pages (g.D.Disk.state p2.inner.disk.now) p2.inner.asked) p2.asked) b (asked_for (disk_shelf q2.inner.version q2.inner.dim q2.inner.pages (g.E.Disk.state q2.inner.disk.now) q2.inner.asked) q2.asked) _ _
    sides same c.join-joined.ensures.joined c.join-joined.ensures.scanned

pub returns-clause-refused : goal.returns-clause-refused
returns-clause-refused g c =
    let p = c.from_parts-left_pages.result in
    let q = c.from_parts-right_pages.result in
    let p2 = c.join-joined.new.left in
    let q2 = c.join-joined.new.right in
    let m = c.new-ruler.result.metric in
    let trees = c.args.trees.now in
    let d = g.D.Disk.state c.args.index.now in
    let e = g.E.Disk.state c.args.other.now in
    let a = asked_for (disk_shelf p.inner.version p.inner.dim p.inner.pages (g.D.Disk.state p.inner.disk.now) p.inner.asked) p.asked in
    let b = asked_for (disk_shelf q.inner.version q.inner.dim q.inner.pages (g.E.Disk.state q.inner.disk.now) q.inner.asked) q.asked in
    let sides : Sides trees d e a b = record {
      one = c.requires.one_space;
      left = record {
        is_known = rw (c.from_parts-left_pages.ensures, c.new-left_pages.ensures.same) refl;
        read = rw (c.from_parts-left_pages.ensures, c.new-left_pages.ensures.version, c.new-left_pages.ensures.dim, c.new-left_pages.ensures.pages, c.new-left_pages.ensures.same) refl;
        faults = rw (c.from_parts-left_pages.ensures, c.new-left_pages.ensures.same) refl;
      };
      right = record {
        is_known = rw (c.from_parts-right_pages.ensures, c.new-right_pages.ensures.same) refl;
        read = rw (c.from_parts-right_pages.ensures, c.new-right_pages.ensures.version, c.new-right_pages.ensures.dim, c.new-right_pages.ensures.pages, c.new-right_pages.ensures.same) refl;
        faults = rw (c.from_parts-right_pages.ensures, c.new-right_pages.ensures.same) refl;
      };
    } in
    let same : mix_space (mix_kind m) (mix_dim m) ≡ space_of (tree_of d trees.left) = rw (c.new-ruler.ensures.metric, c.space_of.ensures.kind, c.space_of.ensures.dim) refl in
    refusal_of c.join-joined.result _ trees d _ e _ a (asked_for (disk_shelf p2.inner.version p2.inner.dim p2.inner.pages (g.D.Disk.state p2.inner.disk.now) p2.inner.asked) p2.asked) b (asked_for (disk_shelf q2.inner.version q2.inner.dim q2.inner.pages (g.E.Disk.state q2.inner.disk.now) q2.inner.asked) q2.asked)
    sides same (search rules) (search rules) c.join-joined.ensures.cause c.join-joined.ensures.sound
