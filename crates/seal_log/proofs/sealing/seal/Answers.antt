use Rattle.std.proofs.Common.{◌∷◌, [], arith, ap, refl, sym, ◌∙◌, length, length-append}
use Rattle.disk_model.specs.Moments.{then_unchanged}
use Rattle.page_store.specs.Kept.{unchanged_by_none}
use Rattle.seal_log.proofs.Trees.{leaf_digests-none, leaf_made}
use Rattle.seal_log.proofs.sealing.seal.Goals as goal

pub loop-page-init : goal.loop-page-init
loop-page-init g c = record {
  sealed = λ told. c.in_ok-leaves.ensures.items ∙ sym (leaf_digests-none (g.D.Disk.state c.args.disk.now).bytes);
  size = ap length c.in_ok-leaves.ensures.items;
  later = omega arith;
  no_fault = refl;
  same = unchanged_by_none (g.D.Disk.state c.args.disk.now);
  reads = omega arith;
}

pub loop-page-preserved : goal.loop-page-preserved
loop-page-preserved g c = record {
  sealed = λ told. c.in_ok-push.ensures.items
      ∙ leaf_made (g.D.Disk.state c.args.disk.now) (g.D.Disk.state c.loop-page.disk) c.loop-page.leaves.items c.loop-page.page c.in_ok-digest.digest told c.loop-page.invariant.same (c.loop-page.invariant.sealed told) c.in_ok-digest.ensures.sealed;
  size = ap length c.in_ok-push.ensures.items ∙ omega (arith, length-append c.loop-page.leaves.items (c.in_ok-digest.digest ∷ []), c.loop-page.invariant.size);
  later = omega (arith, c.loop-page.invariant.later, c.in_ok-digest.ensures.later);
  no_fault = c.in_ok-digest.ensures.no_fault ∙ c.loop-page.invariant.no_fault;
  same = then_unchanged (g.D.Disk.state c.args.disk.now) (g.D.Disk.state c.loop-page.disk) (g.D.Disk.state c.seal_page.new.disk) c.loop-page.invariant.same c.in_ok-digest.ensures.same;
  reads = omega (arith, c.loop-page.invariant.reads, c.in_ok-digest.ensures.reads);
}
