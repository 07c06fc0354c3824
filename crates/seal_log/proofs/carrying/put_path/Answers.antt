use Rattle.std.proofs.Common.{arith, ap, length, ◌∙◌}
use Rattle.seal_log.specs.Digests.{levels_over}
use Rattle.seal_log.specs.Paths.{path_in}
use Rattle.seal_log.proofs.PathSizes.{path-short, path_put}
use Rattle.seal_log.proofs.carrying.put_path.Goals as goal

pub overflow_cast-len : goal.overflow_cast-len
overflow_cast-len c =
    let ok = c.in_ok-path.path.ok in let same = ap length c.in_ok-path.ensures in
    omega (arith, c.len.ensures, path-short 18 c.args.tree.now c.args.page (omega (arith, c.requires)), same)

pub returns : goal.returns
returns c =
    let ok = c.in_ok-path.path.ok in let same = ap length c.in_ok-path.ensures in
    path_put c.args.out.now.items c.push.new.self.items c.loop-digest.out.items c.deref-digest-items.result.now (path_in (levels_over c.args.tree.now) c.args.page) c.loop-digest.digest-index c.len.result
    c.in_ok-push.ensures.items c.loop-digest.invariant c.loop-digest-test.false (c.deref-digest-items.ensures.value ∙ c.in_ok-path.ensures) (omega (arith, c.len.ensures, same))
    (omega (arith, path-short 18 c.args.tree.now c.args.page (omega (arith, c.requires))))
