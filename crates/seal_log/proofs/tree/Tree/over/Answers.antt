use Rattle.std.proofs.Common.{arith, ap, ◌≡◌, ◌∙◌, length, [], ◌∷◌, ◌++◌}
use Rattle.seal_log.specs.Digests.{paired, lowest, AreLevels}
use Rattle.seal_log.proofs.Levels.{length-paired}
use Rattle.seal_log.proofs.Trees.{goes_higher, are_levels, root_made}
use Rattle.seal_log.proofs.tree.Tree.over.Goals as goal

made : (c : goal.In_ok-push-2) → (lowest (c.levels.levels.items ++ c.levels.level.items ∷ []) ≡ c.args.leaves.items) × AreLevels (c.levels.levels.items ++ c.levels.level.items ∷ []) c.root_digest-root.result
made c =
    let was = c.levels.level.ok in let first = c.args.leaves.ok in let some = c.levels.invariant.0 in let given = c.requires.some in let small = c.requires.few in
    are_levels c.levels.levels.items c.levels.level.items c.args.leaves.items c.root_digest-root.result (omega (arith, c.len.ensures, c.levels-test.false)) (omega arith) (omega arith) c.levels.invariant.1
    (root_made c.args.leaves.items c.levels.level.items c.len-pages.result c.index.result.now c.root_digest-root.result c.root_digest-root.ensures (omega (arith, c.len-pages.ensures)) c.index.ensures (omega arith))

pub levels-smaller : goal.levels-smaller
levels-smaller c =
    let was = c.levels.level.ok in let is = c.in_ok-above.above.ok in let same = ap length c.in_ok-above.ensures in
    omega (arith, length-paired c.deref.result.now, c.deref.ensures.len, c.len.ensures, same)

pub levels-preserved : goal.levels-preserved
levels-preserved c =
    let was = c.levels.level.ok in let is = c.in_ok-above.above.ok in let same = ap length c.in_ok-above.ensures in (
      omega (arith, length-paired c.deref.result.now, c.deref.ensures.len, same),
      rw (c.in_ok-push.ensures.items, c.new.ensures)
          (goes_higher c.levels.levels.items c.levels.level.items c.in_ok-above.above.items c.args.leaves.items (omega (arith, c.len.ensures)) (c.in_ok-above.ensures ∙ ap paired c.deref.ensures.value) c.levels.invariant.1),
    )

pub invariant_of-result : goal.invariant_of-result
invariant_of-result c = rw (c.in_ok-push-2.ensures.items, c.new-2.ensures) (made c).1

pub returns : goal.returns
returns c = rw (c.in_ok-push-2.ensures.items, c.new-2.ensures) (made c).0
