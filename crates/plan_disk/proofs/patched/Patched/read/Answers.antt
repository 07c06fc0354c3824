use Rattle.std.proofs.Common.{rules, ◌∙◌, ◌-◌, ap, arith, slice_index, ℕ}
use Rattle.plan_disk.proofs.Pages.{filled}
use Rattle.plan_disk.proofs.patched.Patched.read.Goals as goal

pub loop-done-preserved : goal.loop-done-preserved
loop-done-preserved c = record {
  within = search rules;
  same = λ file shows i lt.
      filled c.args.at c.loop-done.done (c.min-end.result - c.loop-done.done) file c.loop-done.buf c.copy_part.new.buf (omega arith) (omega (arith, c.copy_part.auto.buf)) (c.loop-done.invariant.same file shows)
      (λ k below. c.copy_part.ensures file shows k (omega (arith, c.copy_part.auto.buf)) ∙ ap (λ (m : ℕ). slice_index file m) (omega arith)) i (omega arith);
}
