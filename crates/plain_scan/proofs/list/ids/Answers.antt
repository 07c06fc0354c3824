use Rattle.std.proofs.Common.{◌∙◌, arith, length-append, ℕ}
use Rattle.plain_scan.proofs.Numbers.{numbers_next}
use Rattle.plain_scan.proofs.list.ids.Goals as goal

pub loop-id-preserved : goal.loop-id-preserved
loop-id-preserved c =
    let grown = c.in_ok-push.ensures.items in
    record {
      all = rw grown (numbers_next c.loop-id.ids.items c.loop-id.id c.args.count (omega arith) ∙ c.loop-id.invariant.all);
      count = rw grown (omega (arith, length-append {A = ℕ}, c.loop-id.invariant.count));
    }
