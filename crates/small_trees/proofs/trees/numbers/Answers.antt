use Rattle.std.proofs.Common.{◌+◌, refl, sym}
use Rattle.std.proofs.lemmas.List.FromFn.{map-range_with_len_more}
use Rattle.small_trees.specs.Trees.{numbers, object_at}
use Rattle.small_trees.proofs.trees.numbers.Goals as goal

pub loop-i-preserved : goal.loop-i-preserved
unfolding numbers
loop-i-preserved c =
    rw (c.in_ok-push.ensures.items, c.loop-i.invariant, c.from.ensures, c.from-in-loop-i.ensures, c.abs_diff.ensures)
    (sym (map-range_with_len_more (object_at c.args.centre) c.args.from c.loop-i.i (c.args.from + c.loop-i.i) refl))
