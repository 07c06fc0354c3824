use Rattle.std.proofs.Common.{◌∙◌, arith}
use Rattle.std.proofs.lemmas.List.{length-set}
use Rattle.prune_log.proofs.Marks.{one_more}
use Rattle.prune_log.proofs.pieces.marks_in_bytes.Goals as goal

pub loop-place-preserved : goal.loop-place-preserved
loop-place-preserved c = (
  length-set c.loop-place.bytes c.loop-place.place c.mark_byte.result ∙ c.loop-place.invariant.0,
  one_more c.args.marks.now c.loop-place.bytes c.loop-place.place c.mark_byte.result _ c.loop-place-test.true
      (let long = c.loop-place.invariant.0 in let few = c.requires in let low = c.loop-place-test.true in omega arith)
      c.mark_byte.ensures c.loop-place.invariant.1,
)
