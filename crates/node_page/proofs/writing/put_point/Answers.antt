use Rattle.std.proofs.Common.{inl, inr, ℕ, ◌+◌, ◌*◌, length, sym, ◌∙◌, arith}
use Rattle.std.proofs.lemmas.List.{take_all}
use Rattle.node_page.specs.Bytes.{number_at}
use Rattle.node_page.proofs.Listing.{firsts_by}
use Rattle.node_page.proofs.Putting.{point_step}
use Rattle.node_page.proofs.writing.put_point.Goals as goal

pub loop-index-preserved : goal.loop-index-preserved
loop-index-preserved c = record {
  put = point_step c.args.at c.loop-index.index c.loop-index.page c.put_u32.new.page c.args.point.now c.loop-index.invariant.put c.put_u32.ensures.number c.put_u32.ensures.others;
  others = λ k outside. elim outside [
    | inl lt ↦ c.put_u32.ensures.others k (inl (omega arith)) ∙ c.loop-index.invariant.others k (inl lt)
    | inr ge ↦ c.put_u32.ensures.others k (inr (omega arith)) ∙ c.loop-index.invariant.others k (inr (omega arith))
  ];
}

pub returns-clause-point : goal.returns-clause-point
returns-clause-point c =
    sym (firsts_by (λ (j : ℕ). number_at (c.args.at + 4 * j) 4 c.loop-index.page) (length c.args.point.now) c.args.point.now (omega arith) (λ k below. sym (c.loop-index.invariant.put k (omega arith))))
    ∙ take_all (length c.args.point.now) c.args.point.now (omega arith)
