use Rattle.std.proofs.Common.{◌∙◌, List, take, ap, arith}
use Rattle.std.proofs.lemmas.List.{take-replicate}
use Rattle.log_model.specs.declared.marks.Mark.{Mark}
use Rattle.log_model.specs.declared.marks.Mark.TheVariants.{Skip}
use Rattle.log_model.proofs.node_marks.NodeMarks.all_skipped.Goals as goal

pub returns-then-count-le-ENTRIES : goal.returns-then-count-le-ENTRIES
returns-then-count-le-ENTRIES c =
    ap (λ (l : List Mark). take c.args.count l) c.from_buf-marks.ensures.items ∙ take-replicate c.args.count 32 Skip (omega arith)
