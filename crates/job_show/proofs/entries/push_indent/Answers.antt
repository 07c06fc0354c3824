use Rattle.std.proofs.Common.{ℕ, List, ◌++◌, ◌∙◌, ap, sym, append_assoc}
use Rattle.std.specs.Prelude.{codes}
use Rattle.job_show.specs.Walks.{indent}
use Rattle.job_show.proofs.MarkedLines.{indent_more}
use Rattle.job_show.proofs.entries.push_indent.Goals as goal

pub loop-step-preserved : goal.loop-step-preserved
loop-step-preserved c =
    c.in_ok-extend_from_slice.ensures.items ∙ ap (λ (l : List ℕ). l ++ codes "  ") c.loop-step.invariant
    ∙ append_assoc c.args.out.now.items (indent c.loop-step._step) (codes "  ")
    ∙ ap (λ (l : List ℕ). c.args.out.now.items ++ l) (sym (indent_more c.loop-step._step))
