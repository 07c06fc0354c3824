use Rattle.std.proofs.Common.{◌≡◌, ◌∙◌, ◌<◌, List, take, drop, slice_set, length, ap, subst, sym}
use Rattle.std.specs.List.{refill}
use Rattle.std.proofs.lemmas.List.{length-set, length-take-le, take_at}
use Rattle.std.proofs.Math.Seq.{take-set-lt}
use Rattle.log_model.specs.declared.marks.Mark.{Mark}
use Rattle.log_model.proofs.node_marks.NodeMarks.set.Goals as goal

pub returns : goal.returns
returns c =
    let marks = c.self.inside.marks.items in
    let count = c.self.inside.count in
    let changed = slice_set c.as_mut_slice.result.now c.args.index c.args.mark in
    let same : changed ≡ slice_set marks c.args.index c.args.mark = ap (λ (l : List Mark). slice_set l c.args.index c.args.mark) c.as_mut_slice.ensures.value in
    let whole : refill (length marks) marks changed ≡ changed =
    take_at changed (drop (length changed) marks) (length marks) (ap length same ∙ length-set marks c.args.index c.args.mark) in
    let within : c.args.index < count =
    subst (λ n. c.args.index < n) (ap length (sym c.self.view_is) ∙ length-take-le count marks c.self.invariant) c.requires in
    ap (take count) (whole ∙ same) ∙ take-set-lt count marks c.args.index c.args.mark within
    ∙ ap (λ (l : List Mark). slice_set l c.args.index c.args.mark) c.self.view_is
