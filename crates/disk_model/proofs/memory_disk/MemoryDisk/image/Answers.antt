use Rattle.std.proofs.Common.{◌∙◌, List, ℕ, length, sym, ap, subst}
use Rattle.std.proofs.lemmas.Result.{IfOk-weaker}
use Rattle.disk_model.specs.Memory.Images.{LeftAt, at_rest, replayed, begun, has_begun, shown}
use Rattle.disk_model.proofs.Shown.{shown_left}
use Rattle.disk_model.proofs.memory_disk.MemoryDisk.image.Goals as goal

pub returns-clause-image : goal.returns-clause-image
returns-clause-image c =
    let first = c.self.inside.first.items in
    let past = c.self.inside.noted.past in
    let done = begun c.args.moment past in
    rw (← c.self.view_is) (IfOk-weaker c.image.result _ _ (λ file is.
    subst (LeftAt first past (length done)) (sym (is ∙ ap (λ (bytes : List ℕ). shown c.args.pick (replayed (at_rest bytes) done)) c.deref.ensures.value)) (shown_left c.args.pick (has_begun c.args.moment) first past))
    c.image.ensures)
