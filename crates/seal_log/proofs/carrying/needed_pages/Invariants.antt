use Rattle.std.proofs.Common.{◌≡◌, ◌∷◌, map, take}
use Rattle.log_model.specs.declared.marks.Record.{Record}
use Rattle.seal_log.proofs.carrying.needed_pages.Given as goal

abbrev pub invariant-loop-record : goal.invariant-loop-record
invariant-loop-record l = l.pages.items ≡ 0 ∷ 1 ∷ 2 ∷ map (λ (r : Record). r.page) (take l.record-index l.record-items)
