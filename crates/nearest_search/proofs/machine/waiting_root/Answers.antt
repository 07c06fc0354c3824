use Rattle.std.proofs.Common.{◌∷◌, List, subst}
use Rattle.std.specs.Prelude.{IsPermutation}
use Rattle.nearest_search.specs.Machine.{pending_root}
use Rattle.nearest_search.specs.declared.pending.Pending.{Pending}
use Rattle.nearest_search.proofs.Waits.{one_alone}
use Rattle.nearest_search.proofs.machine.waiting_root.Goals as goal

pub returns : goal.returns
returns c = one_alone (pending_root c.args.root) c.add.new.self
    (subst (λ (ys : List Pending). IsPermutation (pending_root c.args.root ∷ ys) c.add.new.self) c.in_ok-frontier.ensures c.in_ok-add.ensures)
