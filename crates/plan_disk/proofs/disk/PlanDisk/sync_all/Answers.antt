use Rattle.std.proofs.Common.{◌∙◌, ap, sym, subst, length, List, ℕ, refl, []}
use Rattle.plan_disk.specs.Patches.{Shows}
use Rattle.plan_disk.specs.Plan.{Plan, file_of, sync_step, IsWhole}
use Rattle.plan_disk.specs.PlanView.{planned}
use Rattle.plan_disk.proofs.Steps.{plan_by, sync_file, whole_step}
use Rattle.plan_disk.proofs.disk.PlanDisk.sync_all.Goals as goal

pub invariant_of-self-2 : goal.invariant_of-self-2
invariant_of-self-2 c =
    let old : Plan = planned c.self.inside in
    let next = plan_by old sync_step [] old.base c.note.new.steps.items c.note.new.written.items refl c.in_ok-note.ensures.steps c.in_ok-note.ensures.written in
    let file = ap file_of next ∙ sync_file old c.self.invariant.whole in
    record {
      whole = subst IsWhole (sym next) (whole_step old sync_step [] c.self.invariant.whole refl);
      shows = subst (λ (f : List ℕ). Shows c.self.inside.patched f) (sym file) c.self.invariant.shows;
      size = c.self.invariant.size ∙ sym (ap length file);
    }
