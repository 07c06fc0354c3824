use Rattle.std.proofs.Common.{◌∙◌, sym, subst, refl, arith}
use Rattle.disk_model.specs.Disk.{Written}
use Rattle.plan_disk.specs.Plan.{Plan, file_of, write_step, IsWhole}
use Rattle.plan_disk.specs.PlanView.{planned}
use Rattle.plan_disk.proofs.Steps.{plan_by, write_written, whole_step}
use Rattle.plan_disk.proofs.disk.PlanDisk.write.Goals as goal

pub invariant_of-self-2 : goal.invariant_of-self-2
invariant_of-self-2 c =
    let old : Plan = planned c.self.inside in
    let bytes = c.args.bytes.now in
    let step = write_step c.args.at bytes in
    let base = c.overwrite.ensures.base ∙ c.touch.ensures.base in
    let next = plan_by old step bytes c.overwrite.new.self.base c.note.new.steps.items c.note.new.written.items base c.in_ok-note.ensures.steps c.in_ok-note.ensures.written in
    let written = subst (λ (plan : Plan). Written c.args.at bytes (file_of old) (file_of plan)) (sym next) (write_written old c.args.at bytes c.self.invariant.whole) in
    record {
      whole = subst IsWhole (sym next) (whole_step old step bytes c.self.invariant.whole refl);
      shows = c.overwrite.ensures.written (file_of old) _ (c.touch.ensures.same (file_of old) c.self.invariant.shows) written;
      size = omega (arith, c.max-self-inside.ensures, c.self.invariant.size, written.size);
    }
