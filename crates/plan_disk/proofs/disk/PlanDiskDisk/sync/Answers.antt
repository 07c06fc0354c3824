use Rattle.std.proofs.Common.{◌∙◌, ap, sym, subst, List, ℕ, []}
use Rattle.disk_model.specs.Disk.{MayLeave, LeavesOnly, IsOneCall}
use Rattle.plan_disk.specs.Plan.{Plan, plan_state, file_of, sync_step}
use Rattle.plan_disk.proofs.Steps.{sync_file, sync_durable, sync_takes, step_one_call}
use Rattle.plan_disk.proofs.disk.PlanDiskDisk.sync.Goals as goal

pub returns-in-Ok-clause-durable : goal.returns-in-Ok-clause-durable
returns-in-Ok-clause-durable c =
    subst (λ (plan : Plan). LeavesOnly (plan_state plan) (file_of c.args.self.now)) (sym c.in-Ok.ensures.next) (sync_durable c.args.self.now c.sync_all.ensures.whole)

pub returns-in-Ok-clause-bytes : goal.returns-in-Ok-clause-bytes
returns-in-Ok-clause-bytes c = ap file_of c.in-Ok.ensures.next ∙ sync_file c.args.self.now c.sync_all.ensures.whole

pub returns-in-Ok-clause-fewer : goal.returns-in-Ok-clause-fewer
returns-in-Ok-clause-fewer c =
    subst (λ (plan : Plan). (image : List ℕ) → MayLeave (plan_state plan) image → MayLeave (plan_state c.args.self.now) image) (sym c.in-Ok.ensures.next) (sync_takes c.args.self.now c.sync_all.ensures.whole)

pub returns-in-Ok-clause-time : goal.returns-in-Ok-clause-time
returns-in-Ok-clause-time c =
    subst (λ (plan : Plan). IsOneCall (plan_state c.args.self.now) (plan_state plan)) (sym c.in-Ok.ensures.next) (step_one_call c.args.self.now sync_step [] c.sync_all.ensures.whole)
