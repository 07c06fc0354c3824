use Rattle.std.proofs.Common.{sym, subst, length}
use Rattle.disk_model.specs.Disk.{Written, Torn, Follows, IsOneCall}
use Rattle.disk_model.specs.Moments.{written_torn}
use Rattle.plan_disk.specs.Plan.{Plan, plan_state, file_of, write_step}
use Rattle.plan_disk.proofs.Steps.{write_written, write_torn, step_one_call}
use Rattle.plan_disk.proofs.disk.PlanDiskDisk.write_at.Goals as goal

pub returns-in-Ok-clause-written : goal.returns-in-Ok-clause-written
returns-in-Ok-clause-written c = λ told.
    subst (λ (plan : Plan). Written c.args.at c.args.bytes.now (file_of c.args.self.now) (file_of plan)) (sym c.in-Ok.ensures.next) (write_written c.args.self.now c.args.at c.args.bytes.now c.write.ensures.whole)

pub returns-in-Ok-clause-others : goal.returns-in-Ok-clause-others
returns-in-Ok-clause-others c = λ told. written_torn c.args.at c.args.bytes.now (file_of c.args.self.now) (file_of c.write.new.self) (returns-in-Ok-clause-written c told)

pub returns-in-Ok-clause-torn : goal.returns-in-Ok-clause-torn
returns-in-Ok-clause-torn c =
    subst (λ (plan : Plan). Follows (Torn c.args.at (length c.args.bytes.now)) (plan_state c.args.self.now) (plan_state plan)) (sym c.in-Ok.ensures.next) (write_torn c.args.self.now c.args.at c.args.bytes.now c.write.ensures.whole)

pub returns-in-Ok-clause-time : goal.returns-in-Ok-clause-time
returns-in-Ok-clause-time c =
    subst (λ (plan : Plan). IsOneCall (plan_state c.args.self.now) (plan_state plan)) (sym c.in-Ok.ensures.next) (step_one_call c.args.self.now (write_step c.args.at c.args.bytes.now) c.args.bytes.now c.write.ensures.whole)
