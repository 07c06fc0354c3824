use Rattle.std.proofs.Common.{◌≡◌, ◌∙◌, ap, sym, subst, length, List, ℕ}
use Rattle.plan_disk.specs.Patches.{Shows}
use Rattle.plan_disk.specs.Plan.{Plan, file_of}
use Rattle.plan_disk.proofs.Steps.{empty_file, empty_whole}
use Rattle.plan_disk.proofs.disk.PlanDisk.new.Goals as goal

pub invariant_of-result : goal.invariant_of-result
invariant_of-result c =
    let plan : Plan = record { base = c.new.result.base; steps = c.new-2.result.items; written = c.new-3.result.items; most = c.args.most; faults = 0; reads = 0 } in
    let file : file_of plan ≡ c.args.file.now = empty_file plan c.new-2.ensures.items ∙ c.new.ensures.base in
    record {
      whole = empty_whole c.new-2.result.items c.new-3.result.items c.new-2.ensures.items c.new-3.ensures.items;
      shows = subst (λ (f : List ℕ). Shows c.new.result f) (sym file) c.new.ensures.shows;
      size = sym (ap length file);
    }
