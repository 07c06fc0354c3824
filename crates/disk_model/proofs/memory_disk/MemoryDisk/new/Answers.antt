use Rattle.std.proofs.Common.{◌≡◌, ◌∙◌, ap, sym, arith}
use Rattle.std.proofs.lemmas.Grind.{common_steps}
use Rattle.disk_model.specs.Memory.Model.{Recorded}
use Rattle.disk_model.proofs.Calls.{read_of_none}
use Rattle.disk_model.proofs.memory_disk.MemoryDisk.new.Goals as goal

pub invariant_of-result : goal.invariant_of-result
invariant_of-result c =
    let same : c.extend_from_slice.new.self.items ≡ c.args.bytes.items = grind (arith, common_steps) in
    record {
      read = read_of_none c.args.bytes.items c.in_ok-new.field-0.past (ap (λ (it : Recorded). it.past) c.in_ok-new.ensures) ∙ sym same;
      within = grind (arith, common_steps);
      taken = grind (arith, common_steps);
    }
