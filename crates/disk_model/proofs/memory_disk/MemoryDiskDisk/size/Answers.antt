use Rattle.std.proofs.Common.{length, ap, sym, ◌∙◌, List, ℕ, arith, ◌≡◌}
use Rattle.disk_model.specs.Memory.Model.{SimulatedDisk}
use Rattle.disk_model.specs.Memory.Images.{kept_by}
use Rattle.disk_model.proofs.Steps.{unchanged}
use Rattle.disk_model.proofs.memory_disk.MemoryDiskDisk.size.Goals as goal

pub returns-in_err-look-clause-same : goal.returns-in_err-look-clause-same
returns-in_err-look-clause-same c = unchanged c.args.self.now c.look.new.self _ _ c.look.ensures.next

pub returns-clause-same : goal.returns-clause-same
returns-clause-same c = unchanged c.args.self.now c.look.new.self _ _ c.look.ensures.next

pub returns-clause-size : goal.returns-clause-size
returns-clause-size c = λ told.
    let now = (unchanged c.args.self.now c.look.new.self _ _ c.look.ensures.next).same_bytes in
    let inside : (kept_by c.look.new.self).read ≡ c.self.inside.bytes.items = ap (λ (disk : SimulatedDisk). (kept_by disk).read) (sym c.self.view_is) ∙ c.self.invariant.read in
    omega (arith, ap (λ (file : List ℕ). length file) now, ap (λ (file : List ℕ). length file) inside)
