use Rattle.std.proofs.Common.{arith, ap, ◌∙◌, List, ℕ, ◌+◌, slice_index, is_ok}
use Rattle.outside_io.specs.Memory.{next_count}
use Rattle.disk_model.specs.Memory.Model.{SimulatedDisk, look, after_call}
use Rattle.disk_model.proofs.Steps.{unchanged}
use Rattle.disk_model.proofs.memory_disk.MemoryDiskDisk.read_at.Goals as goal

pub returns-in_err-look-clause-same : goal.returns-in_err-look-clause-same
returns-in_err-look-clause-same c =
    unchanged c.args.self.now c.look.new.self (is_ok c.look.result) (next_count c.args.self.now.reads) (c.look.ensures.next ∙ ap (λ (disk : SimulatedDisk). after_call disk look (is_ok c.look.result)) c.count_read.ensures)

pub returns-clause-same : goal.returns-clause-same
returns-clause-same c =
    unchanged c.args.self.now c.look.new.self (is_ok c.look.result) (next_count c.args.self.now.reads) (c.look.ensures.next ∙ ap (λ (disk : SimulatedDisk). after_call disk look (is_ok c.look.result)) c.count_read.ensures)

pub returns-clause-read : goal.returns-clause-read
returns-clause-read c = λ told i below.
    c.copy_out.ensures i (omega arith)
    ∙ ap (λ (file : List ℕ). slice_index file (c.args.at + i)) (c.bytes.ensures ∙ (returns-clause-same c).same_bytes)
