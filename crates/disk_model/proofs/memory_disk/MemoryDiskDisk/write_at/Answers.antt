use Rattle.std.proofs.Common.{inl, inr, is_ok, ◌<◌, ◌+◌, length}
use Rattle.std.proofs.lemmas.Result.{on_ok_weaker}
use Rattle.disk_model.specs.Memory.Model.{write}
use Rattle.disk_model.proofs.Steps.{one_call_by, torn_by, written_by, others_by, unwritten_by}
use Rattle.disk_model.proofs.memory_disk.MemoryDiskDisk.write_at.Goals as goal

pub returns-clause-written : goal.returns-clause-written
returns-clause-written c =
    on_ok_weaker c.write.result (λ written told. written)
    (written_by c.args.self.now c.write.new.self c.args.at c.args.bytes.now c.write.result (λ (full : c.args.self.now.left < length c.args.bytes.now + 1). c.write.ensures.fails.1 (inl (inr full))) c.write.ensures.next)

pub returns-clause-others : goal.returns-clause-others
returns-clause-others c = λ told.
    others_by c.args.self.now c.write.new.self c.args.at c.args.bytes.now c.write.result (λ (full : c.args.self.now.left < length c.args.bytes.now + 1). c.write.ensures.fails.1 (inl (inr full))) c.write.ensures.next

pub returns-clause-torn : goal.returns-clause-torn
returns-clause-torn c = torn_by c.args.self.now c.write.new.self c.args.at c.args.bytes.now (is_ok c.write.result) (is_ok c.write.result) c.write.ensures.next

pub returns-clause-time : goal.returns-clause-time
returns-clause-time c = one_call_by c.args.self.now c.write.new.self (write c.args.at c.args.bytes.now (is_ok c.write.result)) (is_ok c.write.result) c.write.ensures.next

pub returns-clause-unwritten : goal.returns-clause-unwritten
returns-clause-unwritten c = unwritten_by c.args.self.now c.write.new.self c.args.at c.args.bytes.now c.write.result c.write.ensures.next
