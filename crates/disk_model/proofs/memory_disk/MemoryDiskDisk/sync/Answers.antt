use Rattle.std.proofs.Common.{inr, is_ok, ◌<◌, if◌then◌else◌}
use Rattle.disk_model.specs.Memory.Model.{look, sync}
use Rattle.disk_model.proofs.Steps.{one_call_by, durable_by, bytes_by, fewer_by}
use Rattle.disk_model.proofs.memory_disk.MemoryDiskDisk.sync.Goals as goal

pub returns-clause-durable : goal.returns-clause-durable
returns-clause-durable c = durable_by c.args.self.now c.sync_all.new.self c.sync_all.result (λ (full : c.args.self.now.left < 1). c.sync_all.ensures.fails.1 (inr full)) c.sync_all.ensures.next

pub returns-clause-bytes : goal.returns-clause-bytes
returns-clause-bytes c = bytes_by c.args.self.now c.sync_all.new.self c.sync_all.result c.sync_all.ensures.next

pub returns-clause-fewer : goal.returns-clause-fewer
returns-clause-fewer c = fewer_by c.args.self.now c.sync_all.new.self c.sync_all.result (λ (full : c.args.self.now.left < 1). c.sync_all.ensures.fails.1 (inr full)) c.sync_all.ensures.next

pub returns-clause-time : goal.returns-clause-time
returns-clause-time c = one_call_by c.args.self.now c.sync_all.new.self (if is_ok c.sync_all.result then sync else look) (is_ok c.sync_all.result) c.sync_all.ensures.next
