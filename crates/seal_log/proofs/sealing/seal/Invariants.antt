use Rattle.std.proofs.Common.{◌≡◌, ◌+◌, ◌≤◌, length}
use Rattle.std.specs.Prelude.{IsTrue}
use Rattle.disk_model.specs.Disk.{IsUnchanged}
use Rattle.seal_log.specs.Digests.{leaf_digests}
use Rattle.seal_log.proofs.sealing.seal.Given as goal

abbrev pub invariant-loop-page : goal.invariant-loop-page
invariant-loop-page g l = record {
  sealed : IsTrue (g.D.Disk.state l.fn.disk).is_known → l.leaves.items ≡ leaf_digests (g.D.Disk.state l.fn.disk).bytes l.page;
  size : length l.leaves.items ≡ l.page;
  later : (g.D.Disk.state l.fn.disk).faults ≤ (g.D.Disk.state l.disk).faults;
  no_fault : (g.D.Disk.state l.disk).faults ≡ (g.D.Disk.state l.fn.disk).faults;
  same : IsUnchanged (g.D.Disk.state l.fn.disk) (g.D.Disk.state l.disk);
  reads : (g.D.Disk.state l.disk).reads ≤ (g.D.Disk.state l.fn.disk).reads + l.page;
}
