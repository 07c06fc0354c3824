use Rattle.std.proofs.Common.{◌≡◌, ◌++◌, ◌+◌, ◌≤◌, take}
use Rattle.std.specs.Prelude.{IsTrue}
use Rattle.disk_model.specs.Disk.{IsUnchanged}
use Rattle.seal_log.specs.Carrying.{pages_bytes}
use Rattle.seal_log.proofs.carrying.put_pages.Given as goal

abbrev pub invariant-loop-page : goal.invariant-loop-page
invariant-loop-page g l = record {
  put : IsTrue (g.D.Disk.state l.fn.disk).is_known → l.out.items ≡ l.fn.out.items ++ pages_bytes (g.D.Disk.state l.fn.disk).bytes l.tree (take l.page-index l.pages);
  later : (g.D.Disk.state l.fn.disk).faults ≤ (g.D.Disk.state l.disk).faults;
  no_fault : (g.D.Disk.state l.disk).faults ≡ (g.D.Disk.state l.fn.disk).faults;
  same : IsUnchanged (g.D.Disk.state l.fn.disk) (g.D.Disk.state l.disk);
  reads : (g.D.Disk.state l.disk).reads ≤ (g.D.Disk.state l.fn.disk).reads + l.page-index;
}
