use Rattle.std.proofs.Common.{◌≡◌, ℕ, ◌+◌, ◌*◌, ◌<◌, ◌≤◌, length, IsTrue}
use Rattle.disk_model.specs.Disk.{EachImage}
use Rattle.node_page.specs.Nodes.{SpellsNode}
use Rattle.node_page.specs.Opening.{page_of}
use Rattle.page_store.specs.declared.staging.StagedNode.{StagedNode}
use Rattle.shadow_root.specs.Commit.{IsStagedAs, IsRewritten, IsFromRewritten}
use Rattle.shadow_root.proofs.committing.write_nodes.Given as goal

abbrev pub invariant-loop-i : goal.invariant-loop-i
invariant-loop-i g l = record {
  images : EachImage (g.D.Disk.state l.fn.disk) (g.D.Disk.state l.disk) (IsFromRewritten l.staged (g.D.Disk.state l.fn.disk));
  is_known : (g.D.Disk.state l.disk).is_known ≡ (g.D.Disk.state l.fn.disk).is_known;
  bytes : IsTrue (g.D.Disk.state l.fn.disk).is_known → IsRewritten l.staged (g.D.Disk.state l.fn.disk).bytes (g.D.Disk.state l.disk).bytes;
  in_place : IsTrue (g.D.Disk.state l.fn.disk).is_known → (k : ℕ) (s : StagedNode) → k < l.i → IsStagedAs l.staged k s → SpellsNode l.dim (page_of (g.D.Disk.state l.disk).bytes s.page) s.node;
  long : IsTrue (g.D.Disk.state l.fn.disk).is_known → (k : ℕ) (s : StagedNode) → k < l.i → IsStagedAs l.staged k s → 4096 * s.page + 4096 ≤ length (g.D.Disk.state l.disk).bytes;
  reads : (g.D.Disk.state l.disk).reads ≡ (g.D.Disk.state l.fn.disk).reads;
  faults : (g.D.Disk.state l.disk).faults ≡ (g.D.Disk.state l.fn.disk).faults;
}
