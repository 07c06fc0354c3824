use Rattle.std.proofs.Common.{◌≡◌, ℕ, List, drop}
use Rattle.tree_audit.specs.Audited.{each_entry, check_object, last_point}
use Rattle.tree_audit.proofs.walking.audit_objects.Given as goal

abbrev pub invariant-loop-i : goal.invariant-loop-i
invariant-loop-i g l = record {
  same : g.R.Ruler.metric l.ruler ≡ g.R.Ruler.metric l.fn.ruler;
  limit : l.ids.limit ≡ l.fn.ids.limit;
  left : (ps : List ℕ) → each_entry (check_object (g.R.M.Metric.space (g.R.Ruler.metric l.fn.ruler)) l.fn.ids.limit (last_point l.path) l.path l.page) l.i (drop l.i l.objects) (record { pages = ps; ids = l.ids.met })
      ≡ each_entry (check_object (g.R.M.Metric.space (g.R.Ruler.metric l.fn.ruler)) l.fn.ids.limit (last_point l.path) l.path l.page) 0 l.objects (record { pages = ps; ids = l.fn.ids.met });
}
