use Rattle.std.proofs.Common.{◌≡◌, drop}
use Rattle.tree_audit.specs.Audited.{first_outside}
use Rattle.tree_audit.proofs.walking.audit_inside.Given as goal

abbrev pub invariant-loop-i : goal.invariant-loop-i
invariant-loop-i g l = record {
  same : g.R.Ruler.metric l.ruler ≡ g.R.Ruler.metric l.fn.ruler;
  left : first_outside (g.R.M.Metric.space (g.R.Ruler.metric l.fn.ruler)) (drop l.i l.path) l.p ≡ first_outside (g.R.M.Metric.space (g.R.Ruler.metric l.fn.ruler)) l.path l.p;
}
