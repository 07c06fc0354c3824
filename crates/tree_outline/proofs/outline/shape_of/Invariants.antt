use Rattle.std.proofs.Common.{◌≡◌, ◌≤◌, ◌-◌, length, reverse}
use Rattle.tree_outline.specs.Shapes.{IsDrawing}
use Rattle.tree_outline.proofs.outline.shape_of.Given as goal

abbrev pub invariant-loop-named : goal.invariant-loop-named
invariant-loop-named g l = record {
  keeps : g.P.Pages.keeps l.fn.pages l.pages;
  no_fault : (g.P.Pages.shelf l.pages).faults ≡ (g.P.Pages.shelf l.fn.pages).faults;
  count : l.nodes ≡ length l.lines.items;
  low : l.nodes ≤ l.live.pages;
  drawing : IsDrawing (g.P.Pages.shelf l.fn.pages) (g.P.Pages.shelf l.pages) l.live l.lines.items (reverse l.coming.items);
}

abbrev pub decreases-loop-named : goal.decreases-loop-named
decreases-loop-named g l = l.live.pages - l.nodes
