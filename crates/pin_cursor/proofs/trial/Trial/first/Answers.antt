use Rattle.std.proofs.Common.{◌∙◌, ◌++◌, ap, sym, subst, drop}
use Rattle.std.proofs.lemmas.Option.{IfSome_then}
use Rattle.nearest_search.specs.Least.{IsLeast}
use Rattle.pin_cursor.specs.Lines.{Tried, line_of}
use Rattle.pin_cursor.proofs.Tried.{least_taken, taken_added, taken_left}
use Rattle.pin_cursor.proofs.trial.Trial.first.Goals as goal

pub returns-then-comes_first-clause-some : goal.returns-then-comes_first-clause-some
returns-then-comes_first-clause-some g c =
    IfSome_then c.first.result c.first.ensures.some
    (λ x is. subst (IsLeast g.T.Ord.cmp x.now) (ap (λ (t : Tried g.row.T.Denot). t.waits) c.self.view_is)
    (least_taken g.T.Ord.cmp g.met.T.Ord.total g.met.T.TellsApart.ties_equal x.now (c.self.inside.left.items ++ c.self.inside.added.items) (line_of g.T.Ord.cmp (c.self.inside.left.items ++ drop 1 c.self.inside.added.items))
    (taken_added g.T.Ord.cmp g.met.T.Ord.total g.met.T.TellsApart.ties_equal x.now c.self.inside.left.items c.self.inside.added.items (drop 1 c.self.inside.added.items) c.comes_first.ensures.left c.comes_first.ensures.added
    (sym c.comes_first.ensures.says ∙ c.if-comes_first.true) is)))

pub returns-else-comes_first-clause-some : goal.returns-else-comes_first-clause-some
returns-else-comes_first-clause-some g c =
    IfSome_then c.first-else-comes_first.result c.first-else-comes_first.ensures.some
    (λ x is. subst (IsLeast g.T.Ord.cmp x.now) (ap (λ (t : Tried g.row.T.Denot). t.waits) c.self.view_is)
    (least_taken g.T.Ord.cmp g.met.T.Ord.total g.met.T.TellsApart.ties_equal x.now (c.self.inside.left.items ++ c.self.inside.added.items) (line_of g.T.Ord.cmp (drop 1 c.self.inside.left.items ++ c.self.inside.added.items))
    (taken_left g.T.Ord.cmp g.met.T.Ord.total g.met.T.TellsApart.ties_equal x.now c.self.inside.left.items (drop 1 c.self.inside.left.items) c.self.inside.added.items c.comes_first.ensures.left c.comes_first.ensures.added
    (sym c.comes_first.ensures.says ∙ c.if-comes_first.false) is)))
