use Rattle.std.proofs.Common.{◌≡◌, ◌∙◌, ◌+◌, ◌++◌, ap, arith, sym, subst, drop}
use Rattle.std.proofs.lemmas.Option.{IfSome_then}
use Rattle.nearest_search.specs.Least.{IsLeast}
use Rattle.pin_cursor.specs.Lines.{Tried, line_of}
use Rattle.pin_cursor.proofs.Tried.{handed_same, least_taken, one_longer, taken_added, taken_is, taken_left, taken_one}
use Rattle.pin_cursor.proofs.trial.Trial.take_first.Goals as goal

pub returns-then-comes_first-clause-some : goal.returns-then-comes_first-clause-some
returns-then-comes_first-clause-some g c =
    IfSome_then c.take_first.result c.take_first.ensures.some
    (λ x is. sym (ap (λ (t : Tried g.row.T.Denot). t.waits) c.self.view_is)
    ∙ taken_added g.T.Ord.cmp g.met.T.Ord.total g.met.T.TellsApart.ties_equal x c.self.inside.left.items c.self.inside.added.items c.take_first.new.self.items c.comes_first.ensures.left c.comes_first.ensures.added
    (sym c.comes_first.ensures.says ∙ c.if-comes_first.true) is)

pub returns-then-comes_first-clause-first : goal.returns-then-comes_first-clause-first
returns-then-comes_first-clause-first g c =
    IfSome_then c.take_first.result c.take_first.ensures.some
    (λ x is. subst (IsLeast g.T.Ord.cmp x) (ap (λ (t : Tried g.row.T.Denot). t.waits) c.self.view_is)
    (least_taken g.T.Ord.cmp g.met.T.Ord.total g.met.T.TellsApart.ties_equal x (c.self.inside.left.items ++ c.self.inside.added.items) (line_of g.T.Ord.cmp (c.self.inside.left.items ++ c.take_first.new.self.items))
    (taken_added g.T.Ord.cmp g.met.T.Ord.total g.met.T.TellsApart.ties_equal x c.self.inside.left.items c.self.inside.added.items c.take_first.new.self.items c.comes_first.ensures.left c.comes_first.ensures.added
    (sym c.comes_first.ensures.says ∙ c.if-comes_first.true) is)))

pub invariant_of-self-2 : goal.invariant_of-self-2
invariant_of-self-2 g c =
    let room : c.take_first-2.new.self.room ≡ c.self.inside.left.room + 1 =
    taken_one c.take_first-2.result (c.take_first-2.new.self.room ≡ c.self.inside.left.room + 1) c.in-Some.field-0.now c.self.inside.left.items (drop 1 c.self.inside.left.items) c.in-Some.ensures.some
    c.take_first-2.ensures.none c.take_first-2.ensures.room in
    let more = one_longer g.T.Ord.cmp c.in-Some.field-0.now c.self.inside.taken.items c.add.new.self.items c.in_ok-add.ensures.added in let fit = c.self.invariant in
    (omega arith, omega arith)

pub returns-clause-handed : goal.returns-clause-handed
returns-clause-handed g c =
    handed_same g.T.Ord.cmp g.met.T.Ord.total g.met.T.TellsApart.ties_equal c.in-Some.field-0.now c.self.inside.left.items c.take_first-2.new.self.items c.self.inside.taken.items c.add.new.self.items
    (taken_is c.take_first-2.result c.in-Some.field-0.now c.self.inside.left.items (drop 1 c.self.inside.left.items) c.take_first-2.new.self.items c.in-Some.ensures.some c.take_first-2.ensures.none c.take_first-2.ensures.some)
    c.in_ok-add.ensures.added ∙ ap (λ (t : Tried g.row.T.Denot). t.handed) c.self.view_is

pub returns-clause-some : goal.returns-clause-some
returns-clause-some g c =
    IfSome_then c.take_first-2.result c.take_first-2.ensures.some
    (λ x is. sym (ap (λ (t : Tried g.row.T.Denot). t.waits) c.self.view_is)
    ∙ taken_left g.T.Ord.cmp g.met.T.Ord.total g.met.T.TellsApart.ties_equal x c.self.inside.left.items c.take_first-2.new.self.items c.self.inside.added.items c.comes_first.ensures.left c.comes_first.ensures.added
    (sym c.comes_first.ensures.says ∙ c.if-comes_first.false) is)

pub returns-clause-first : goal.returns-clause-first
returns-clause-first g c =
    IfSome_then c.take_first-2.result c.take_first-2.ensures.some
    (λ x is. subst (IsLeast g.T.Ord.cmp x) (ap (λ (t : Tried g.row.T.Denot). t.waits) c.self.view_is)
    (least_taken g.T.Ord.cmp g.met.T.Ord.total g.met.T.TellsApart.ties_equal x (c.self.inside.left.items ++ c.self.inside.added.items) (line_of g.T.Ord.cmp (c.take_first-2.new.self.items ++ c.self.inside.added.items))
    (taken_left g.T.Ord.cmp g.met.T.Ord.total g.met.T.TellsApart.ties_equal x c.self.inside.left.items c.take_first-2.new.self.items c.self.inside.added.items c.comes_first.ensures.left c.comes_first.ensures.added
    (sym c.comes_first.ensures.says ∙ c.if-comes_first.false) is)))
