use Rattle.std.proofs.Common.{◌∙◌, ap}
use Rattle.pin_cursor.specs.Lines.{Lined}
use Rattle.pin_cursor.proofs.Tried.{tried_begun}
use Rattle.pin_cursor.proofs.trial.Trial.begin.Goals as goal

pub returns-clause-handed : goal.returns-clause-handed
returns-clause-handed g c =
    tried_begun g.T.Ord.cmp g.met.T.Ord.total g.met.T.TellsApart.ties_equal c.take_all.result.items c.new.result.items c.take_all.ensures.ascends c.new.ensures
    ∙ ap (λ (l : Lined g.row.T.Denot). l.items) c.take_all.ensures.all

pub returns-clause-waits : goal.returns-clause-waits
returns-clause-waits g c =
    tried_begun g.T.Ord.cmp g.met.T.Ord.total g.met.T.TellsApart.ties_equal c.take_all.result.items c.new-2.result.items c.take_all.ensures.ascends c.new-2.ensures
    ∙ ap (λ (l : Lined g.row.T.Denot). l.items) c.take_all.ensures.all
