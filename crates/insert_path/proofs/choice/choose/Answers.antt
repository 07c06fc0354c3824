use Rattle.insert_path.proofs.Seen.{chosen_place}
use Rattle.insert_path.proofs.choice.choose.Goals as goal

pub returns-clause-place : goal.returns-clause-place
returns-clause-place g c =
    chosen_place (g.R.M.Metric.space (g.R.Ruler.metric c.args.ruler.now)) c.args.entries.now c.args.p.now _ _ _ c.requires c.see_all-seen.ensures.inside c.see_all-seen.ensures.outside c.place_of.ensures
