use Rattle.std.proofs.Common.{◌≡◌, Bool, ◌∙◌, ap}
use Rattle.par_work.proofs.Published.{if_ok}
use Rattle.tree_growth.specs.Bulk.{groups_at}
use Rattle.bulk_load.specs.Groupable.{load_of}
use Rattle.bulk_load.specs.Postorder.{is_top}
use Rattle.bulk_load.proofs.Suited.{increasing, top_is}
use Rattle.bulk_load.proofs.subtree.groups_in.Goals as goal

pub groups-requires-clause-ascends : goal.groups-requires-clause-ascends
groups-requires-clause-ascends g c κs within = increasing 0 _ c.requires.set.ascends

pub returns : goal.returns
returns g c =
    let load = load_of (g.M.Metric.space c.args.loading.now.metric) c.args.loading.now.rows.now.points c.args.loading.now.tags.now c.args.loading.now.fill in
    if_ok _ (λ gs. gs.items ≡ groups_at load (is_top c.args.set.now.seed) c.args.set.now.level c.args.set.now.places.now) c.groups.result c.groups.ensures
    (λ gs e. e c.args.loading.now.tags.now ∙ ap (λ (b : Bool). groups_at load b c.args.set.now.level c.args.set.now.places.now) (top_is c.args.set.now.seed c.is_none.result c.is_none.ensures))
