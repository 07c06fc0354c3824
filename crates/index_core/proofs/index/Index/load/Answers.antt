use Rattle.std.proofs.Common.{ap, subst, ◌∙◌, length}
use Rattle.std.proofs.lemmas.List.FromFn.{length-range_with_len}
use Rattle.std.proofs.lemmas.Result.{err_from_is_err_and}
use Rattle.index_core.specs.Files.{IsValidFile}
use Rattle.index_core.specs.Index.{OpenIndex}
use Rattle.index_core.specs.Loading.{ids}
use Rattle.index_core.specs.Writing.{Loads}
use Rattle.index_core.specs.declared.faults.IndexFault.TheVariants.{Memory}
use Rattle.index_core.proofs.Damaged.{load_blames}
use Rattle.index_core.proofs.Loaded.{at_once, nothing_written}
use Rattle.index_core.proofs.index.Index.load.Goals as goal

pub returns-in-Err-clause-written : goal.returns-in-Err-clause-written
returns-in-Err-clause-written g c = λ going.
    let valid = subst (λ (i : OpenIndex g.row.M.Denot). IsValidFile (g.M.Metric.space i.file.metric).dimension i.file) c.self.view_is c.is_valid.ensures in
    let alone = c.requires.stands going in
    nothing_written (g.M.Metric.space c.args.self.now.file.metric) (Loads c.args.rows.now.points (ids (length c.args.rows.now.points))) c.args.self.now (g.D.Disk.state c.args.disk.now) c.in-Err.fault valid alone.stands
    alone.only (at_once c.args.self.now c.len.result c.in-Err.fault c.in-Err.ensures.err)

pub returns-in_err-tags-clause-written : goal.returns-in_err-tags-clause-written
returns-in_err-tags-clause-written g c =
    let p = err_from_is_err_and c.from_residual.result c.from_residual.ensures.1 in
    rw (p.1, p.2) (λ going.
    let valid = subst (λ (i : OpenIndex g.row.M.Denot). IsValidFile (g.M.Metric.space i.file.metric).dimension i.file) c.self.view_is c.is_valid.ensures in
    let alone = c.requires.stands going in
    nothing_written (g.M.Metric.space c.args.self.now.file.metric) (Loads c.args.rows.now.points (ids (length c.args.rows.now.points))) c.args.self.now (g.D.Disk.state c.args.disk.now) Memory valid alone.stands
    alone.only (λ e. cc))

pub load_tagged-requires-clause-tags : goal.load_tagged-requires-clause-tags
load_tagged-requires-clause-tags g c = λ κs within. ap length (c.as_slice.ensures.value ∙ c.in_ok-tags.ensures) ∙ (length-range_with_len 0 c.len-2.result ∙ c.len-2.ensures)

pub returns-in-Err-clause-damage : goal.returns-in-Err-clause-damage
returns-in-Err-clause-damage g c = load_blames c.args.self.now c.len.result (g.D.Disk.state c.args.disk.now) c.in-Err.fault c.in-Err.ensures.err
