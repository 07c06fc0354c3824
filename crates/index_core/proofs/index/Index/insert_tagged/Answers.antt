use Rattle.std.proofs.Common.{◌≡◌, ◌+◌, sym, ap, subst, ◌∙◌, arith, Some, Err}
use Rattle.free_pages.specs.Commits.{AreWithin}
use Rattle.index_core.specs.Causes.{HasPathCause}
use Rattle.index_core.specs.Damage.{BlamesDamage}
use Rattle.index_core.specs.Files.{OpenFile, IsValidFile, OnlyReads}
use Rattle.index_core.specs.Index.{OpenIndex}
use Rattle.index_core.specs.Writing.{HasWritten, Inserts, IsNumberedFor}
use Rattle.index_core.specs.declared.faults.IndexFault.{IndexFault}
use Rattle.index_core.specs.declared.faults.IndexFault.TheVariants.{Full, Worn}
use Rattle.index_core.proofs.Damaged.{commit_blames, list_blames, moved_blames, path_blames}
use Rattle.index_core.proofs.Written.{commit_cause, exact_moved, fits_moved, list_is, reads_both, refused_by, refused_here, refused_written, then_written}
use Rattle.index_core.proofs.index.Index.insert_tagged.Goals as goal

pub returns-then-count-head-clause-written : goal.returns-then-count-head-clause-written
returns-then-count-head-clause-written g c = λ going.
    let valid = subst (λ (i : OpenIndex g.row.M.Denot). IsValidFile (g.M.Metric.space i.file.metric).dimension i.file) c.self.view_is c.is_valid.ensures in
    refused_written (g.M.Metric.space c.args.self.now.file.metric) (Inserts c.args.p.now c.args.tag) c.args.self.now c.args.self.now (g.D.Disk.state c.args.disk.now) (g.D.Disk.state c.args.disk.now) Full valid
    (c.requires.stands going).stands (c.requires.stands going).only (λ e. cc) (refused_here c.args.self.now (g.D.Disk.state c.args.disk.now)) (λ points tags has exact. exact)

pub returns-then-generation-eq-LAST_GENERATION-clause-written : goal.returns-then-generation-eq-LAST_GENERATION-clause-written
returns-then-generation-eq-LAST_GENERATION-clause-written g c = λ going.
    let valid = subst (λ (i : OpenIndex g.row.M.Denot). IsValidFile (g.M.Metric.space i.file.metric).dimension i.file) c.self.view_is c.is_valid.ensures in
    refused_written (g.M.Metric.space c.args.self.now.file.metric) (Inserts c.args.p.now c.args.tag) c.args.self.now c.args.self.now (g.D.Disk.state c.args.disk.now) (g.D.Disk.state c.args.disk.now) Worn valid
    (c.requires.stands going).stands (c.requires.stands going).only (λ e. cc) (refused_here c.args.self.now (g.D.Disk.state c.args.disk.now)) (λ points tags has exact. exact)

pub place-requires-clause-within : goal.place-requires-clause-within
place-requires-clause-within g c = λ κs bounds.
    subst (λ (i : OpenIndex g.row.M.Denot). AreWithin i.file.live.pages c.in-Ok.free) (sym c.self-2.view_is)
    (subst (λ (f : OpenFile g.row.M.Denot). AreWithin f.live.pages c.in-Ok.free) (sym c.take_free.ensures.reads.rest) c.in-Ok.ensures.valid.within)

pub returns-in-Err-place-clause-written : goal.returns-in-Err-place-clause-written
returns-in-Err-place-clause-written g c = λ going.
    let valid = subst (λ (i : OpenIndex g.row.M.Denot). IsValidFile (g.M.Metric.space i.file.metric).dimension i.file) c.self.view_is c.is_valid.ensures in
    let second = subst (λ (i : OpenIndex g.row.M.Denot). OnlyReads i.file c.place.new.self (g.D.Disk.state c.take_free.new.disk) (g.D.Disk.state c.place.new.disk)) c.self-2.view_is c.place.ensures.reads in
    let reads = reads_both c.args.self.now.file c.take_free.new.self.file c.place.new.self (g.D.Disk.state c.args.disk.now) (g.D.Disk.state c.take_free.new.disk) (g.D.Disk.state c.place.new.disk)
    c.take_free.ensures.reads second in
    let list = list_is c.args.self.now (g.D.Disk.state c.args.disk.now) c.in-Ok.free c.in-Ok.ensures.list in
    subst (λ (n : OpenIndex g.row.M.Denot). HasWritten (g.M.Metric.space c.args.self.now.file.metric) (Inserts c.args.p.now c.args.tag) c.args.self.now n (g.D.Disk.state c.args.disk.now) (g.D.Disk.state c.place.new.disk)
    (Err c.in-Err-place.fault)) (sym (ap (λ (i : OpenIndex g.row.M.Denot). record i { file = c.place.new.self; free = Some c.in-Ok.free }) (c.self-2.view_is ∙ c.take_free.ensures.rest)))
    (refused_written (g.M.Metric.space c.args.self.now.file.metric) (Inserts c.args.p.now c.args.tag) c.args.self.now (record c.args.self.now { file = c.place.new.self; free = Some c.in-Ok.free })
    (g.D.Disk.state c.args.disk.now) (g.D.Disk.state c.place.new.disk) c.in-Err-place.fault valid (c.requires.stands going).stands (c.requires.stands going).only
    (λ e. subst (λ (fault : IndexFault). HasPathCause (g.M.Metric.space c.self-2.inside.view.metric) c.self-2.inside.view c.in-Ok.free (record { id = c.self-2.inside.view.live.count; tag = c.args.tag; point = c.args.p.now }) (g.D.Disk.state c.take_free.new.disk) (g.D.Disk.state c.place.new.disk) fault) e c.in-Err-place.ensures.cause)
    (refused_by c.args.self.now c.place.new.self c.in-Ok.free (g.D.Disk.state c.args.disk.now) (g.D.Disk.state c.place.new.disk) reads list)
    (λ points tags has exact. exact_moved c.in-Ok.free c.args.self.now.file c.place.new.self (g.D.Disk.state c.args.disk.now) (g.D.Disk.state c.place.new.disk) reads (c.in-Ok.ensures.exact (has.is_known, has.sound) exact)))

pub returns-clause-written : goal.returns-clause-written
returns-clause-written g c = λ going.
    let valid = subst (λ (i : OpenIndex g.row.M.Denot). IsValidFile (g.M.Metric.space i.file.metric).dimension i.file) c.self.view_is c.is_valid.ensures in
    let second = subst (λ (i : OpenIndex g.row.M.Denot). OnlyReads i.file c.place.new.self (g.D.Disk.state c.take_free.new.disk) (g.D.Disk.state c.place.new.disk)) c.self-2.view_is c.place.ensures.reads in
    let reads = reads_both c.args.self.now.file c.take_free.new.self.file c.place.new.self (g.D.Disk.state c.args.disk.now) (g.D.Disk.state c.take_free.new.disk) (g.D.Disk.state c.place.new.disk)
    c.take_free.ensures.reads second in
    let count = c.in-Ok-place.ensures.one ∙ ap (λ (f : OpenFile g.row.M.Denot). f.live.count + 1) (sym c.place.ensures.reads.rest) in
    let answer = ap (λ t. t.count) c.live-generation.ensures ∙ (ap (λ (i : OpenIndex g.row.M.Denot). i.file.live.count) c.self.view_is ∙ ap (λ (f : OpenFile g.row.M.Denot). f.live.count) (sym reads.rest)) in
    let written = c.commit_placed.ensures.written (Inserts c.args.p.now c.args.tag) count answer
    (fits_moved g.M.Metric.space (Inserts c.args.p.now c.args.tag) c.in-Ok-place.placement.placed c.self-2.inside.view c.place.new.self (g.D.Disk.state c.take_free.new.disk) (g.D.Disk.state c.place.new.disk)
    c.place.ensures.reads c.in-Ok-place.ensures.inserts)
    (subst (λ (f : OpenFile g.row.M.Denot). IsNumberedFor (Inserts c.args.p.now c.args.tag) f c.in-Ok.free c.in-Ok-place.placement.placed) (sym c.place.ensures.reads.rest) c.in-Ok-place.ensures.numbered) in
    let measured = subst (λ (f : OpenFile g.row.M.Denot). HasWritten (g.M.Metric.space f.metric) (Inserts c.args.p.now c.args.tag) (record { file = c.place.new.self; free = Some c.in-Ok.free; stopped = c.self-2.inside.stopped; workers = c.self-2.inside.workers }) c.commit_placed.new.self (g.D.Disk.state c.place.new.disk)
    (g.D.Disk.state c.commit_placed.new.disk) c.commit_placed.result) reads.rest written in
    then_written (g.M.Metric.space c.args.self.now.file.metric) (Inserts c.args.p.now c.args.tag) c.args.self.now c.commit_placed.new.self c.place.new.self c.in-Ok.free (g.D.Disk.state c.args.disk.now)
    (g.D.Disk.state c.place.new.disk) (g.D.Disk.state c.commit_placed.new.disk) c.commit_placed.result valid (c.requires.stands going).stands (c.requires.stands going).only reads c.in-Ok.ensures.list
    (λ points tags has exact. exact_moved c.in-Ok.free c.args.self.now.file c.place.new.self (g.D.Disk.state c.args.disk.now) (g.D.Disk.state c.place.new.disk) reads (c.in-Ok.ensures.exact (has.is_known, has.sound) exact))
    (subst (λ (i : OpenIndex g.row.M.Denot). HasWritten (g.M.Metric.space c.args.self.now.file.metric) (Inserts c.args.p.now c.args.tag) (record i { file = c.place.new.self; free = Some c.in-Ok.free }) c.commit_placed.new.self
    (g.D.Disk.state c.place.new.disk) (g.D.Disk.state c.commit_placed.new.disk) c.commit_placed.result) (c.self-2.view_is ∙ c.take_free.ensures.rest) measured)

pub returns-clause-cause : goal.returns-clause-cause
returns-clause-cause g c =
    commit_cause (g.M.Metric.space c.args.self.now.file.metric) c.args.self.now _ (g.D.Disk.state c.args.disk.now) (g.D.Disk.state c.place.new.disk) (g.D.Disk.state c.commit_placed.new.disk) c.commit_placed.result
    (let l = c.take_free.ensures.reads.later in let m = c.place.ensures.reads.later in omega arith) c.commit_placed.ensures.refusals c.commit_placed.ensures.rose

pub returns-in-Err-clause-damage : goal.returns-in-Err-clause-damage
returns-in-Err-clause-damage g c = list_blames c.args.self.now.file (g.D.Disk.state c.args.disk.now) _ c.in-Err.fault c.in-Err.ensures.cause

pub returns-in-Err-place-clause-damage : goal.returns-in-Err-place-clause-damage
returns-in-Err-place-clause-damage g c =
    let valid = subst (λ (i : OpenIndex g.row.M.Denot). IsValidFile (g.M.Metric.space i.file.metric).dimension i.file) c.self.view_is c.is_valid.ensures in
    let dimension = subst (λ (i : OpenIndex g.row.M.Denot). (g.M.Metric.space i.file.metric).dimension ≡ i.file.head.dim) (sym c.self-2.view_is)
    (subst (λ (f : OpenFile g.row.M.Denot). (g.M.Metric.space f.metric).dimension ≡ f.head.dim) (sym c.take_free.ensures.reads.rest) valid.dimension_is) in
    moved_blames c.args.self.now.file c.take_free.new.self.file (g.D.Disk.state c.args.disk.now) (g.D.Disk.state c.take_free.new.disk) c.in-Err-place.fault c.take_free.ensures.reads
    (subst (λ (i : OpenIndex g.row.M.Denot). BlamesDamage i.file (g.D.Disk.state c.take_free.new.disk) c.in-Err-place.fault) c.self-2.view_is
    (path_blames (g.M.Metric.space c.self-2.inside.view.metric) c.self-2.inside.view c.in-Ok.free (record { id = c.self-2.inside.view.live.count; tag = c.args.tag; point = c.args.p.now })
    (g.D.Disk.state c.take_free.new.disk) (g.D.Disk.state c.place.new.disk) c.in-Err-place.fault dimension c.in-Err-place.ensures.cause))

pub returns-clause-damage : goal.returns-clause-damage
returns-clause-damage g c = commit_blames c.args.self.now.file (g.D.Disk.state c.args.disk.now) c.commit_placed.result c.commit_placed.ensures.refusals
