use Rattle.std.proofs.Common.{refl, sym, ap, subst, ◌∙◌, Some, Ok, Err}
use Rattle.std.specs.Prelude.{IsTrue}
use Rattle.disk_model.specs.Disk.{EachImage}
use Rattle.page_store.specs.Kept.{unchanged_by_none}
use Rattle.shadow_root.specs.Commit.{IsBeforeOrAfter}
use Rattle.free_pages.specs.Commits.{AreWithin}
use Rattle.free_pages.specs.Keeping.{FreePages, IsKept}
use Rattle.index_core.specs.Files.{IsValidFile, nodes_on}
use Rattle.index_core.specs.Index.{OpenIndex, AreSpare}
use Rattle.index_core.specs.Lending.{same_room_by_none}
use Rattle.index_core.specs.Writing.{HasWritten, IsCommitted}
use Rattle.index_core.specs.declared.faults.IndexFault.TheVariants.{Memory}
use Rattle.index_core.proofs.Outcome.{committed_of, done_written, failed_written, next_list, spare_of, unspared}
use Rattle.index_core.proofs.Written.{refused_written}
use Rattle.index_core.proofs.index.Index.commit_placed.Goals as goal

pub returns-in_default-clause-written : goal.returns-in_default-clause-written
returns-in_default-clause-written g c = λ write count is is_point numbered.
    let valid = subst (λ (i : OpenIndex g.row.M.Denot). IsValidFile (g.M.Metric.space i.file.metric).dimension i.file) c.self.view_is c.is_valid.ensures in
    let same = ap (λ (i : OpenIndex g.row.M.Denot). record i { free = Some c.reserve.new.self }) c.self.view_is ∙ ap (λ (f : FreePages). record c.args.self.now { free = Some f }) c.in_default.ensures.err in
    subst (λ (n : OpenIndex g.row.M.Denot). HasWritten (g.M.Metric.space c.args.self.now.file.metric) write (record c.args.self.now { free = Some c.args.free }) n (g.D.Disk.state c.args.disk.now) (g.D.Disk.state c.args.disk.now) (Err Memory))
    (sym same)
    (refused_written (g.M.Metric.space c.args.self.now.file.metric) write (record c.args.self.now { free = Some c.args.free }) (record c.args.self.now { free = Some c.args.free }) (g.D.Disk.state c.args.disk.now)
    (g.D.Disk.state c.args.disk.now) Memory valid c.requires.stands c.requires.only (λ e. cc) (record {
      is = refl;
      room = same_room_by_none c.args.self.now.file.kept;
      free = refl;
      same = unchanged_by_none (g.D.Disk.state c.args.disk.now);
    }) (λ points tags has exact. exact))

pub write-requires-clause-beside : goal.write-requires-clause-beside
write-requires-clause-beside g c = λ κs bounds is_known.
    subst (λ (i : OpenIndex g.row.M.Denot). AreSpare (nodes_on i.file (g.D.Disk.state c.args.disk.now)) i.file.live c.reserve.new.self) (sym c.self.view_is)
    (subst (AreSpare (nodes_on c.args.self.now.file (g.D.Disk.state c.args.disk.now)) c.args.self.now.file.live) (sym c.in-Ok.ensures.ok)
    (spare_of (nodes_on c.args.self.now.file (g.D.Disk.state c.args.disk.now)) c.args.self.now.file.live c.args.free _ (c.requires.beside is_known)))

pub write-requires-clause-within : goal.write-requires-clause-within
write-requires-clause-within g c = λ κs bounds.
    subst (λ (i : OpenIndex g.row.M.Denot). AreWithin i.file.live.pages c.reserve.new.self) (sym c.self.view_is)
    (subst (AreWithin c.args.self.now.file.live.pages) (sym c.in-Ok.ensures.ok) c.requires.valid.within)

pub returns-in_default-write-clause-written : goal.returns-in_default-write-clause-written
returns-in_default-write-clause-written g c = λ write count is is_point numbered.
    let valid = subst (λ (i : OpenIndex g.row.M.Denot). IsValidFile (g.M.Metric.space i.file.metric).dimension i.file) c.self.view_is c.is_valid.ensures in
    let kept = unspared c.args.free _ (subst IsKept c.in-Ok.ensures.ok c.reserve.ensures.kept) in
    let moments = subst (λ (i : OpenIndex g.row.M.Denot). IsTrue (g.D.Disk.state c.args.disk.now).is_known →
    EachImage (g.D.Disk.state c.args.disk.now) (g.D.Disk.state c.write.new.disk) (IsBeforeOrAfter i.file.head.dim i.file.live c.args.placement.now.placed.next c.args.placement.now.placed.staged
    (g.D.Disk.state c.args.disk.now))) c.self.view_is c.write.ensures.moments in
    failed_written (g.M.Metric.space c.args.self.now.file.metric) write c.args.self.now c.args.free c.args.placement.now.used c.args.placement.now.placed valid kept c.requires.valid c.requires.placed
    (g.D.Disk.state c.args.disk.now) (g.D.Disk.state c.write.new.disk) c.requires.stands c.requires.only (λ is_known sound. is_point (is_known, sound)) moments _ refl refl c.in_default-write.ensures.cause.failed

pub invariant_of-self-2 : goal.invariant_of-self-2
invariant_of-self-2 g c =
    let did = subst (λ (i : OpenIndex g.row.M.Denot). IsCommitted i.file c.write.new.self c.reserve.new.self c.write.new.free c.args.placement.now.used c.args.placement.now.placed (g.D.Disk.state c.args.disk.now)
    (g.D.Disk.state c.write.new.disk)) c.self.view_is c.in-Ok-write.ensures.committed in
    record {
      some_workers = c.self.invariant.some_workers;
      few_workers = c.self.invariant.few_workers;
      free = next_list c.args.self.now.file c.args.free c.args.placement.now.used c.args.placement.now.placed c.requires.valid c.requires.placed _ _ c.write.new.self c.write.new.free
          (committed_of c.args.self.now.file c.write.new.self c.args.free c.write.new.free _ c.args.placement.now.used c.args.placement.now.placed (g.D.Disk.state c.args.disk.now) (g.D.Disk.state c.write.new.disk)
          (subst (λ (f : FreePages). IsCommitted c.args.self.now.file c.write.new.self f c.write.new.free c.args.placement.now.used c.args.placement.now.placed (g.D.Disk.state c.args.disk.now)
          (g.D.Disk.state c.write.new.disk)) c.in-Ok.ensures.ok did));
    }

pub returns-clause-written : goal.returns-clause-written
returns-clause-written g c = λ write count is is_point numbered.
    let valid = subst (λ (i : OpenIndex g.row.M.Denot). IsValidFile (g.M.Metric.space i.file.metric).dimension i.file) c.self.view_is c.is_valid.ensures in
    let kept = unspared c.args.free _ (subst IsKept c.in-Ok.ensures.ok c.reserve.ensures.kept) in
    let moments = subst (λ (i : OpenIndex g.row.M.Denot). IsTrue (g.D.Disk.state c.args.disk.now).is_known →
    EachImage (g.D.Disk.state c.args.disk.now) (g.D.Disk.state c.write.new.disk) (IsBeforeOrAfter i.file.head.dim i.file.live c.args.placement.now.placed.next c.args.placement.now.placed.staged
    (g.D.Disk.state c.args.disk.now))) c.self.view_is c.write.ensures.moments in
    let did = subst (λ (i : OpenIndex g.row.M.Denot). IsCommitted i.file c.write.new.self c.reserve.new.self c.write.new.free c.args.placement.now.used c.args.placement.now.placed (g.D.Disk.state c.args.disk.now)
    (g.D.Disk.state c.write.new.disk)) c.self.view_is c.in-Ok-write.ensures.committed in
    let whole = committed_of c.args.self.now.file c.write.new.self c.args.free c.write.new.free _ c.args.placement.now.used c.args.placement.now.placed (g.D.Disk.state c.args.disk.now) (g.D.Disk.state c.write.new.disk)
    (subst (λ (f : FreePages). IsCommitted c.args.self.now.file c.write.new.self f c.write.new.free c.args.placement.now.used c.args.placement.now.placed (g.D.Disk.state c.args.disk.now)
    (g.D.Disk.state c.write.new.disk)) c.in-Ok.ensures.ok did) in
    subst (λ (n : OpenIndex g.row.M.Denot). HasWritten (g.M.Metric.space c.args.self.now.file.metric) write (record c.args.self.now { free = Some c.args.free }) n (g.D.Disk.state c.args.disk.now)
    (g.D.Disk.state c.write.new.disk) (Ok c.args.answer)) (sym (ap (λ (i : OpenIndex g.row.M.Denot). record i { file = c.write.new.self; free = Some c.write.new.free }) c.self.view_is))
    (done_written (g.M.Metric.space c.args.self.now.file.metric) write c.args.self.now c.args.free c.args.placement.now.used c.args.placement.now.placed valid kept c.requires.valid c.requires.placed
    (g.D.Disk.state c.args.disk.now) (g.D.Disk.state c.write.new.disk) c.requires.stands c.requires.only (λ is_known sound. is_point (is_known, sound)) moments c.write.new.self c.write.new.free c.args.answer
    (g.met.D.Disk.read_is_image c.write.new.disk) c.write.ensures.is_known whole count is c.requires.beside c.requires.follows numbered)
