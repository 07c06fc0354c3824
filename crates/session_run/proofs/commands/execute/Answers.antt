use Rattle.std.proofs.Common.{sym, ap, ◌∙◌, List, ℕ, Ok}
use Rattle.rows_text.specs.declared.command.Command.TheVariants as command
use Rattle.rows_text.specs.declared.reply.Reply.TheVariants as reply
use Rattle.index_core.specs.Index.{OpenIndex}
use Rattle.index_core.specs.Writing.{Inserts, Loads}
use Rattle.index_core.specs.Loading.{ids}
use Rattle.std.proofs.Common.{length}
use Rattle.session_run.specs.Steps.{plain_answer, written_answer}
use Rattle.session_run.proofs.Carrying.{any_ok, carried, carried_stopped, close_carried, free_reads, keeps_none, keeps_reading, keeps_written, next_carried}
use Rattle.session_run.proofs.Inserts.{inserted_stepped, tag_inserted_stepped}
use Rattle.session_run.proofs.Loads.{loaded_stepped, tag_loaded_stepped}
use Rattle.session_run.proofs.Opening.{bad_stepped, counted_stepped}
use Rattle.session_run.proofs.Pins.{free_stands}
use Rattle.session_run.proofs.Stepped.{reads_only}
use Rattle.session_run.proofs.commands.execute.Goals as goal

pub returns-in-Insert-clause-done : goal.returns-in-Insert-clause-done
returns-in-Insert-clause-done g c = rw c.inserted.ensures
    (carried (g.M.Metric.space c.args.index.now.file.metric) c.args.show c.args.index.now c.insert.new.self c.args.cursors.now (g.D.Disk.state c.args.disk.now) (g.D.Disk.state c.insert.new.disk) c.args.command.now (written_answer (λ id. reply.Id id) c.insert.result)
    (λ cursors. inserted_stepped (g.M.Metric.space c.args.index.now.file.metric) c.args.show c.args.index.now c.insert.new.self cursors (g.D.Disk.state c.args.disk.now) (g.D.Disk.state c.insert.new.disk) c.args.command.now c.is_valid.ensures (c.requires.stands c.requires.going) c.requires.going c.insert.ensures.is_known c.insert.ensures.later c.as_slice.result.now c.insert.result c.requires.points
    (c.in-Insert.is ∙ ap (λ (p : List ℕ). command.Insert p) (sym c.as_slice.ensures)) (c.insert.ensures.written c.requires.going) (c.insert.ensures.full c.requires.going) (c.insert.ensures.worn c.requires.going)
    c.insert.ensures.cause c.insert.ensures.undamaged c.insert.ensures.damage)
    c.requires.kept (keeps_written (g.M.Metric.space c.args.index.now.file.metric) (Inserts c.as_slice.result.now c.args.index.now.file.live.count) (λ id. reply.Id id) c.args.index.now c.insert.new.self (g.D.Disk.state c.args.disk.now) (g.D.Disk.state c.insert.new.disk) c.insert.result (c.insert.ensures.written c.requires.going)
    (g.met.D.Disk.read_is_image c.insert.new.disk) c.insert.ensures.is_known))

pub returns-in-TagInsert-clause-done : goal.returns-in-TagInsert-clause-done
returns-in-TagInsert-clause-done g c = rw c.inserted-in-TagInsert.ensures
    (carried (g.M.Metric.space c.args.index.now.file.metric) c.args.show c.args.index.now c.insert_tagged.new.self c.args.cursors.now (g.D.Disk.state c.args.disk.now) (g.D.Disk.state c.insert_tagged.new.disk) c.args.command.now (written_answer (λ id. reply.Id id) c.insert_tagged.result)
    (λ cursors. tag_inserted_stepped (g.M.Metric.space c.args.index.now.file.metric) c.args.show c.args.index.now c.insert_tagged.new.self cursors (g.D.Disk.state c.args.disk.now) (g.D.Disk.state c.insert_tagged.new.disk) c.args.command.now c.is_valid.ensures (c.requires.stands c.requires.going) c.requires.going c.insert_tagged.ensures.is_known c.insert_tagged.ensures.later c.as_slice-in-TagInsert.result.now c.in-TagInsert.tag
    c.insert_tagged.result c.requires.points (c.in-TagInsert.is ∙ ap (λ (p : List ℕ). command.TagInsert c.in-TagInsert.tag p) (sym c.as_slice-in-TagInsert.ensures))
    (c.insert_tagged.ensures.written c.requires.going) (c.insert_tagged.ensures.full c.requires.going) (c.insert_tagged.ensures.worn c.requires.going) c.insert_tagged.ensures.cause c.insert_tagged.ensures.undamaged c.insert_tagged.ensures.damage)
    c.requires.kept (keeps_written (g.M.Metric.space c.args.index.now.file.metric) (Inserts c.as_slice-in-TagInsert.result.now c.in-TagInsert.tag) (λ id. reply.Id id) c.args.index.now c.insert_tagged.new.self (g.D.Disk.state c.args.disk.now) (g.D.Disk.state c.insert_tagged.new.disk) c.insert_tagged.result (c.insert_tagged.ensures.written c.requires.going)
    (g.met.D.Disk.read_is_image c.insert_tagged.new.disk) c.insert_tagged.ensures.is_known))

pub returns-in-Load-clause-done : goal.returns-in-Load-clause-done
returns-in-Load-clause-done g c = rw c.loaded.ensures
    (carried (g.M.Metric.space c.args.index.now.file.metric) c.args.show c.args.index.now c.load.new.self c.args.cursors.now (g.D.Disk.state c.args.disk.now) (g.D.Disk.state c.load.new.disk) c.args.command.now (written_answer (λ count. reply.Loaded count) c.load.result)
    (λ cursors. loaded_stepped (g.M.Metric.space c.args.index.now.file.metric) c.args.show c.args.index.now c.load.new.self cursors (g.D.Disk.state c.args.disk.now) (g.D.Disk.state c.load.new.disk) c.args.command.now c.in-Load.rows c.is_valid.ensures (c.requires.stands c.requires.going) c.requires.going c.load.ensures.is_known c.load.ensures.later c.requires.points c.load.result
    c.in-Load.is (c.load.ensures.written c.requires.going) (λ why refused. (c.load.ensures.refused why refused).0) c.load.ensures.cause c.load.ensures.undamaged c.load.ensures.damage)
    c.requires.kept (keeps_written (g.M.Metric.space c.args.index.now.file.metric) (Loads c.in-Load.rows.points (ids (length c.in-Load.rows.points))) (λ count. reply.Loaded count) c.args.index.now c.load.new.self (g.D.Disk.state c.args.disk.now) (g.D.Disk.state c.load.new.disk) c.load.result (c.load.ensures.written c.requires.going)
    (g.met.D.Disk.read_is_image c.load.new.disk) c.load.ensures.is_known))

pub returns-in-TagLoad-clause-done : goal.returns-in-TagLoad-clause-done
returns-in-TagLoad-clause-done g c = rw c.loaded-in-TagLoad.ensures
    (carried (g.M.Metric.space c.args.index.now.file.metric) c.args.show c.args.index.now c.load_tagged.new.self c.args.cursors.now (g.D.Disk.state c.args.disk.now) (g.D.Disk.state c.load_tagged.new.disk) c.args.command.now (written_answer (λ count. reply.Loaded count) c.load_tagged.result)
    (λ cursors. tag_loaded_stepped (g.M.Metric.space c.args.index.now.file.metric) c.args.show c.args.index.now c.load_tagged.new.self cursors (g.D.Disk.state c.args.disk.now) (g.D.Disk.state c.load_tagged.new.disk) c.args.command.now c.in-TagLoad.rows c.is_valid.ensures (c.requires.stands c.requires.going) c.requires.going c.load_tagged.ensures.is_known c.load_tagged.ensures.later c.requires.points
    c.as_slice-in-TagLoad.result.now c.load_tagged.result (c.in-TagLoad.is ∙ ap (λ (tags : List ℕ). command.TagLoad tags c.in-TagLoad.rows) (sym c.as_slice-in-TagLoad.ensures))
    (c.load_tagged.ensures.written c.requires.going) (λ why refused. (c.load_tagged.ensures.refused why refused).0) c.load_tagged.ensures.cause c.load_tagged.ensures.undamaged c.load_tagged.ensures.damage)
    c.requires.kept (keeps_written (g.M.Metric.space c.args.index.now.file.metric) (Loads c.in-TagLoad.rows.points c.as_slice-in-TagLoad.result.now) (λ count. reply.Loaded count) c.args.index.now c.load_tagged.new.self (g.D.Disk.state c.args.disk.now) (g.D.Disk.state c.load_tagged.new.disk) c.load_tagged.result (c.load_tagged.ensures.written c.requires.going)
    (g.met.D.Disk.read_is_image c.load_tagged.new.disk) c.load_tagged.ensures.is_known))

pub returns-in-Range-clause-done : goal.returns-in-Range-clause-done
returns-in-Range-clause-done g c =
    carried (g.M.Metric.space c.args.index.now.file.metric) c.args.show c.args.index.now c.range.new.index c.args.cursors.now (g.D.Disk.state c.args.disk.now) (g.D.Disk.state c.range.new.disk) c.args.command.now c.range.result
    (λ cursors. rw c.in-Range.is (c.range.ensures.stepped cursors)) c.requires.kept
    (any_ok c.range.result (keeps_reading c.args.index.now c.range.new.index (g.D.Disk.state c.args.disk.now) (g.D.Disk.state c.range.new.disk) c.range.ensures.rest c.range.ensures.reads))

pub returns-in-Nearest-clause-done : goal.returns-in-Nearest-clause-done
returns-in-Nearest-clause-done g c =
    carried (g.M.Metric.space c.args.index.now.file.metric) c.args.show c.args.index.now c.nearest.new.index c.args.cursors.now (g.D.Disk.state c.args.disk.now) (g.D.Disk.state c.nearest.new.disk) c.args.command.now c.nearest.result
    (λ cursors. rw c.in-Nearest.is (c.nearest.ensures.stepped cursors)) c.requires.kept
    (any_ok c.nearest.result (keeps_reading c.args.index.now c.nearest.new.index (g.D.Disk.state c.args.disk.now) (g.D.Disk.state c.nearest.new.disk) c.nearest.ensures.rest c.nearest.ensures.reads))

pub returns-in-Count-clause-done : goal.returns-in-Count-clause-done
returns-in-Count-clause-done g c = rw (c.plain.ensures, c.count.ensures)
    (carried (g.M.Metric.space c.args.index.now.file.metric) c.args.show c.args.index.now c.args.index.now c.args.cursors.now (g.D.Disk.state c.args.disk.now) (g.D.Disk.state c.args.disk.now) c.args.command.now (Ok (plain_answer (reply.Count c.args.index.now.file.live.count)))
    (λ cursors. counted_stepped (g.M.Metric.space c.args.index.now.file.metric) c.args.show c.args.index.now cursors cursors (g.D.Disk.state c.args.disk.now) c.args.command.now c.is_valid.ensures (c.requires.stands c.requires.going) c.requires.going c.requires.points c.in-Count.is)
    c.requires.kept (keeps_none c.args.index.now (g.D.Disk.state c.args.disk.now)))

pub returns-in-Bad-clause-done : goal.returns-in-Bad-clause-done
returns-in-Bad-clause-done g c = rw c.plain-in-Bad.ensures
    (carried (g.M.Metric.space c.args.index.now.file.metric) c.args.show c.args.index.now c.args.index.now c.args.cursors.now (g.D.Disk.state c.args.disk.now) (g.D.Disk.state c.args.disk.now) c.args.command.now (Ok (plain_answer (reply.Refused c.in-Bad.why)))
    (λ cursors. bad_stepped (g.M.Metric.space c.args.index.now.file.metric) c.args.show c.args.index.now cursors cursors (g.D.Disk.state c.args.disk.now) c.args.command.now c.is_valid.ensures (c.requires.stands c.requires.going) c.requires.going c.in-Bad.why c.requires.points c.in-Bad.is)
    c.requires.kept (keeps_none c.args.index.now (g.D.Disk.state c.args.disk.now)))

pub returns-in-Cursor-clause-done : goal.returns-in-Cursor-clause-done
returns-in-Cursor-clause-done g c = rw c.in-Cursor.is c.«open».ensures.done

pub returns-in-Ok-clause-done : goal.returns-in-Ok-clause-done
returns-in-Ok-clause-done g c = rw c.plain-in-Ok.ensures
    (next_carried (g.M.Metric.space c.args.index.now.file.metric) c.args.show c.args.index.now c.args.index.now c.args.cursors.now c.advance.new.self (g.D.Disk.state c.args.disk.now) (g.D.Disk.state c.advance.new.disk) c.args.command.now
    c.is_valid.ensures (c.requires.stands c.requires.going) c.requires.going c.requires.points c.in-Next.cursor c.in-Next.n c.in-Ok.reply
    (reads_only c.args.index.now.file (g.D.Disk.state c.args.disk.now) (g.D.Disk.state c.advance.new.disk) c.advance.ensures.same c.advance.ensures.later) c.in-Next.is c.advance.ensures.next c.advance.ensures.kept c.in-Ok.ensures.tagged c.in-Ok.ensures.advanced c.in-Ok.ensures.through)

pub returns-in-Err-clause-done : goal.returns-in-Err-clause-done
returns-in-Err-clause-done g c =
    carried_stopped (g.M.Metric.space c.args.index.now.file.metric) c.args.show c.args.index.now c.args.index.now c.args.cursors.now c.advance.new.self (g.D.Disk.state c.args.disk.now) (g.D.Disk.state c.advance.new.disk) c.args.command.now
    c.is_valid.ensures (c.requires.stands c.requires.going) (reads_only c.args.index.now.file (g.D.Disk.state c.args.disk.now) (g.D.Disk.state c.advance.new.disk) c.advance.ensures.same c.advance.ensures.later) c.in-Err.why c.in-Err.ensures.cause c.in-Err.ensures.damage

pub returns-in-Close-clause-done : goal.returns-in-Close-clause-done
returns-in-Close-clause-done g c = rw c.plain-in-Close.ensures
    (close_carried (g.M.Metric.space c.args.index.now.file.metric) c.args.show c.args.index.now c.close.new.index c.args.cursors.now c.close.new.self (g.D.Disk.state c.args.disk.now) (g.D.Disk.state c.args.disk.now) c.args.command.now
    c.is_valid.ensures (c.requires.stands c.requires.going) (ap (λ (i : OpenIndex g.row.M.Denot). i.stopped) c.close.ensures.only ∙ c.requires.going) c.requires.points c.in-Close.cursor c.close.result
    (free_reads c.args.index.now c.close.new.index (g.D.Disk.state c.args.disk.now) c.close.ensures.only) c.in-Close.is c.close.ensures.next c.close.ensures.kept c.close.ensures.tagged
    (λ opened stand. c.close.ensures.closed (g.D.Disk.state c.args.disk.now).bytes opened stand) (λ all is_known. c.close.ensures.through (g.D.Disk.state c.args.disk.now).bytes (all is_known)))

pub returns-in-Close-clause-stands : goal.returns-in-Close-clause-stands
returns-in-Close-clause-stands g c = λ going.
    free_stands c.args.index.now c.close.new.index (g.D.Disk.state c.args.disk.now) c.close.ensures.only c.close.ensures.beside (c.requires.stands c.requires.going)
