use Rattle.std.proofs.Common.{◌≡◌, refl, sym, ap, ◌∙◌, subst, ℕ, [], arith, drop, ◌+◌}
use Rattle.std.proofs.lemmas.List.{drop_all}
use Rattle.index_core.specs.Files.{IsValidFile}
use Rattle.index_core.specs.Index.{OpenIndex}
use Rattle.std.proofs.KnownBytes.{Appends-nil}
use Rattle.std.specs.List.{AllByRecursion}
use Rattle.node_page.specs.declared.head.Head.{Head}
use Rattle.session_run.specs.Pinned.{AreKeptBy, AreNumbered, GoesThrough, IsKeptBy}
use Rattle.session_run.specs.Session.{StandsBy}
use Rattle.session_run.proofs.Pins.{free_stands}
use Rattle.session_run.proofs.Runs.{begun, cause_since, finished, grew_more, next_item, one_more, stopped, turned_on}
use Rattle.session_run.proofs.running.session.Goals as goal

pub loop-command-init : goal.loop-command-init
loop-command-init g c = record {
  going = c.requires.going;
  stands = c.requires.stands;
  head = refl;
  metric = refl;
  numbers = omega (arith, c.new-cursors.ensures.next);
  counted = refl;
  is_known = refl;
  later = omega arith;
  kept = record {
    each = subst (AllByRecursion (IsKeptBy (g.M.Metric.space c.args.index.now.file.metric) c.args.index.now)) (sym c.new-cursors.ensures.cursors) tt;
    numbers = subst (AreNumbered 0 c.new-cursors.result.next) (sym c.new-cursors.ensures.cursors) (omega arith);
  };
  through = λ is_known. subst (AllByRecursion (GoesThrough c.args.index.now (g.D.Disk.state c.args.disk.now).bytes)) (sym c.new-cursors.ensures.cursors) tt;
  grew = ([], Appends-nil (g.K.Sink.state c.args.out.now).written);
  log_grew = ([], Appends-nil (g.T.Sink.state c.args.log_out.now).written);
  out_later = omega arith;
  log_later = omega arith;
  done = λ sound.
      begun (g.M.Metric.space c.args.index.now.file.metric) c.args.show c.args.index.now (g.D.Disk.state c.args.disk.now) c.args.commands.now (g.K.Sink.state c.args.out.now) (g.T.Sink.state c.args.log_out.now)
      c.new-cursors.result c.new-cursors.ensures.cursors c.new-cursors.ensures.next c.is_valid.ensures (c.requires.stands c.requires.going) sound;
}

pub loop-command-preserved : goal.loop-command-preserved
loop-command-preserved g c =
    let turned = turned_on g.M.Metric.space c.args.show c.args.index.now c.loop-command.index c.turn.new.index c.loop-command.cursors c.turn.new.cursors (g.D.Disk.state c.loop-command.disk) (g.D.Disk.state c.turn.new.disk)
    c.command-item.result (g.K.Sink.state c.loop-command.out) (g.K.Sink.state c.turn.new.out) (g.T.Sink.state c.loop-command.log_out) (g.T.Sink.state c.turn.new.log_out) _ c.loop-command.invariant.metric
    c.in_default.ensures.turned in
    let metric = turned.metric ∙ c.loop-command.invariant.metric in
    record {
      going = turned.going;
      stands = c.turn.ensures.stands;
      head = turned.head ∙ c.loop-command.invariant.head;
      metric = metric;
      numbers = omega (arith, turned.numbers, c.loop-command.invariant.numbers);
      counted = ap (λ (n : ℕ). n + 1) c.loop-command.invariant.counted;
      is_known = turned.is_known ∙ c.loop-command.invariant.is_known;
      later = omega (arith, turned.later, c.loop-command.invariant.later);
      kept = subst (λ (m : g.row.M.Denot). AreKeptBy (g.M.Metric.space m) c.turn.new.index c.turn.new.cursors) (sym metric) turned.kept;
      through = turned.through c.loop-command.invariant.through;
      grew = grew_more (g.K.Sink.state c.args.out.now) (g.K.Sink.state c.loop-command.out) (g.K.Sink.state c.turn.new.out) c.loop-command.invariant.grew turned.grew;
      log_grew = grew_more (g.T.Sink.state c.args.log_out.now) (g.T.Sink.state c.loop-command.log_out) (g.T.Sink.state c.turn.new.log_out) c.loop-command.invariant.log_grew turned.log_grew;
      out_later = omega (arith, turned.out_later, c.loop-command.invariant.out_later);
      log_later = omega (arith, turned.log_later, c.loop-command.invariant.log_later);
      done = λ sound.
          let so_far = rw (next_item c.args.commands.now c.loop-command.command-index c.command-item.result (omega arith) c.command-item.is) at c.loop-command.invariant.done sound in
          let put = turned.put so_far.cursors so_far.goes in
          one_more (g.M.Metric.space c.args.index.now.file.metric) c.args.show c.args.index.now (g.D.Disk.state c.args.disk.now) c.args.commands.now (g.K.Sink.state c.args.out.now) (g.T.Sink.state c.args.log_out.now)
          c.loop-command.index c.loop-command.cursors (g.D.Disk.state c.loop-command.disk) c.command-item.result (drop (c.loop-command.command-index + 1) c.args.commands.now) (g.K.Sink.state c.loop-command.out)
          (g.T.Sink.state c.loop-command.log_out) c.loop-command.acknowledged c.loop-command.invariant.head so_far c.turn.new.index c.turn.new.cursors put.0 (g.D.Disk.state c.turn.new.disk) (g.K.Sink.state c.turn.new.out)
          (g.T.Sink.state c.turn.new.log_out) put.1 put.2;
    }

pub overflow_add-acknowledged : goal.overflow_add-acknowledged
overflow_add-acknowledged g c = omega (arith, c.loop-command.invariant.counted, c.requires.few)

pub returns-in-Err-clause-run : goal.returns-in-Err-clause-run
returns-in-Err-clause-run g c = λ sound.
    let turned = turned_on g.M.Metric.space c.args.show c.args.index.now c.loop-command.index c.turn.new.index c.loop-command.cursors c.turn.new.cursors (g.D.Disk.state c.loop-command.disk) (g.D.Disk.state c.turn.new.disk)
    c.command-item.result (g.K.Sink.state c.loop-command.out) (g.K.Sink.state c.turn.new.out) (g.T.Sink.state c.loop-command.log_out) (g.T.Sink.state c.turn.new.log_out) _ c.loop-command.invariant.metric
    c.in-Err.ensures.turned in
    let so_far = rw (next_item c.args.commands.now c.loop-command.command-index c.command-item.result (omega arith) c.command-item.is) at c.loop-command.invariant.done sound in
    stopped (g.M.Metric.space c.args.index.now.file.metric) c.args.show c.args.index.now (g.D.Disk.state c.args.disk.now) c.args.commands.now (g.K.Sink.state c.args.out.now) (g.T.Sink.state c.args.log_out.now)
    c.loop-command.index c.loop-command.cursors (g.D.Disk.state c.loop-command.disk) c.command-item.result (drop (c.loop-command.command-index + 1) c.args.commands.now) (g.K.Sink.state c.loop-command.out)
    (g.T.Sink.state c.loop-command.log_out) c.loop-command.acknowledged c.loop-command.invariant.head so_far c.turn.new.index (g.D.Disk.state c.turn.new.disk) (g.K.Sink.state c.turn.new.out)
    (g.T.Sink.state c.turn.new.log_out) c.in-Err.why (turned.moments so_far.cursors so_far.goes) (turned.stopped so_far.cursors so_far.goes)

pub returns-clause-run : goal.returns-clause-run
returns-clause-run g c = λ sound.
    let none : drop c.loop-command.command-index c.args.commands.now ≡ [] = drop_all c.loop-command.command-index c.args.commands.now (omega arith) in
    finished (g.M.Metric.space c.args.index.now.file.metric) c.args.show c.args.index.now (g.D.Disk.state c.args.disk.now) c.args.commands.now (g.K.Sink.state c.args.out.now) (g.T.Sink.state c.args.log_out.now)
    c.loop-command.index c.close_all.new.index c.loop-command.cursors (g.D.Disk.state c.loop-command.disk) (g.K.Sink.state c.loop-command.out) (g.T.Sink.state c.loop-command.log_out) c.loop-command.acknowledged
    c.loop-command.invariant.head (ap (λ (i : OpenIndex g.row.M.Denot). i.file) c.close_all.ensures.only)
    (subst (λ (m : g.row.M.Denot). IsValidFile (g.M.Metric.space m).dimension c.loop-command.index.file) c.loop-command.invariant.metric c.is_valid-2.ensures)
    (c.loop-command.invariant.stands c.loop-command.invariant.going) (rw none at c.loop-command.invariant.done sound)

pub returns-in-Err-clause-cause : goal.returns-in-Err-clause-cause
returns-in-Err-clause-cause g c =
    let turned = turned_on g.M.Metric.space c.args.show c.args.index.now c.loop-command.index c.turn.new.index c.loop-command.cursors c.turn.new.cursors (g.D.Disk.state c.loop-command.disk) (g.D.Disk.state c.turn.new.disk)
    c.command-item.result (g.K.Sink.state c.loop-command.out) (g.K.Sink.state c.turn.new.out) (g.T.Sink.state c.loop-command.log_out) (g.T.Sink.state c.turn.new.log_out) _ c.loop-command.invariant.metric
    c.in-Err.ensures.turned in
    cause_since (g.D.Disk.state c.args.disk.now) (g.D.Disk.state c.loop-command.disk) (g.D.Disk.state c.turn.new.disk) (g.K.Sink.state c.args.out.now) (g.K.Sink.state c.loop-command.out) (g.K.Sink.state c.turn.new.out)
    (g.T.Sink.state c.args.log_out.now) (g.T.Sink.state c.loop-command.log_out) (g.T.Sink.state c.turn.new.log_out) c.in-Err.why c.loop-command.invariant.later c.loop-command.invariant.out_later c.loop-command.invariant.log_later
    (λ sound. let so_far = c.loop-command.invariant.done sound in (so_far.cursors, so_far.goes)) turned.cause

pub returns-in-Err-clause-damage : goal.returns-in-Err-clause-damage
returns-in-Err-clause-damage g c =
    subst (λ (h : Head). StandsBy h (g.D.Disk.state c.turn.new.disk) c.in-Err.why) c.loop-command.invariant.head (c.in-Err.ensures.turned.stands c.loop-command.invariant.through)

pub returns-in-Err-clause-grew : goal.returns-in-Err-clause-grew
returns-in-Err-clause-grew g c =
    grew_more (g.K.Sink.state c.args.out.now) (g.K.Sink.state c.loop-command.out) (g.K.Sink.state c.turn.new.out) c.loop-command.invariant.grew c.in-Err.ensures.turned.grew

pub returns-in-Err-clause-log_grew : goal.returns-in-Err-clause-log_grew
returns-in-Err-clause-log_grew g c =
    grew_more (g.T.Sink.state c.args.log_out.now) (g.T.Sink.state c.loop-command.log_out) (g.T.Sink.state c.turn.new.log_out) c.loop-command.invariant.log_grew c.in-Err.ensures.turned.log_grew

pub returns-clause-stands : goal.returns-clause-stands
returns-clause-stands g c = λ going.
    free_stands c.loop-command.index c.close_all.new.index (g.D.Disk.state c.loop-command.disk) c.close_all.ensures.only c.close_all.ensures.beside (c.loop-command.invariant.stands c.loop-command.invariant.going)
