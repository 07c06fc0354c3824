use Rattle.std.proofs.Common.{ap, arith}
use Rattle.batch_run.specs.declared.jobs.piles.Pile.{Pile}
use Rattle.batch_run.proofs.jobs.Piling.{damaged_more, said_more}
use Rattle.batch_run.proofs.jobs.piles.Pile.add.Goals as goal
use Rattle.batch_run.proofs.jobs.piles.Pile.add.Goals.{in-Done+in_ok-add_texts-in-Done, in-Damaged}

pub returns : goal.returns
returns c = elim c.match-outcome.branch [
  | in-Done+in_ok-add_texts-in-Done w ↦
      let replies0 = c.args.self.now.replies.ok in
      let frames0 = c.args.self.now.frames.ok in
      let replies1 = w.add_texts.new.replies.ok in
      let frames1 = w.add_texts.new.frames.ok in
      let added = c.in_ok-push.ensures.items in
      rw (w.in-Done.is, w.self-is) (said_more c.args.show w.in-Done.reply w.in-Done.log c.args.self.now
      (record { replies = w.add_texts.new.replies; frames = w.add_texts.new.frames; marks = c.push.new.self })
      (record { from = w.len-reply_start.result; to = w.len.result }) (record { from = w.len-frame_start.result; to = w.len-in-Done.result })
      w.in_ok-add_texts-in-Done.ensures.reply w.in_ok-add_texts-in-Done.ensures.frame (rw (w.self-is, w.mark-is) at added)
      (omega (arith, w.len-reply_start.ensures)) (omega (arith, w.len.ensures)) (omega (arith, w.len-frame_start.ensures)) (omega (arith, w.len-in-Done.ensures)))
  | in-Damaged w ↦
      let added = c.in_ok-push.ensures.items in
      rw w.in-Damaged.is (damaged_more c.args.show w.in-Damaged.fault c.args.self.now (record { replies = c.match-outcome.self.replies; frames = c.match-outcome.self.frames; marks = c.push.new.self })
      (ap (λ (p : Pile). p.replies.items) w.self-is) (ap (λ (p : Pile). p.frames.items) w.self-is) (rw (w.self-is, w.mark-is) at added))
]
