use Rattle.std.proofs.Common.{rules, inl, inr}
use Rattle.mtree_c.proofs.Coming.{handed, too_short}
use Rattle.mtree_c.proofs.answering.hand_over.Goals.{then-found-hits-via-then-found-hits, then-found-hits-via-else-found-hits+then-len-log}
use Rattle.mtree_c.proofs.answering.hand_over.Goals as goal

pub returns-then-found-hits : goal.returns-then-found-hits
returns-then-found-hits c = λ file command comes none.
    let a = c.in-Ok.answer in
    too_short file command a.hits a.tags a.log c.in-Ok-frame_for.frame.items c.args.hits.now c.args.hits.now c.args.log.now c.args.log.now _ _
    (search rules) (search rules) c.in-Ok-frame_for.ensures (search rules) (search rules)
    (elim c.then-found-hits.branch [
      | then-found-hits-via-then-found-hits w ↦ inl w.if-found-hits.true
      | then-found-hits-via-else-found-hits+then-len-log w ↦ inr (search rules)
    ])

pub returns : goal.returns
returns c = λ file command comes none.
    let a = c.in-Ok.answer in
    handed file command a.hits a.tags a.log c.in-Ok-frame_for.frame.items c.args.hits.now c.put_hits.new.room c.args.log.now c.put_front.new.room _ _
    (search rules) (search rules) c.in-Ok-frame_for.ensures (search rules) (search rules)
    (search rules) (search rules)
