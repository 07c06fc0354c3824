use Rattle.std.proofs.Common.{◌∙◌, sym}
use Rattle.std.proofs.lemmas.Result.{on_ok_weaker}
use Rattle.disk_model.specs.Memory.Laws.{rests}
use Rattle.disk_model.proofs.Shown.{shown_rest}
use Rattle.disk_model.proofs.replay.Replay.apply.Goals as goal

pub returns-in-Sync-clause-replay : goal.returns-in-Sync-clause-replay
returns-in-Sync-clause-replay c =
    rw c.in-Sync.is (on_ok_weaker c.replace.result (λ same kept replay.
    record { read = replay.read; image = same ∙ c.deref.ensures.value ∙ replay.read ∙ sym (shown_rest c.args.self.now.pick kept.read); sound = rests kept.read })
    c.replace.ensures)
