use Rattle.std.proofs.Common.{◌≡◌, ◌∙◌, sym, rules}
use Rattle.disk_model.specs.Memory.Laws.{rests}
use Rattle.disk_model.proofs.Shown.{shown_rest}
use Rattle.disk_model.proofs.replay.Replay.new.Goals as goal

pub returns-clause-replay : goal.returns-clause-replay
returns-clause-replay c =
    let read : c.in_ok-to_vec.field-0.items ≡ c.args.first.now = search rules in
    let image : c.in_ok-to_vec-2.field-0.items ≡ c.args.first.now = search rules in
    record { read = read; image = image ∙ sym (shown_rest c.args.pick c.args.first.now); sound = rests c.args.first.now }
