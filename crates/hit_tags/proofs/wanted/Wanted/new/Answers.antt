use Rattle.std.proofs.Common.{get_or, refl}
use Rattle.scan_model.specs.declared.hit.Hit.{Hit}
use Rattle.hit_tags.proofs.Taking.{wanted_more}
use Rattle.hit_tags.proofs.wanted.Wanted.new.Goals as goal

pub loop-hit-preserved : goal.loop-hit-preserved
loop-hit-preserved c =
    let none : Hit = record { id = 0; dist = 0 } in
    wanted_more c.args.hits.now c.loop-hit.hit-index (get_or c.args.hits.now c.loop-hit.hit-index none) none c.loop-hit.tags.entries c.insert.new.self.entries c.loop-hit-test.true
    refl (λ q. c.in_ok-insert.ensures.updates.0 q) c.loop-hit.invariant
