use Rattle.std.proofs.Common.{◌<◌, ℕ, List, ◌++◌, length, sym, ap, ◌∙◌, append_assoc}
use Rattle.std.proofs.lemmas.List.{append-nil, drop_all}
use Rattle.bulk_load.specs.Measured.{points_of}
use Rattle.bulk_load.proofs.Measuring.{centre_step}
use Rattle.bulk_load.proofs.distances.centres_at.Goals as goal

pub loop-seed-preserved : goal.loop-seed-preserved
loop-seed-preserved c =
    let low : c.loop-seed.seed-index < length c.args.seeds.now = c.loop-seed-test.true in
    let step = centre_step c.args.rows.now.points c.args.set.now c.args.seeds.now c.loop-seed.seed-index c.in_ok-new.field-0 low (c.requires.seeds c.loop-seed.seed-index 0 low)
    (c.in_ok-new.ensures ∙ c.point.ensures) in
    rw (c.in_ok-push.ensures.items, append_assoc) (ap (λ (r : List (List ℕ)). c.loop-seed.centres.items ++ r) (sym step) ∙ c.loop-seed.invariant)

pub returns : goal.returns
returns c =
    let points : List (List ℕ) = points_of c.args.rows.now.points c.args.set.now in
    sym (append-nil c.loop-seed.centres.items)
    ∙ ap (λ (ss : List ℕ). c.loop-seed.centres.items ++ points_of points ss) (sym (drop_all c.loop-seed.seed-index c.args.seeds.now c.loop-seed-test.false))
    ∙ c.loop-seed.invariant
