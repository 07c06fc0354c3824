use Rattle.std.proofs.Common.{◌≡◌, ℕ, ◌+◌, ◌-◌, ◌*◌, ◌/◌, ◌<◌, ◌++◌, ◌∷◌, [], ◌∙◌, ap, arith, sym, List, append_assoc}
use Rattle.std.proofs.lemmas.List.Elements.{All-push}
use Rattle.bulk_load.proofs.Steps.{seeds_step, seed_low}
use Rattle.bulk_load.proofs.placing.seed_places.Goals as goal

pub loop-i-preserved : goal.loop-i-preserved
loop-i-preserved c =
    let step = seeds_step c.args.objects c.args.groups c.loop-i.i (c.args.groups - c.loop-i.i) (c.args.groups - (c.loop-i.i + 1)) (omega arith) in
    let low : c.loop-i.i * c.args.objects / c.args.groups < c.args.objects = seed_low c.args.objects c.args.groups c.loop-i.i c.requires.objects.0 (omega arith) in
    let grown : c.push.new.self.items ≡ c.loop-i.places.items ++ (c.loop-i.i * c.args.objects / c.args.groups) ∷ [] = c.in_ok-push.ensures.items in (
      rw (grown, append_assoc) (ap (λ (r : List ℕ). c.loop-i.places.items ++ r) (sym step) ∙ c.loop-i.invariant.0),
      rw grown (All-push (λ k. k < c.args.objects) c.loop-i.places.items (c.loop-i.i * c.args.objects / c.args.groups) c.loop-i.invariant.1 low),
      (let l = c.in_ok-push.ensures.len in let v = c.loop-i.invariant.2 in omega arith),
    )
