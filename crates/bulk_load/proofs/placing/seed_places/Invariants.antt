use Rattle.std.proofs.Common.{◌≡◌, ◌++◌, ◌-◌, ◌<◌, vec_len}
use Rattle.std.specs.Prelude.{All}
use Rattle.tree_growth.specs.Groups.{seeds_from}
use Rattle.bulk_load.proofs.placing.seed_places.Given as goal

abbrev pub invariant-loop-i : goal.invariant-loop-i
invariant-loop-i l = (l.places.items ++ seeds_from l.objects l.groups l.i (l.groups - l.i) ≡ seeds_from l.objects l.groups 0 l.groups) × All (λ k. k < l.objects) l.places.items × (vec_len l.places ≡ l.i)
