use Rattle.std.proofs.Common.{◌≡◌, ◌≤◌, ◌<◌, ◌++◌, ◌-◌, drop, vec_len, length}
use Rattle.std.specs.Prelude.{replicate, All}
use Rattle.tree_growth.specs.declared.rules.Member.{Member}
use Rattle.tree_growth.specs.Groups.{placed_from, entry}
use Rattle.bulk_load.specs.Hints.{AreHints}
use Rattle.bulk_load.proofs.placing.place_all.Given as goal

abbrev pub invariant-loop-place : goal.invariant-loop-place
invariant-loop-place g l =
    let d = l.placing.distances.now in
    let far = entry d.table in
    (length l.counts ≡ d.width) × (l.before ≤ d.width)
    × AreHints far l.placing.room l.hints.first l.counts l.hints.groups.items
    × (l.placed.items ++ placed_from far l.placing.room l.place (drop l.before l.placing.seeds.now) l.before l.counts (length d.table - l.place)
    ≡ placed_from far l.placing.room 0 l.placing.seeds.now 0 (replicate d.width 1) (length d.table))
    × All (λ (p : Member). p.group < d.width) l.placed.items × (vec_len l.placed ≡ l.place)
