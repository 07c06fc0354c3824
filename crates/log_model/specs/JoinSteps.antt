-- The steps of the join's walk.
use Rattle.std.specs.Prelude.{ℕ, List, map, filter, Option, Some, if◌then◌else◌}
use Rattle.metric_laws.specs.Space.{Space}
use Rattle.scan_model.specs.declared.hit.Pair.{Pair}
use Rattle.log_model.specs.Items.{Item}
use Rattle.log_model.specs.declared.pairs.JoinNeed.{JoinNeed}
use Rattle.log_model.specs.JoinWalk.{JoinSearch, centre_of, apart_of, opens_right, is_hit, is_need, pair_of}

-- the search of a join in a space, with the radius that prunes
abbrev pub search_within : Space → ℕ → JoinSearch
search_within s rho = record { space = s; rho = rho }

-- the distance of an entry's point from the other item, where that has a centre
abbrev pub apart_from : Space → JoinNeed → List ℕ → Option ℕ
apart_from s n point = if opens_right n then apart_of s (centre_of n.left) (Some point) else apart_of s (Some point) (centre_of n.right)

-- `item` in the place of the opened item, at the distance `apart` from the other item
abbrev pub paired : JoinNeed → Item → Option ℕ → JoinNeed
paired n item apart = if opens_right n then record { left = n.left; right = item; apart = apart } else record { left = item; right = n.right; apart = apart }

-- the answers among some pairs, and the pairs that are still needed
abbrev pub hits_among : List JoinNeed → List Pair
hits_among pairs = map pair_of (filter is_hit pairs)

abbrev pub needs_among : List JoinNeed → List JoinNeed
needs_among pairs = filter is_need pairs
