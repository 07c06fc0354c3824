-- The reason of a mark of a join, with its numbers.
use Rattle.std.specs.Prelude.{ℕ, ◌+◌, Bool, List, ◌++◌, codes, decimal, Option, Some, None, nat_lt}
use Rattle.metric_laws.specs.Pruning.{gap}
use Rattle.rows_text.specs.Texts.{space}
use Rattle.log_model.specs.declared.marks.Mark.{Mark}
use Rattle.log_model.specs.declared.marks.Mark.TheVariants.{Skip, Far, Near}
use Rattle.log_model.specs.Items.{Item, Subtree, Object}
use Rattle.log_model.specs.declared.pairs.JoinNeed.{JoinNeed}
use Rattle.log_model.specs.JoinWalk.{Entry, JoinSearch, other, with_entry}
use Rattle.job_show.specs.Reasons.{gap_text, plus_radius, radius_or_zero, sign}
use Rattle.job_show_joins.specs.declared.reasons.PairReach.{PairReach}

-- the covering radius of a subtree; an object has none
abbrev pub item_radius : Item → Option ℕ
item_radius (Subtree page rank centre radius) = Some radius
item_radius (Object id point) = None

-- `RHO + RADIUS + RADIUS`
abbrev pub reach_text : PairReach → List ℕ
reach_text reach = decimal reach.rho ++ plus_radius reach.own ++ plus_radius reach.other

-- whether a distance is greater
abbrev pub exceeds : ℕ → PairReach → Bool
exceeds dist reach = nat_lt (reach.rho + radius_or_zero reach.own + radius_or_zero reach.other) dist

-- a distance, whether it is greater, and what it is compared with: `57 > 17 + 8 + 4`
abbrev pub test_text : List ℕ → ℕ → PairReach → List ℕ
test_text spelled dist reach = spelled ++ sign (exceeds dist reach) ++ reach_text reach

-- the test by a computed distance; none is computed beside a root
abbrev pub centre_text : List ℕ → Option ℕ → PairReach → List ℕ
centre_text word None reach = word
centre_text word (Some dist) reach = word ++ space ++ test_text (decimal dist) dist reach

-- the parent test; there is none where the opened item or the other one is a root
abbrev pub parent_text : Option ℕ → ℕ → PairReach → List ℕ
parent_text None stored reach = codes "skip"
parent_text (Some above) stored reach = codes "skip " ++ test_text (gap_text above stored) (gap above stored) reach

-- what the distance of an entry from the other item is compared with
abbrev pub pair_reach : JoinSearch → JoinNeed → Entry → PairReach
pair_reach j n e = record { rho = j.rho; own = item_radius e.item; other = item_radius (other n) }

-- The mark of an entry with the numbers of its test. Skip: the distance of the two items, less the stored distance of the entry, or the
-- other way round. Far and Near: the distance of the entry from the other item.
abbrev pub reason_text : Option ℕ → ℕ → Option ℕ → PairReach → Mark → List ℕ
reason_text above stored apart reach Skip = parent_text above stored reach
reason_text above stored apart reach Far = centre_text (codes "far") apart reach
reason_text above stored apart reach Near = centre_text (codes "near") apart reach

-- the reason of an entry's mark
abbrev pub pair_reason : JoinSearch → JoinNeed → Entry → Mark → List ℕ
pair_reason j n e mark = reason_text n.apart e.stored (with_entry j.space n e).apart (pair_reach j n e) mark
