-- The reason of a mark, with its numbers.
use Rattle.std.specs.Prelude.{ℕ, ◌+◌, Bool, true, false, List, ◌++◌, codes, decimal, Option, Some, None, nat_lt}
use Rattle.fault_lines.specs.Lines.{numbered}
use Rattle.metric_laws.specs.Pruning.{gap}
use Rattle.log_model.specs.declared.marks.Mark.{Mark}
use Rattle.log_model.specs.declared.marks.Mark.TheVariants.{Skip, Far, Near}
use Rattle.log_model.specs.Walk.{Search, away}
use Rattle.tree_shape.specs.declared.entry.LeafEntry.{LeafEntry}
use Rattle.tree_shape.specs.declared.entry.InnerEntry.{InnerEntry}
use Rattle.job_show.specs.declared.reasons.Reach.{Reach}

-- an object's radius is 0
abbrev pub radius_or_zero : Option ℕ → ℕ
radius_or_zero None = 0
radius_or_zero (Some radius) = radius

-- `RHO`, or `RHO + RADIUS`
abbrev pub plus_radius : Option ℕ → List ℕ
plus_radius None = codes ""
plus_radius (Some radius) = numbered (codes " + ") radius

abbrev pub reach_text : Reach → List ℕ
reach_text reach = decimal reach.rho ++ plus_radius reach.radius

-- whether a distance is greater
abbrev pub exceeds : ℕ → Reach → Bool
exceeds dist reach = nat_lt (reach.rho + radius_or_zero reach.radius) dist

abbrev pub sign : Bool → List ℕ
sign true = codes " > "
sign false = codes " <= "

-- a distance, whether it is greater, and what it is compared with: `57 > 17 + 8`
abbrev pub test_text : List ℕ → ℕ → Reach → List ℕ
test_text spelled dist reach = spelled ++ sign (exceeds dist reach) ++ reach_text reach

-- `|ABOVE - STORED|`
abbrev pub gap_text : ℕ → ℕ → List ℕ
gap_text above stored = numbered (codes "|") above ++ numbered (codes " - ") stored ++ codes "|"

-- the parent test of an entry; there is none in the root
abbrev pub skip_text : Option ℕ → ℕ → Reach → List ℕ
skip_text None stored reach = codes "skip"
skip_text (Some above) stored reach = codes "skip " ++ test_text (gap_text above stored) (gap above stored) reach

-- The mark of an entry with the numbers of its test. Skip: the distance of the query from the routing point above, less the stored
-- distance of the entry from it, or the other way round. Far and Near: the distance of the query from the entry.
abbrev pub reason_text : Option ℕ → ℕ → ℕ → Reach → Mark → List ℕ
reason_text above stored dist reach Skip = skip_text above stored reach
reason_text above stored dist reach Far = codes "far " ++ test_text (decimal dist) dist reach
reason_text above stored dist reach Near = codes "near " ++ test_text (decimal dist) dist reach

abbrev pub object_reach : Search → Reach
object_reach f = record { rho = f.rho; radius = None }

abbrev pub subtree_reach : Search → InnerEntry → Reach
subtree_reach f e = record { rho = f.rho; radius = Some e.radius }

-- the reason of an object's mark, and of a subtree's
abbrev pub object_reason : Search → Option ℕ → LeafEntry → Mark → List ℕ
object_reason f above e mark = reason_text above e.parent (away f e.point) (object_reach f) mark

abbrev pub subtree_reason : Search → Option ℕ → InnerEntry → Mark → List ℕ
subtree_reason f above e mark = reason_text above e.parent (away f e.point) (subtree_reach f e) mark
