-- What a walk costs.
use Rattle.std.specs.Prelude.{ℕ, suc, ◌+◌, List, [], ◌∷◌, length}
use Rattle.tree_shape.specs.declared.entry.Node.{Node}
use Rattle.tree_shape.specs.declared.entry.Node.TheVariants.{Leaf, Inner}
use Rattle.log_model.specs.declared.marks.Mark.{Mark}
use Rattle.log_model.specs.declared.marks.Mark.TheVariants.{Skip, Far, Near}
use Rattle.log_model.specs.declared.marks.Record.{Record}
use Rattle.log_model.specs.declared.marks.JoinRecord.{JoinRecord}

-- the distances that a node's marks cost: one for each entry that isn't skipped
abbrev pub measured_by : List Mark → ℕ
measured_by [] = 0
measured_by (Skip ∷ marks) = measured_by marks
measured_by (Far ∷ marks) = suc (measured_by marks)
measured_by (Near ∷ marks) = suc (measured_by marks)

abbrev pub measured : List Record → ℕ
measured [] = 0
measured (r ∷ rs) = measured_by r.marks + measured rs

-- an upper bound of the distances that a join's marks cost: none is computed beside a root
abbrev pub join_measured : List JoinRecord → ℕ
join_measured [] = 0
join_measured (r ∷ rs) = measured_by r.marks + join_measured rs

-- the number of a node's entries
abbrev pub entry_count : Node → ℕ
entry_count (Leaf es) = length es
entry_count (Inner level es) = length es
