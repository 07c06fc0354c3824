-- Worked walks by child numbers.
use Rattle.std.specs.Prelude.{ℕ, ◌==◌, true, false, List, [], ◌∷◌, Some, refl, if◌then◌else◌, ◌≡◌}
use Rattle.tree_shape.specs.declared.entry.InnerEntry.{InnerEntry}
use Rattle.tree_shape.specs.declared.entry.Node.TheVariants.{Leaf, Inner}
use Rattle.tree_shape.specs.Tree.{Nodes}
use Rattle.log_model.specs.declared.marks.JoinRecord.{JoinRecord}
use Rattle.log_model.specs.declared.marks.Mark.TheVariants.{Far, Near}
use Rattle.log_model.specs.Counts.{join_measured}
use Rattle.page_store.specs.Tours.{Tours, Names}
use Rattle.metric_join.specs.Joined.{opened_on}

abbrev child_on : ℕ → InnerEntry
child_on page = record { child = page; radius = 0; parent = 0; point = 0 ∷ [] }

-- two leaves below a root
abbrev two_leaves : Nodes
two_leaves page = if page == 5 then Some (Inner 1 (child_on 3 ∷ child_on 4 ∷ [])) else Some (Leaf [])

pub root_then_leaves : Tours two_leaves (5 ∷ []) (5 ∷ 3 ∷ 4 ∷ []) []
root_then_leaves = (Inner 1 (child_on 3 ∷ child_on 4 ∷ []), refl, refl, (Leaf [], refl, refl, (Leaf [], refl, refl, refl)))

-- a root that names one leaf twice
abbrev one_leaf_twice : Nodes
one_leaf_twice page = if page == 5 then Some (Inner 1 (child_on 4 ∷ child_on 4 ∷ [])) else Some (Leaf [])

pub named_again : Names one_leaf_twice 5 2 4
named_again = record {
  before = 5 ∷ 4 ∷ [];
  rest = [];
  walk = (Inner 1 (child_on 4 ∷ child_on 4 ∷ []), refl, refl, (Leaf [], refl, refl, refl));
  count = refl;
}

-- the records of the join of 0, 5 and 9 with 4 and 9 within 1
abbrev three_by_two : List JoinRecord
three_by_two =
    record { right = false; page = 3; marks = Near ∷ Near ∷ Near ∷ [] }
    ∷ record { right = true; page = 3; marks = Far ∷ Far ∷ [] }
    ∷ record { right = true; page = 3; marks = Near ∷ Far ∷ [] }
    ∷ record { right = true; page = 3; marks = Far ∷ Near ∷ [] } ∷ []

pub one_left : opened_on false three_by_two ≡ 1
one_left = refl

pub three_right : opened_on true three_by_two ≡ 3
three_right = refl

pub nine_marks : join_measured three_by_two ≡ 9
nine_marks = refl
