-- The lists of the groups' members.
use Rattle.std.specs.Prelude.{◌≡◌, ℕ, ◌<◌, List, [], ◌∷◌, length, map, slice_index, slice_index_or, Vec}
use Rattle.std.specs.declared.alloc.Global.{Global}
use Rattle.tree_growth.specs.declared.rules.Member.{Member}
use Rattle.tree_growth.specs.declared.rules.Group.{Group}
use Rattle.tree_growth.specs.Groups.{members_from}

-- the lists that vectors hold
abbrev pub lists_in : List (Vec ℕ Global) → List (List ℕ)
lists_in vs = map (λ v. v.items) vs

-- each list has the members of its group
pub record HaveMembers (set : List ℕ) (placed : List Member) (lists : List (List ℕ)) : Type 0 where
  pub each : (i : ℕ) → i < length lists → slice_index_or lists i [] ≡ members_from i set placed

-- the groups of seeds, which are places of the set, with a list of members for each
abbrev pub groups_with : List ℕ → List ℕ → List (List ℕ) → List Group
groups_with set [] lists = []
groups_with set (s ∷ seeds) [] = []
groups_with set (s ∷ seeds) (members ∷ lists) = record { seed = slice_index set s; members = members } ∷ groups_with set seeds lists
