-- Worked logs.
use Rattle.std.specs.Prelude.{◌≡◌, ℕ, ◌==◌, ◌+◌, true, false, List, [], ◌∷◌, length, Some, None, refl, if◌then◌else◌}
use Rattle.metric_laws.specs.Space.{Space, bound}
use Rattle.metric_laws.specs.Pruning.{gap}
use Rattle.scan_model.specs.declared.hit.Hit.{Hit}
use Rattle.scan_model.specs.declared.query.Query.TheVariants.{Range, Nearest}
use Rattle.tree_shape.specs.declared.entry.LeafEntry.{LeafEntry}
use Rattle.tree_shape.specs.declared.entry.Node.TheVariants.{Leaf, Inner}
use Rattle.tree_shape.specs.declared.live.Live.{Live}
use Rattle.tree_shape.specs.Tree.{Nodes}
use Rattle.log_model.specs.declared.marks.Mark.TheVariants.{Skip, Far, Near}
use Rattle.log_model.specs.declared.logs.Log.{Log}
use Rattle.log_model.specs.declared.logs.JoinLog.{JoinLog}
use Rattle.log_model.specs.InOrder.{in_order, hit_before}
use Rattle.log_model.specs.Sound.{IsSoundLog, IsLeastLog, pruning_radius}
use Rattle.log_model.specs.SoundJoin.{IsLeastJoinLog}

abbrev total : List ℕ → List ℕ → ℕ
total [] b = 0
total (x ∷ a) [] = 0
total (x ∷ a) (y ∷ b) = gap x y + total a b

-- the numbers, each a point of one coordinate
abbrev line : Space
line = record { dimension = 1; is_point = λ p. length p == 1; dist = total }

abbrev object : ℕ → ℕ → ℕ → LeafEntry
object id x parent = record { id = id; tag = 0; parent = parent; point = x ∷ [] }

abbrev hit : ℕ → ℕ → Hit
hit id dist = record { id = id; dist = dist }

-- the numbers 0 to 3 and 20 to 22 in two leaves below a root
abbrev two_leaves : Nodes
two_leaves page =
    if page == 3 then Some (Leaf (object 0 0 1 ∷ object 1 1 0 ∷ object 2 2 1 ∷ object 3 3 2 ∷ []))
    else (if page == 4 then Some (Leaf (object 4 20 1 ∷ object 5 21 0 ∷ object 6 22 1 ∷ []))
    else (if page == 5 then Some (Inner 1 (record { child = 3; radius = 2; parent = 0; point = 1 ∷ [] } ∷ record { child = 4; radius = 1; parent = 0; point = 21 ∷ [] } ∷ []))
    else None))

abbrev live : Live
live = record { side = 0; generation = 7; root = 5; height = 1; count = 7; pages = 6 }

-- what lies within 1 of 0: the right leaf isn't opened
abbrev near_zero : Log
near_zero = record {
  generation = 7;
  root = 5;
  query = Range (0 ∷ []) 1;
  answers = hit 0 0 ∷ hit 1 1 ∷ [];
  records =
      record { page = 5; marks = Near ∷ Far ∷ [] }
      ∷ record { page = 3; marks = Near ∷ Near ∷ Far ∷ Far ∷ [] } ∷ [];
}

pub near_zero_is_least : IsLeastLog line two_leaves live (Range (0 ∷ []) 1) near_zero
near_zero_is_least = (
  refl,
  record {
    generation_is = refl;
    root_is = refl;
    point_fits = refl;
    hits = hit 0 0 ∷ hit 1 1 ∷ [];
    walk = (_, refl, refl, refl, (_, (_, refl, refl, refl, ([], refl, refl)), refl));
    answers_are = refl;
  },
)

-- a wider log of the same query is sound: it opens both leaves
abbrev both_leaves : Log
both_leaves = record {
  generation = 7;
  root = 5;
  query = Range (0 ∷ []) 1;
  answers = hit 0 0 ∷ hit 1 1 ∷ [];
  records =
      record { page = 5; marks = Near ∷ Near ∷ [] }
      ∷ record { page = 3; marks = Near ∷ Near ∷ Far ∷ Far ∷ [] }
      ∷ record { page = 4; marks = Skip ∷ Skip ∷ Far ∷ [] } ∷ [];
}

pub both_leaves_is_sound : IsSoundLog line two_leaves live both_leaves
both_leaves_is_sound = record {
  generation_is = refl;
  root_is = refl;
  point_fits = refl;
  hits = hit 0 0 ∷ hit 1 1 ∷ [];
  walk = (
    _,
    refl,
    refl,
    (refl, (refl, tt)),
    (_, (_, refl, refl, (refl, (refl, (refl, (refl, tt)))), (_, (_, refl, refl, (refl, (refl, (refl, tt))), ([], refl, refl)), refl)), refl),
  );
  answers_are = refl;
}

-- the two nearest to 21: they prune by the distance of the second, and equal distances go by the id
abbrev near_last : Log
near_last = record {
  generation = 7;
  root = 5;
  query = Nearest (21 ∷ []) 2;
  answers = hit 5 0 ∷ hit 4 1 ∷ [];
  records =
      record { page = 5; marks = Far ∷ Near ∷ [] }
      ∷ record { page = 4; marks = Near ∷ Near ∷ Near ∷ [] } ∷ [];
}

pub near_last_is_least : IsLeastLog line two_leaves live (Nearest (21 ∷ []) 2) near_last
near_last_is_least = (
  refl,
  record {
    generation_is = refl;
    root_is = refl;
    point_fits = refl;
    hits = hit 4 1 ∷ hit 5 0 ∷ hit 6 1 ∷ [];
    walk = (_, refl, refl, refl, (_, (_, refl, refl, refl, ([], refl, refl)), refl));
    answers_are = refl;
  },
)

-- the radius that prunes, where fewer than k are named and where the last is beyond the bound
pub radii :
    (pruning_radius (Nearest (0 ∷ []) 3) (hit 0 4 ∷ []) ≡ bound)
    × (pruning_radius (Nearest (0 ∷ []) 1) (hit 0 4 ∷ []) ≡ 4)
    × (pruning_radius (Nearest (0 ∷ []) 1) (hit 0 (bound + 1) ∷ []) ≡ bound)
    × (pruning_radius (Range (0 ∷ []) (bound + 1)) [] ≡ bound)
radii = (refl, refl, refl, refl)

-- an equal hit is named once
pub once : in_order hit_before (hit 3 1 ∷ hit 2 1 ∷ hit 3 1 ∷ hit 0 5 ∷ hit 1 0 ∷ []) ≡ hit 1 0 ∷ hit 2 1 ∷ hit 3 1 ∷ hit 0 5 ∷ []
once = refl

-- a join of 0, 5 and 9 with 4 and 9 within 1
abbrev left_leaf : Nodes
left_leaf page = if page == 3 then Some (Leaf (object 0 0 0 ∷ object 1 5 0 ∷ object 2 9 0 ∷ [])) else None

abbrev right_leaf : Nodes
right_leaf page = if page == 3 then Some (Leaf (object 0 4 0 ∷ object 1 9 0 ∷ [])) else None

abbrev leaf_of : ℕ → Live
leaf_of count = record { side = 0; generation = 2; root = 3; height = 0; count = count; pages = 4 }

abbrev three_by_two : JoinLog
three_by_two = record {
  left = (2, 3);
  right = (2, 3);
  r = 1;
  answers = record { left = 1; right = 0; dist = 1 } ∷ record { left = 2; right = 1; dist = 0 } ∷ [];
  records =
      record { right = false; page = 3; marks = Near ∷ Near ∷ Near ∷ [] }
      ∷ record { right = true; page = 3; marks = Far ∷ Far ∷ [] }
      ∷ record { right = true; page = 3; marks = Near ∷ Far ∷ [] }
      ∷ record { right = true; page = 3; marks = Far ∷ Near ∷ [] } ∷ [];
}

pub three_by_two_is_least : IsLeastJoinLog line left_leaf right_leaf (leaf_of 3) (leaf_of 2) 1 three_by_two
three_by_two_is_least = (
  refl,
  record {
    left_generation_is = refl;
    left_root_is = refl;
    right_generation_is = refl;
    right_root_is = refl;
    hits = record { left = 1; right = 0; dist = 1 } ∷ record { left = 2; right = 1; dist = 0 } ∷ [];
    walk = (
      _,
      refl,
      refl,
      refl,
      refl,
      (_, (_, refl, refl, refl, refl, (_, (_, refl, refl, refl, refl, (_, (_, refl, refl, refl, refl, ([], refl, refl)), refl)), refl)), refl),
    );
    answers_are = refl;
  },
)
