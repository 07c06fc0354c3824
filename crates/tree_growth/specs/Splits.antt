-- What the choice and the split give.
use Rattle.std.specs.Prelude.{◌≡◌, ◌≢◌, ℕ, ◌*◌, ◌<◌, ◌≤◌, List, length, map}
use Rattle.metric_laws.specs.Space.{Space}
use Rattle.tree_growth.specs.declared.rules.Side.{Side}
use Rattle.tree_growth.specs.declared.rules.Side.TheVariants.{First, Second, Open}
use Rattle.tree_growth.specs.Dealing.{Ball, Table, size, row, table_of, point_at, side_at, count_on, partitioned, promoted, IsPair}
use Rattle.tree_growth.specs.Insertion.{chosen}

-- the choice is a place of the list, where the list is not empty
abbrev pub ChosenIsPlace : Type 0
ChosenIsPlace = (s : Space) (bs : List Ball) (p : List ℕ) → 0 < length bs → chosen s bs p < length bs

-- a pair of places is promoted, where there are two places
abbrev pub PromotedIsPair : Type 0
PromotedIsPair = (t : Table) (promote split least : ℕ) → 2 ≤ size t → IsPair (size t) (promoted t promote split least)

-- a partition of n entries: each is in one of the two groups, each promoted entry is in its own group, and each group has its least
-- number of entries
pub record IsFairPartition (n a b least : ℕ) (sides : List Side) : Type 0 where
  pub long : length sides ≡ n
  pub first : side_at sides a ≡ First
  pub second : side_at sides b ≡ Second
  pub none_open : count_on Open sides ≡ 0
  pub first_enough : least ≤ count_on First sides
  pub second_enough : least ≤ count_on Second sides

abbrev pub PartitionIsFair : Type 0
PartitionIsFair =
    (t : Table) (a b split least : ℕ) → a < size t → b < size t → a ≢ b → 1 ≤ least → 2 * least ≤ size t →
    IsFairPartition (size t) a b least (partitioned t a b split least)

-- a row of a node's table has the distances to the point of one entry
abbrev pub RowHasDistances : Type 0
RowHasDistances = (s : Space) (bs : List Ball) (p : ℕ) → p < length bs → row (table_of s bs) p ≡ map (λ q. s.dist q.0 (point_at bs p)) bs
