-- A partition is fair.
use Rattle.std.proofs.Common.{◌≢◌, ℕ, ◌*◌, ◌<◌, ◌≤◌, List, arith}
use Rattle.tree_growth.specs.declared.rules.Side.{Side}
use Rattle.tree_growth.specs.declared.rules.Side.TheVariants.{First, Second, Open}
use Rattle.tree_growth.specs.Dealing.{Table, size, partitioned}
use Rattle.tree_growth.specs.Splits.{IsFairPartition}
use Rattle.tree_growth.proofs.Fair.{count_is_tally, IsFair, fair}

pub partition_is_fair : (t : Table) (a b split least : ℕ) → a < size t → b < size t → a ≢ b → 1 ≤ least → 2 * least ≤ size t →
    IsFairPartition (size t) a b least (partitioned t a b split least)
partition_is_fair t a b split least low_a low_b distinct some room =
    let sides : List Side = partitioned t a b split least in
    let f : IsFair (size t) a b least sides = fair t a b split least low_a low_b distinct some (omega arith) in
    let first = count_is_tally First sides in
    let second = count_is_tally Second sides in
    let none = count_is_tally Open sides in
    record {
      long = f.holds.long;
      first = f.holds.first;
      second = f.holds.second;
      none_open = (let z = f.none_open in omega arith);
      first_enough = (let e = f.first_enough in omega arith);
      second_enough = (let e = f.second_enough in omega arith);
    }
