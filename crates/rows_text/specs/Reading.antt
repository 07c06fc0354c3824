-- A script that is being read: what the records that follow make of it.
use Rattle.std.specs.Prelude.{◌≡◌, ℕ, ◌+◌, Bool, true, false, List, [], ◌∷◌, ◌++◌, length, map, take, nat_lt, MatchBool, Option, Some, None, if◌then◌else◌}
use Rattle.metric_laws.specs.Rows.{Table}
use Rattle.rows_text.specs.declared.command.Command.{Command}
use Rattle.rows_text.specs.declared.command.Command.TheVariants as command
use Rattle.rows_text.specs.declared.refusal.Refusal.TheVariants as refusal
use Rattle.rows_text.specs.declared.load.OpenLoad.{OpenLoad}
use Rattle.rows_text.specs.declared.state.Reading.{Reading}
use Rattle.rows_text.specs.declared.state.Start.{Start}
use Rattle.rows_text.specs.declared.state.Start.TheVariants as start
use Rattle.rows_text.specs.Records.{Fields}
use Rattle.rows_text.specs.Script.{commands_after, load_of, load_points, load_tagged, load_uses, row_of, rows_from, tag_row_of}

-- what is made of rows, or the refusal of a row that came before them
abbrev pub unless_bad : Option ℕ → Command → Command
unless_bad None whole = whole
unless_bad (Some i) whole = command.Bad (refusal.Row i)

-- what is made of the `left` remaining rows of a load, where the records `after` follow; the first has the number i
abbrev pub goes_on : {R : Type 0} → (Fields → Option R) → (List R → Command) → Option ℕ → ℕ → ℕ → List Fields → Command
goes_on row make bad i left after =
    if nat_lt (length after) left then command.Bad refusal.Short else unless_bad bad (rows_from row make i (take left after))

-- an open load, with `more` rows
abbrev pub with_points : OpenLoad → List (List ℕ) → Command
with_points load more = command.Load (record load.rows { points = load.rows.points ++ more })

abbrev pub with_tagged : OpenLoad → List (ℕ × List ℕ) → Command
with_tagged load more =
    command.TagLoad (load.tags.items ++ map (λ row. row.0) more) (record load.rows { points = load.rows.points ++ map (λ row. row.1) more })

-- the command of an open load, where the records `after` follow
abbrev pub load_end : OpenLoad → List Fields → Command
load_end load after =
    if load.tagged then goes_on (tag_row_of load.dimension) (with_tagged load) load.bad (length load.rows.points) load.left after
    else goes_on (row_of load.dimension) (with_points load) load.bad (length load.rows.points) load.left after

-- a load of n rows with none read yet
pub record IsNewLoad (dimension : ℕ) (tagged : Bool) (n : ℕ) (load : OpenLoad) : Type 0 where
  pub dimension_is : load.dimension ≡ dimension
  pub tagged_is : load.tagged ≡ tagged
  pub left : load.left ≡ n
  pub bad : load.bad ≡ None
  pub tags : load.tags.items ≡ []
  pub rows : load.rows ≡ record { dimension = dimension; points = [] }

-- what reading a row leaves as it was
pub record IsSameLoad (old new : OpenLoad) : Type 0 where
  pub dimension : new.dimension ≡ old.dimension
  pub tagged : new.tagged ≡ old.tagged
  pub left : new.left ≡ old.left
  pub bad : new.bad ≡ old.bad

-- a table with one point more
abbrev pub one_more : Table → List ℕ → Table
one_more rows p = record rows { points = rows.points ++ p ∷ [] }

-- the load holds the point, if there is one, besides the tags and the table
abbrev pub AddsPoint : Option (List ℕ) → List ℕ → Table → OpenLoad → Bool → Type 0
AddsPoint None tags rows new found = (found ≡ false) × (new.tags.items ≡ tags) × (new.rows ≡ rows)
AddsPoint (Some p) tags rows new found = (found ≡ true) × (new.tags.items ≡ tags) × (new.rows ≡ one_more rows p)

-- the load holds the tag and the point, if there are both, besides the tags and the table
abbrev pub AddsTagged : Option (ℕ × List ℕ) → List ℕ → Table → OpenLoad → Bool → Type 0
AddsTagged None tags rows new found = (found ≡ false) × (new.tags.items ≡ tags) × (new.rows ≡ rows)
AddsTagged (Some row) tags rows new found = (found ≡ true) × (new.tags.items ≡ tags ++ row.0 ∷ []) × (new.rows ≡ one_more rows row.1)

-- the row of a record is held, if it is one
abbrev pub AddsRow : OpenLoad → OpenLoad → Fields → Bool → Type 0
AddsRow old new fields found =
    MatchBool old.tagged (AddsTagged (tag_row_of old.dimension fields) old.tags.items old.rows new found)
    (AddsPoint (row_of old.dimension fields) old.tags.items old.rows new found)

-- one record of a load more is read
pub record TakesRecord (old new : OpenLoad) (fields : Fields) : Type 0 where
  pub left : new.left + 1 ≡ old.left
  pub end : (after : List Fields) → load_end new after ≡ load_end old (fields ∷ after)

-- the commands of a load's record, whose name is left out, and of the records that follow
abbrev pub load_records : ℕ → Bool → Fields → List Fields → List Command
load_records dimension tagged fields after =
    (if tagged then load_of (tag_row_of dimension) (load_tagged dimension) after fields else load_of (row_of dimension) (load_points dimension) after fields)
    ∷ commands_after dimension (load_uses fields) after

-- the commands of an open load and of the records that follow
abbrev pub load_and_after : ℕ → OpenLoad → List Fields → List Command
load_and_after dimension load after = load_end load after ∷ commands_after dimension load.left after

-- the commands of what a record starts and of the records that follow
abbrev pub started : ℕ → Start → List Fields → List Command
started dimension (start.Single c) after = c ∷ commands_after dimension 0 after
started dimension (start.Load load) after = load_and_after dimension load after

abbrev pub load_or_after : ℕ → Option OpenLoad → List Fields → List Command
load_or_after dimension None after = commands_after dimension 0 after
load_or_after dimension (Some load) after = load_and_after dimension load after

-- the commands of what is read so far and of the records that follow
abbrev pub commands_with : Reading → List Fields → List Command
commands_with reading after = reading.commands.items ++ load_or_after reading.dimension reading.load after

-- one record more is read
abbrev pub Reads : Reading → Reading → Fields → Type 0
Reads old new fields = (new.dimension ≡ old.dimension) × ((after : List Fields) → commands_with new after ≡ commands_with old (fields ∷ after))

-- one record of a load more is read
abbrev pub GoesOn : OpenLoad → Reading → Reading → Fields → Type 0
GoesOn load old new fields =
    (new.dimension ≡ old.dimension)
    × ((after : List Fields) → commands_with new after ≡ old.commands.items ++ load_and_after old.dimension load (fields ∷ after))

-- nothing is read
pub record IsNewReading (dimension : ℕ) (reading : Reading) : Type 0 where
  pub dimension_is : reading.dimension ≡ dimension
  pub commands : reading.commands.items ≡ []
  pub load : reading.load ≡ None
