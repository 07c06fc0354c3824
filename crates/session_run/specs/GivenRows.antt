-- The commands of rows that are given as numbers.
use Rattle.std.specs.Prelude.{ℕ, ◌==◌, Bool, List, [], ◌∷◌, length, Option, Some, None, slice_index, slice_index_or, if◌then◌else◌}
use Rattle.metric_laws.specs.Rows.{Table}
use Rattle.node_page.specs.Nodes.{firsts}
use Rattle.rows_text.specs.declared.command.Command.{Command}
use Rattle.rows_text.specs.declared.command.Command.TheVariants.{Bad, Insert, Load, TagInsert, TagLoad}
use Rattle.rows_text.specs.declared.refusal.Refusal.TheVariants.{Count as NoCount, Dimension}

-- the tags of rows, one for each, where they have tags
abbrev pub tags_if : Bool → List ℕ → Option (List ℕ)
tags_if tagged tags = if tagged then Some tags else None

-- one load of all rows
abbrev pub load : Option (List ℕ) → Table → Command
load None rows = Load rows
load (Some tags) rows = TagLoad tags rows

-- It is refused where there is no row, and where points have another number of coordinates.
abbrev pub load_of : Table → Option (List ℕ) → ℕ → List Command
load_of rows tags dimension =
    (if rows.dimension == dimension then (if length rows.points == 0 then Bad NoCount else load tags rows) else Bad Dimension) ∷ []

-- an insert of row i
abbrev pub insert : Option (List ℕ) → List (List ℕ) → ℕ → Command
insert None points i = Insert (slice_index_or points i [])
insert (Some tags) points i = TagInsert (slice_index tags i) (slice_index_or points i [])

abbrev pub insert_at : Table → Option (List ℕ) → ℕ → ℕ → Command
insert_at rows tags dimension i = if rows.dimension == dimension then insert tags rows.points i else Bad Dimension

-- one insert for each row, in order; each is refused where points have another number of coordinates
abbrev pub inserts_of : Table → Option (List ℕ) → ℕ → List Command
inserts_of rows tags dimension = firsts (insert_at rows tags dimension) (length rows.points)
