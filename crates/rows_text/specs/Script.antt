-- The commands of a script.
use Rattle.std.specs.Prelude.{ℕ, zero, suc, ◌==◌, ◌^◌, List, [], ◌∷◌, length, map, take, nat_lt, ◌||◌, codes, filter_map, Option, Some, None, if◌then◌else◌}
use Rattle.std.specs.List.{position_from}
use Rattle.std.specs.Option.{is_none, option_and_then, option_map}
use Rattle.std.specs.Str.{bytes_eq}
use Rattle.rows_text.specs.declared.command.Command.{Command}
use Rattle.rows_text.specs.declared.command.Command.TheVariants as command
use Rattle.rows_text.specs.declared.refusal.Refusal.TheVariants as refusal
use Rattle.rows_text.specs.Numbers.{number_below, coordinates}
use Rattle.rows_text.specs.Records.{Fields, script_records}

-- what a command makes of the number or the point that its fields spell
abbrev pub with_number : {X : Type 0} → (X → Command) → Option X → Command
with_number make None = command.Bad refusal.Number
with_number make (Some x) = make x

-- `insert,c1,..,cd`
abbrev pub insert_of : ℕ → Fields → Command
insert_of dimension fields =
    if length fields == dimension then with_number (λ p. command.Insert p) (coordinates fields) else command.Bad refusal.Dimension

-- `range,r,c1,..,cd`
abbrev pub range_of : ℕ → Fields → Command
range_of dimension [] = command.Bad refusal.Dimension
range_of dimension (radius ∷ fields) =
    if length fields == dimension
    then with_number (λ r. with_number (λ q. command.Range r q) (coordinates fields)) (number_below (2 ^ 64) radius)
    else command.Bad refusal.Dimension

-- `nearest,k,c1,..,cd`
abbrev pub nearest_from : ℕ → List ℕ → Command
nearest_from k q = if k == 0 then command.Bad refusal.Count else command.Nearest k q

abbrev pub nearest_of : ℕ → Fields → Command
nearest_of dimension [] = command.Bad refusal.Dimension
nearest_of dimension (number ∷ fields) =
    if length fields == dimension
    then with_number (λ k. with_number (nearest_from k) (coordinates fields)) (number_below (2 ^ 64) number)
    else command.Bad refusal.Dimension

-- `tinsert,t,c1,..,cd`
abbrev pub tag_insert_of : ℕ → Fields → Command
tag_insert_of dimension [] = command.Bad refusal.Dimension
tag_insert_of dimension (tag ∷ fields) =
    if length fields == dimension
    then with_number (λ t. with_number (λ p. command.TagInsert t p) (coordinates fields)) (number_below (2 ^ 64) tag)
    else command.Bad refusal.Dimension

-- `cursor,c1,..,cd`
abbrev pub cursor_of : ℕ → Fields → Command
cursor_of dimension fields =
    if length fields == dimension then with_number (λ q. command.Cursor q) (coordinates fields) else command.Bad refusal.Dimension

-- `next,K,n`
abbrev pub next_from : ℕ → ℕ → Command
next_from cursor n = if n == 0 then command.Bad refusal.Count else command.Next cursor n

abbrev pub next_of : Fields → Command
next_of (cursor ∷ number ∷ []) =
    with_number (λ k. with_number (next_from k) (number_below (2 ^ 64) number)) (number_below (2 ^ 32) cursor)
next_of other = command.Bad refusal.Command

-- `close,K`
abbrev pub close_of : Fields → Command
close_of (cursor ∷ []) = with_number (λ k. command.Close k) (number_below (2 ^ 32) cursor)
close_of other = command.Bad refusal.Command

-- `count`
abbrev pub count_of : Fields → Command
count_of [] = command.Count
count_of (field ∷ fields) = command.Bad refusal.Command

-- one row of a load: a point
abbrev pub row_of : ℕ → Fields → Option (List ℕ)
row_of dimension fields = if length fields == dimension then coordinates fields else None

-- one row of a tload: a tag and a point
abbrev pub tag_row_of : ℕ → Fields → Option (ℕ × List ℕ)
tag_row_of dimension [] = None
tag_row_of dimension (tag ∷ fields) = option_and_then (λ t. option_map (λ p. (t, p)) (row_of dimension fields)) (number_below (2 ^ 64) tag)

-- a command, or the refusal of a row
abbrev pub or_row : Command → Option ℕ → Command
or_row whole None = whole
or_row whole (Some i) = command.Bad (refusal.Row i)

-- what is made of rows, where the first has the number i
abbrev pub rows_from : {R : Type 0} → (Fields → Option R) → (List R → Command) → ℕ → List Fields → Command
rows_from row make i rows = or_row (make (filter_map row rows)) (position_from (λ fields. is_none (row fields)) i rows)

-- what is made of n rows, where the records `after` follow
abbrev pub load_from : {R : Type 0} → (Fields → Option R) → (List R → Command) → ℕ → List Fields → Command
load_from row make n after = if nat_lt (length after) n then command.Bad refusal.Short else rows_from row make 0 (take n after)

-- `load,n` or `tload,n`, where the records `after` follow
abbrev pub load_of : {R : Type 0} → (Fields → Option R) → (List R → Command) → List Fields → Fields → Command
load_of row make after (number ∷ []) =
    with_number (λ n. if n == 0 then command.Bad refusal.Count else load_from row make n after) (number_below (2 ^ 64) number)
load_of row make after other = command.Bad refusal.Command

-- a load of points
abbrev pub load_points : ℕ → List (List ℕ) → Command
load_points dimension points = command.Load (record { dimension = dimension; points = points })

-- a load of tags and points
abbrev pub load_tagged : ℕ → List (ℕ × List ℕ) → Command
load_tagged dimension rows = command.TagLoad (map (λ row. row.0) rows) (record { dimension = dimension; points = map (λ row. row.1) rows })

-- the command of a single record: all but the loads
abbrev pub single_of : ℕ → Fields → Command
single_of dimension [] = command.Bad refusal.Command
single_of dimension (name ∷ fields) =
    if bytes_eq name (codes "insert") then insert_of dimension fields
    else if bytes_eq name (codes "range") then range_of dimension fields
    else if bytes_eq name (codes "nearest") then nearest_of dimension fields
    else if bytes_eq name (codes "tinsert") then tag_insert_of dimension fields
    else if bytes_eq name (codes "cursor") then cursor_of dimension fields
    else if bytes_eq name (codes "next") then next_of fields
    else if bytes_eq name (codes "close") then close_of fields
    else if bytes_eq name (codes "count") then count_of fields
    else command.Bad refusal.Command

-- the command of a record, where the records `after` follow
abbrev pub command_of : ℕ → Fields → List Fields → Command
command_of dimension [] after = single_of dimension []
command_of dimension (name ∷ fields) after =
    if bytes_eq name (codes "load") then load_of (row_of dimension) (load_points dimension) after fields
    else if bytes_eq name (codes "tload") then load_of (tag_row_of dimension) (load_tagged dimension) after fields
    else single_of dimension (name ∷ fields)

-- how many of the following records a load uses: as many as it announces, and none where it is refused before
abbrev pub announced : Option ℕ → ℕ
announced None = 0
announced (Some n) = n

abbrev pub load_uses : Fields → ℕ
load_uses (number ∷ []) = announced (number_below (2 ^ 64) number)
load_uses other = 0

-- how many of the following records a record uses, if they are there
abbrev pub rows_used : Fields → ℕ
rows_used [] = 0
rows_used (name ∷ fields) = if bytes_eq name (codes "load") || bytes_eq name (codes "tload") then load_uses fields else 0

-- the commands of records, after the first `used` of them
abbrev pub commands_after : ℕ → ℕ → List Fields → List Command
commands_after dimension used [] = []
commands_after dimension (suc used) (fields ∷ after) = commands_after dimension used after
commands_after dimension zero (fields ∷ after) = command_of dimension fields after ∷ commands_after dimension (rows_used fields) after

-- the commands of a script
abbrev pub script : ℕ → List ℕ → List Command
script dimension bytes = commands_after dimension 0 (script_records bytes)
