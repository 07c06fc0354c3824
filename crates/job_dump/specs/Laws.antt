-- What the script of a file's objects makes.
use Rattle.std.specs.Prelude.{◌≡◌, ℕ, ◌<◌, ◌≤◌, ◌^◌, List, [], ◌∷◌, length, slice_index}
use Rattle.std.specs.List.{AllByRecursion}
use Rattle.tree_shape.specs.declared.live.Live.{Live}
use Rattle.node_page.specs.declared.head.Head.{Head}
use Rattle.page_store.specs.Files.{nodes_in, points_in, tags_in}
use Rattle.rows_text.specs.Meaning.{Holdings, Setting, after, nothing_yet}
use Rattle.rows_text.specs.Script.{load_tagged, script}
use Rattle.job_files.specs.Shapes.{IsSound}
use Rattle.job_files.specs.Spaces.{space_of}
use Rattle.job_dump.specs.Rows.{HasRows}
use Rattle.job_dump.specs.Scripts.{script_text}

-- a tag and a point of `dimension` coordinates, as a file holds them
pub record IsRow (dimension : ℕ) (row : ℕ × List ℕ) : Type 0 where
  pub tag : row.0 < 2 ^ 64
  pub long : length row.1 ≡ dimension
  pub small : AllByRecursion (λ x. x < 2 ^ 32) row.1

-- a script of objects is read as one load of them
abbrev pub ScriptsReadBack : Type 0
ScriptsReadBack =
    (dimension : ℕ) (row : ℕ × List ℕ) (rows : List (ℕ × List ℕ)) → 1 ≤ dimension → length (row ∷ rows) < 2 ^ 64 →
    AllByRecursion (IsRow dimension) (row ∷ rows) → script dimension (script_text (row ∷ rows)) ≡ load_tagged dimension (row ∷ rows) ∷ []

-- the space and the limit of a head
abbrev pub setting_of : Head → Setting
setting_of head = record { space = space_of head; limit = head.limit }

-- the objects of a file, in order of id
abbrev pub objects_of : Head → Live → List ℕ → Holdings
objects_of head live file = record { points = points_in head.dim live file; tags = tags_in head.dim live file }

-- numbers that are bytes
abbrev pub AreBytes : List ℕ → Type 0
AreBytes bytes = (k : ℕ) → slice_index bytes k < 256

-- the script of a sound file's objects, run on an empty index of the same head, makes the file's list
abbrev pub DumpsMakeAgain : Type 0
DumpsMakeAgain =
    (head : Head) (live : Live) (file : List ℕ) (rows : List (ℕ × List ℕ)) → AreBytes file → IsSound head live file →
    HasRows (nodes_in head.dim live file) live rows →
    (after (setting_of head) nothing_yet (script head.dim (script_text rows))).objects ≡ objects_of head live file
