-- The script that makes a list of objects.
use Rattle.std.specs.Prelude.{ℕ, List, [], ◌∷◌, ◌++◌, length, codes, decimal, flat_map}
use Rattle.rows_text.specs.Texts.{line_end, counted, coordinates_text}

-- the line of an object: its tag and the coordinates of its point
abbrev pub row_line : ℕ × List ℕ → List ℕ
row_line row = decimal row.0 ++ coordinates_text row.1 ++ line_end

-- the script: one load of all objects with their tags; no command where there are none
abbrev pub script_text : List (ℕ × List ℕ) → List ℕ
script_text [] = []
script_text (row ∷ rows) = counted (codes "tload,") (length (row ∷ rows)) ++ flat_map row_line (row ∷ rows)
