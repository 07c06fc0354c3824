-- The points that the generator makes.
use Rattle.std.specs.Prelude.{ℕ, ◌+◌, ◌*◌, ◌%◌, List, map}
use Rattle.std.specs.List.{range_with_len}

-- coordinate `j` of row `i`, both counted from 0, with a seed
abbrev pub coordinate : ℕ → ℕ → ℕ → ℕ
coordinate seed i j = ((i + 1) * (2 * j + 3) * 40503 + seed * 7919) % 65536

-- row `i`, of `dim` coordinates
abbrev pub generated_row : ℕ → ℕ → ℕ → List ℕ
generated_row seed dim i = map (coordinate seed i) (range_with_len 0 dim)

-- the first `count` rows
abbrev pub generated_rows : ℕ → ℕ → ℕ → List (List ℕ)
generated_rows seed dim count = map (generated_row seed dim) (range_with_len 0 count)
