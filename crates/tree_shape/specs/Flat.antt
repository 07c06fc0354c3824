-- Entries as numbers of four bytes.
use Rattle.std.specs.Prelude.{ℕ, zero, suc, ◌+◌, ◌*◌, ◌^◌, List, [], ◌∷◌, ◌++◌, take, drop, slice_index}
use Rattle.tree_shape.specs.declared.entry.LeafEntry.{LeafEntry}
use Rattle.tree_shape.specs.declared.entry.InnerEntry.{InnerEntry}

-- the list of f 0, f 1 and so on, n in all
unfoldable pub firsts : {E : Type 0} → (ℕ → E) → ℕ → List E
firsts f zero = []
firsts f (suc n) = firsts f n ++ f n ∷ []

-- the place of the first number of entry i: an entry is 5 numbers and its coordinates
abbrev pub start_of : ℕ → ℕ → ℕ
start_of dim i = (5 + dim) * i

-- the number of eight bytes whose halves stand at a place and behind it
abbrev pub wide : List ℕ → ℕ → ℕ
wide numbers at = slice_index numbers at * 2 ^ 32 + slice_index numbers (at + 1)

-- the object whose numbers begin at a place
abbrev pub leaf_from : ℕ → List ℕ → ℕ → LeafEntry
leaf_from dim numbers at = record {
  id = slice_index numbers at;
  tag = wide numbers (at + 1);
  parent = wide numbers (at + 3);
  point = take dim (drop (at + 5) numbers);
}

-- the subtree whose numbers begin at a place
abbrev pub inner_from : ℕ → List ℕ → ℕ → InnerEntry
inner_from dim numbers at = record {
  child = slice_index numbers at;
  radius = wide numbers (at + 1);
  parent = wide numbers (at + 3);
  point = take dim (drop (at + 5) numbers);
}
