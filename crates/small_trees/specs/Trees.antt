-- Small trees as the bytes of their pages.
use Rattle.std.specs.Prelude.{ℕ, ◌+◌, ◌*◌, ◌-◌, List, [], ◌∷◌, ◌++◌, length, map, replicate}
use Rattle.std.specs.List.{flat_map, range_with_len}
use Rattle.std.specs.Int.{w32, w64, to_be_bytes, abs_diff}
use Rattle.small_trees.specs.declared.entry.Entry.{Entry}

-- the bytes with zeros appended up to the length `end`
abbrev pub padded : ℕ → List ℕ → List ℕ
padded end bytes = bytes ++ replicate (end - length bytes) 0

-- an entry, its numbers big-endian
abbrev pub entry_bytes : Entry → List ℕ
entry_bytes e = to_be_bytes w32 e.id ++ (to_be_bytes w64 e.tag ++ (to_be_bytes w64 e.parent ++ to_be_bytes w32 e.point))

-- a node's level and the number of its entries
abbrev pub first_bytes : ℕ → ℕ → List ℕ
first_bytes level count = level ∷ 0 ∷ 0 ∷ count ∷ replicate 12 0

unfoldable pub node_bytes : ℕ → List Entry → List ℕ
node_bytes level entries = first_bytes level (length entries) ++ flat_map entry_bytes entries

-- the object `i`: its id and its coordinate are `i`; it is below a routing object at `centre`
abbrev pub object_at : ℕ → ℕ → Entry
object_at centre i = record { id = i; tag = i + 100; parent = abs_diff i centre; point = i }

-- `count` objects, from the number `from` on
unfoldable pub numbers : ℕ → ℕ → ℕ → List Entry
numbers from count centre = map (object_at centre) (range_with_len from count)

-- an entry for a child page; the objects below it lie within 8 of the routing object
abbrev pub child : ℕ → ℕ → Entry
child page point = record { id = page; tag = 8; parent = 0; point = point }

-- a page's bytes after those of the pages before it
abbrev pub on_page : ℕ → List ℕ → List ℕ → List ℕ
on_page page node bytes = padded (page * 4096) bytes ++ node

-- The given objects in one leaf on page 3, which is the root.
abbrev pub one_leaf : List Entry → List ℕ → List ℕ
one_leaf objects bytes = padded (4 * 4096) (on_page 3 (node_bytes 0 objects) bytes)

-- The numbers 0 to 32 in two leaves, on pages 3 and 4, and the root on page 5, whose second child is page `second`.
abbrev pub three_nodes : ℕ → List ℕ → List ℕ
three_nodes second bytes =
    on_page 5 (node_bytes 1 (child 3 7 ∷ child second 24 ∷ [])) (on_page 4 (node_bytes 0 (numbers 16 17 24)) (on_page 3 (node_bytes 0 (numbers 0 16 7)) bytes))

abbrev pub two_leaves : ℕ → List ℕ → List ℕ
two_leaves second bytes = padded (6 * 4096) (three_nodes second bytes)

-- A root on page 3 with six entries for page `page`, and a leaf on page 4 with six objects.
abbrev pub two_nodes : ℕ → List ℕ → List ℕ
two_nodes page bytes = on_page 4 (node_bytes 0 (numbers 0 6 0)) (on_page 3 (node_bytes 1 (replicate 6 (record { id = page; tag = 0; parent = 0; point = 0 }))) bytes)

abbrev pub six_entries : ℕ → List ℕ → List ℕ
six_entries page bytes = padded (5 * 4096) (two_nodes page bytes)
