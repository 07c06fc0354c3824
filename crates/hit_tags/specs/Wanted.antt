-- The ids whose tags are wanted, and the tags that were met.
use Rattle.std.specs.Prelude.{◌≡◌, ℕ, List, [], ◌∷◌, ◌++◌, Option, Some, None, if◌then◌else◌, ◌==◌}
use Rattle.std.specs.Ordering.{nat_cmp}
use Rattle.std.specs.Map.{lookup}
use Rattle.std.specs.BTreeMap.{is_at}
use Rattle.tree_shape.specs.declared.entry.LeafEntry.{LeafEntry}
use Rattle.log_model.specs.declared.tagged.TaggedHit.{TaggedHit}

-- the wanted ids, each with the tag of its object once one was met
abbrev pub Tagging : Type 0
Tagging = List (ℕ × Option ℕ)

-- what is stored for a wanted id
abbrev pub held : Tagging → ℕ → Option (Option ℕ)
held tagging id = lookup (is_at (nat_cmp id)) tagging

-- the stored tag, or 0
abbrev pub tag_held : Option (Option ℕ) → ℕ
tag_held (Some (Some tag)) = tag
tag_held (Some None) = 0
tag_held None = 0

-- the id and the tag of an object, and of a hit
abbrev pub leaf_tag : LeafEntry → ℕ × ℕ
leaf_tag e = (e.id, e.tag)

abbrev pub hit_tag : TaggedHit → ℕ × ℕ
hit_tag t = (t.hit.id, t.tag)

-- the first tag with the id
abbrev pub first_tag : ℕ → List (ℕ × ℕ) → Option ℕ
first_tag id [] = None
first_tag id (t ∷ ts) = if t.0 == id then Some t.1 else first_tag id ts

-- takes in more ids with their tags: where the entry of an id was the first tag among some, it is now the first tag among these and the
-- further ones
abbrev pub TakesIn : Tagging → List (ℕ × ℕ) → Tagging → Type 0
TakesIn old more new = (id : ℕ) (ts : List (ℕ × ℕ)) → held old id ≡ Some (first_tag id ts) → held new id ≡ Some (first_tag id (ts ++ more))
