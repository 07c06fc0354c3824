-- What grows from a sound tree is sound.
use Rattle.std.specs.Prelude.{ℕ, ◌≤◌, List, IsTrue}
use Rattle.std.specs.List.{AllByRecursion}
use Rattle.metric_laws.specs.Space.{Space, IsSpace}
use Rattle.tree_shape.specs.Plain.{Object, Tall}
use Rattle.tree_shape.specs.Sound.{ObjectFits, IsSoundTall}
use Rattle.tree_growth.specs.Insertion.{placed, HasEntries}
use Rattle.tree_growth.specs.Bulk.{built}

-- each inner node of a sound tree has an entry
abbrev pub SoundHasEntries : Type 0
SoundHasEntries = (s : Space) → s.dimension ≤ 64 → (t : Tall) → IsSoundTall s t → HasEntries t.height t.tree

-- an insertion keeps a tree sound
abbrev pub InsertionKeepsSound : Type 0
InsertionKeepsSound =
    (s : Space) → IsSpace s → (promote split : ℕ) (o : Object) → ObjectFits s o → (t : Tall) → IsSoundTall s t → IsSoundTall s (placed s promote split o t)

-- a bulk load of points that fit makes a sound tree
abbrev pub LoadIsSound : Type 0
LoadIsSound = (s : Space) → IsSpace s → (rows : List (List ℕ)) (tags : List ℕ) → AllByRecursion (λ p. IsTrue (s.is_point p)) rows →
    IsSoundTall s (built s rows tags)
