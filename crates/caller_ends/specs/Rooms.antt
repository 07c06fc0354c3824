-- What is put into a caller's buffers.
use Rattle.std.specs.Prelude.{◌≡◌, List, ◌++◌, length, drop}

-- the items stand at the front of the buffer, and after them what stood there
abbrev pub StandAtFront : {A : Type 0} → List A → List A → List A → Type 0
StandAtFront items before after = after ≡ items ++ drop (length items) before
