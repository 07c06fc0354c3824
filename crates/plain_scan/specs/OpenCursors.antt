-- The open cursors of a session as the meaning of commands sees them.
use Rattle.std.specs.Prelude.{ℕ, ◌+◌, List, [], ◌∷◌, ◌++◌}
use Rattle.scan_model.specs.declared.hit.Hit.{Hit}
use Rattle.rows_text.specs.Meaning.{Cursor, Holdings, State}

-- the open cursors, and the number of the next
pub record OpenCursors : Type 0 where
  pub cursors : List Cursor
  pub next : ℕ

-- one more cursor, which has all the hits still to give
abbrev pub opened : OpenCursors → List Hit → List ℕ → OpenCursors
opened before hits tags = record {
  cursors = before.cursors ++ record { number = before.next; hits = hits; tags = tags } ∷ [];
  next = before.next + 1;
}

-- the state with the given objects and cursors
abbrev pub with_cursors : Holdings → OpenCursors → State
with_cursors objects those = record { objects = objects; cursors = those.cursors; next = those.next }
