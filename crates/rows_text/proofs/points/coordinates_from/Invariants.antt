use Rattle.std.proofs.Common.{◌≡◌, drop}
use Rattle.rows_text.specs.Numbers.{coordinates}
use Rattle.rows_text.specs.Records.{fields_in}
use Rattle.rows_text.proofs.FieldsLemmas.{with_front}
use Rattle.rows_text.proofs.points.coordinates_from.Given as goal

-- the coordinates so far, and those of the other fields, are all
abbrev pub invariant-loop-i : goal.invariant-loop-i
invariant-loop-i l = with_front l.found.items (coordinates (drop l.i (fields_in l.row))) ≡ coordinates (drop l.start (fields_in l.row))
