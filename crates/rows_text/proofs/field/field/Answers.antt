use Rattle.rows_text.specs.Records.{without_blanks}
use Rattle.csv.specs.Records.{fields_of}
use Rattle.std.proofs.Common.{◌∙◌}
use Rattle.rows_text.proofs.FieldsLemmas.{field_some, field_none}
use Rattle.rows_text.proofs.field.field.Goals as goal

pub returns-in-Some : goal.returns-in-Some
returns-in-Some c = c.trimmed.ensures ∙ field_some without_blanks (fields_of c.args.row.now) c.args.i c.in-Some.bytes.now c.in-Some.ensures.value

pub returns-in-None : goal.returns-in-None
returns-in-None c = field_none without_blanks (fields_of c.args.row.now) c.args.i c.in-None.ensures.value
