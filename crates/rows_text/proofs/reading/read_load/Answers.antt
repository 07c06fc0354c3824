use Rattle.std.proofs.Common.{◌^◌, ◌∙◌, sym, ap, arith}
use Rattle.std.proofs.lemmas.List.{length-map}
use Rattle.csv.specs.Records.{fields_of}
use Rattle.rows_text.specs.Numbers.{number_below}
use Rattle.rows_text.specs.Records.{fields_in, without_blanks}
use Rattle.rows_text.proofs.StartLemmas.{new_load}
use Rattle.rows_text.proofs.reading.read_load.Goals as goal

pub returns : goal.returns
returns c = λ after.
    let two = length-map (fields_of c.args.row.now) without_blanks in
    let spelt = ap (number_below (2 ^ 64)) (sym c.field.ensures) ∙ sym c.number.ensures ∙ c.in-Some.is in
    new_load c.args.dimension c.in-Some.n c.args.tagged c.new.result (fields_in c.args.row.now) after c.new.ensures (omega arith) spelt c.if-n-eq0.false
