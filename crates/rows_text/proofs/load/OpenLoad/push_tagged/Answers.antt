use Rattle.std.proofs.Common.{◌≡◌, Some, drop, sym, ◌∙◌, ap, arith}
use Rattle.std.specs.Option.{option_map}
use Rattle.std.proofs.lemmas.List.{length-map, length-drop}
use Rattle.csv.specs.Records.{fields_of}
use Rattle.rows_text.specs.Numbers.{coordinates}
use Rattle.rows_text.specs.Records.{fields_in, without_blanks}
use Rattle.rows_text.proofs.LoadLemmas.{coordinates_long}
use Rattle.rows_text.proofs.load.OpenLoad.push_tagged.Goals as goal

pub push-requires : goal.push-requires
push-requires c =
    let is : Some c.in-Some-2.point.items ≡ coordinates (drop 1 (fields_in c.args.row.now)) = ap (option_map (λ v. v.items)) (sym c.in-Some-2.is) ∙ c.in_ok-point.ensures in
    let long = coordinates_long (drop 1 (fields_in c.args.row.now)) c.in-Some-2.point.items (sym is) in
    let fields = length-map (fields_of c.args.row.now) without_blanks in
    let rest = length-drop 1 (fields_in c.args.row.now) in
    let dimension = c.args.self.now.as_long in
    omega arith
