use Rattle.std.proofs.Common.{◌≡◌, Some, sym, ◌∙◌, ap, arith}
use Rattle.std.specs.Option.{option_map}
use Rattle.std.proofs.lemmas.List.{length-map}
use Rattle.csv.specs.Records.{fields_of}
use Rattle.rows_text.specs.Numbers.{coordinates}
use Rattle.rows_text.specs.Records.{fields_in, without_blanks}
use Rattle.rows_text.proofs.LoadLemmas.{coordinates_long}
use Rattle.rows_text.proofs.load.OpenLoad.push_point.Goals as goal

pub push-requires : goal.push-requires
push-requires c =
    let is : Some c.in-Some.point.items ≡ coordinates (fields_in c.args.row.now) = ap (option_map (λ v. v.items)) (sym c.in-Some.is) ∙ c.in_ok-point.ensures in
    let long = coordinates_long (fields_in c.args.row.now) c.in-Some.point.items (sym is) in
    let fields = length-map (fields_of c.args.row.now) without_blanks in
    let dimension = c.args.self.now.as_long in
    omega arith
