use Rattle.std.proofs.Common.{◌<◌, ◌^◌, length, map, arith}
use Rattle.std.specs.Prelude.{All}
use Rattle.std.proofs.lemmas.List.{length-map}
use Rattle.csv.specs.Reading.{default_config, records, strip_bom}
use Rattle.rows_text.specs.Readable.{IsReadable}
use Rattle.rows_text.specs.Records.{Fields, script_records, without_blanks}
use Rattle.rows_text.specs.Script.{script}
use Rattle.rows_text.proofs.ReadableLemmas.{commands_few, commands_readable, ok_items}
use Rattle.rows_text.proofs.RecordLemmas.{few_records}
use Rattle.rows_text.proofs.script.read_script.Goals as goal

pub returns-clause-readable : goal.returns-clause-readable
returns-clause-readable c =
    ok_items (λ v. v.items) (All (IsReadable c.args.dimension)) c.read_commands.result (script c.args.dimension c.args.bytes.now)
    (commands_readable c.args.dimension 0 (script_records c.args.bytes.now)) c.read_commands.ensures

pub returns-clause-few : goal.returns-clause-few
returns-clause-few c =
    let few = few_records default_config c.args.bytes.now in
    let same = length-map (records default_config (strip_bom c.args.bytes.now)) (λ (fields : Fields). map without_blanks fields) in
    let commands = commands_few c.args.dimension 0 (script_records c.args.bytes.now) in
    ok_items (λ v. v.items) (λ l. length l < 2 ^ 32) c.read_commands.result (script c.args.dimension c.args.bytes.now) (omega arith) c.read_commands.ensures
