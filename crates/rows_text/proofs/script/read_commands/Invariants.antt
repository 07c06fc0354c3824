use Rattle.std.proofs.Common.{◌≡◌, ◌<◌, ◌++◌, ℕ, List, Some, map, true}
use Rattle.csv.specs.Reading.{Reached, Ready, default_config, is_flexible, source_of, strip_bom}
use Rattle.csv.specs.declared.parser.State.TheVariants as st
use Rattle.csv.specs.declared.reader.Trim.TheVariants as trim
use Rattle.rows_text.specs.Records.{Fields, without_blanks}
use Rattle.rows_text.specs.Reading.{commands_with}
use Rattle.rows_text.specs.Script.{commands_after}
use Rattle.rows_text.proofs.script.read_commands.Given as goal

-- the records so far take the text to where the reader stands, and with those that follow they make the same commands
abbrev pub invariant-loop-row : goal.invariant-loop-row
invariant-loop-row l = record {
  untrimmed : l.row-iterator.rdr.trim ≡ trim.None;
  flexible : is_flexible l.row-iterator.rdr ≡ true;
  ready : Ready l.row-iterator.rdr;
  left : 0 < l.row-iterator.left;
  config : l.row-iterator.rdr.config ≡ default_config;
  seen : List (List (List ℕ));
  rest : List ℕ;
  source : source_of (λ s. Some s.now) l.row-iterator.rdr ≡ Some rest;
  reached : Reached default_config st.StartRecord (strip_bom l.bytes) seen l.row-iterator.rdr.state rest;
  whole : (after : List Fields) → commands_with l.reading after ≡ commands_after l.dimension 0 (map (λ fields. map without_blanks fields) seen ++ after);
}
