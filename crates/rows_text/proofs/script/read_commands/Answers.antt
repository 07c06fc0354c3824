use Rattle.std.proofs.Common.{Bor, List, ℕ, ◌≡◌, ◌∙◌, [], sym, refl, inl, inr, Some, rules, arith}
use Rattle.csv.specs.Reading.{Reached, default_config, records, strip_bom}
use Rattle.csv.specs.Records.{fields_of}
use Rattle.csv.specs.declared.parser.State.TheVariants as st
use Rattle.csv.proofs.ReadFacts.{rows-end, rows-more}
use Rattle.rows_text.specs.Records.{fields_in}
use Rattle.rows_text.specs.Reading.{Reads, commands_with}
use Rattle.rows_text.specs.Script.{script}
use Rattle.rows_text.proofs.RecordLemmas.{reached_records}
use Rattle.rows_text.proofs.StartLemmas.{new_reading, ok_same_by, reads_all, reads_more}
use Rattle.rows_text.proofs.script.read_commands.Goals as goal

pub loop-row-init : goal.loop-row-init
unfolding Reached
loop-row-init c =
    let fr = c.from_reader-reader.ensures in
    let e = c.has_headers.ensures in
    let f = c.flexible.ensures in
    let start = c.into_iter-row-iterator.ensures.into_iter_gives ∙ refl in
    let rdr = c.into_byte_records-row-items.ensures.rdr in
    let left = c.into_byte_records-row-items.ensures.left in
    rw (start, rdr) (record {
      untrimmed = rw (f, e) at fr.trim ∙ c.new.ensures.trim;
      flexible = fr.flexible ∙ (rw f refl);
      ready = inr (inr (rw (f, e) at fr.has_headers, fr.headers));
      left = left;
      config = rw (f, e) at fr.config ∙ c.new.ensures.config;
      seen = [];
      rest = strip_bom c.args.bytes.now;
      source = fr.source;
      reached = (sym fr.state, refl);
      whole = new_reading c.args.dimension c.new-reading.result c.new-reading.ensures;
    })

pub loop-row-preserved : goal.loop-row-preserved
loop-row-preserved c =
    let inv = c.loop-row.invariant in
    let s = rw (c.in-Some.is, c.in-Ok.is) at ((c.next.ensures.steps inv.left inv.untrimmed).0 inv.ready) in
    let took : Reads c.loop-row.reading c.take.new.self (fields_in c.in-Ok.row) = search rules in
    let m = rows-more (λ (s : Bor (List ℕ)). Some s.now) c.loop-row.row-iterator.rdr c.next.new.self.rdr (fields_of c.in-Ok.row) default_config st.StartRecord (strip_bom c.args.bytes.now) inv.rest inv.seen inv.config inv.source inv.reached s.0 in
    record {
      untrimmed = s.0.3 ∙ inv.untrimmed;
      flexible = rw (c.in-Some.is, c.in-Ok.is) at ((c.next.ensures.steps inv.left inv.untrimmed).3) ∙ inv.flexible;
      ready = inl s.1;
      left = s.2;
      config = s.0.2 ∙ inv.config;
      seen = _;
      rest = m.0;
      source = m.1;
      reached = m.2;
      whole = reads_more c.args.dimension c.loop-row.reading c.take.new.self inv.seen (fields_of c.in-Ok.row) took inv.whole;
    }

pub returns : goal.returns
returns c =
    let inv = c.loop-row.invariant in
    let s = rw c.in-None.is at ((c.next.ensures.steps inv.left inv.untrimmed).0 inv.ready) in
    let all : inv.seen ≡ records default_config (strip_bom c.args.bytes.now) =
    reached_records default_config inv.seen _ st.StartRecord c.loop-row.row-iterator.rdr.state (strip_bom c.args.bytes.now) inv.rest (omega arith) inv.reached
    (rows-end (λ (s : Bor (List ℕ)). Some s.now) c.loop-row.row-iterator.rdr c.next.new.self.rdr [] default_config inv.rest inv.config inv.source s) in
    ok_same_by (λ v. v.items) c.finish.result (commands_with c.loop-row.reading []) (script c.args.dimension c.args.bytes.now)
    (reads_all c.args.dimension c.loop-row.reading inv.seen _ all inv.whole) c.finish.ensures
