-- Logs: what is read is spelled so, and what was spelled is read again.
use Rattle.std.proofs.Common.{◌≡◌, ℕ, ◌^◌, ◌<◌, ◌≤◌, ◌==◌, ◌&&◌, Bool, true, false, cond, nat_le, List, [], ◌∷◌, ◌++◌, length, None, Result, Ok, Err, refl, sym, ap, subst, ◌∙◌, append_assoc, arith}
use Rattle.std.specs.List.{AllByRecursion}
use Rattle.std.proofs.lemmas.Bool.{eqb-true, leb-true, ltb-true, lt-ltb}
use Rattle.std.proofs.lemmas.Bool.Decides.{nat_tests}
use Rattle.byteorder.specs.Endian.{big_bytes}
use Rattle.scan_model.specs.declared.query.Query.{Query}
use Rattle.scan_model.specs.declared.query.Query.TheVariants.{Range, Nearest}
use Rattle.log_model.specs.declared.logs.Log.{Log}
use Rattle.log_model.specs.declared.logs.JoinLog.{JoinLog}
use Rattle.log_model.specs.Grammar.{IsValidPoint, IsValidQuery, IsValidLog, IsValidJoinLog}
use Rattle.prune_log.specs.declared.fault.LogFault.{LogFault}
use Rattle.prune_log.specs.declared.fault.LogFault.TheVariants as faults
use Rattle.prune_log.specs.declared.query_log.Asked.{Asked}
use Rattle.prune_log.specs.declared.query_log.Asked.TheVariants as asked
use Rattle.prune_log.specs.Ranges.{IsBytes, QueryInRange, HitInRange, PairInRange, LogInRange, JoinLogInRange}
use Rattle.prune_log.specs.Spelling.{magic, listed, coordinate_bytes, hit_bytes, pair_bytes, record_bytes, join_record_bytes, kind_bytes, query_bytes, opening_bytes, tree_bytes, log_bytes, join_opening_bytes, trees_bytes, join_log_bytes}
use Rattle.prune_log.specs.Reading.{◌>>=◌, byte_at, number_at, listed_at, always, hit_at, hit_follows, pair_at, pair_follows, record_at, join_record_at, opening_at, kind_at, tree_at, is_amount, query_of, point_at, query_at, log_at, join_opening_at, trees_at, join_log_at}
use Rattle.prune_log.proofs.Exact.{bind_ok, guard_ok, ok_is, Takes, Takes-then, IsReader, wide32, wide64, number_reader, byte_takes, IsListed, listed_reader, chain_always}
use Rattle.prune_log.proofs.Things.{short_reader, IsRecord, IsJoinRecord, hit_reader, pair_reader, record_reader, join_record_reader}
use Rattle.prune_log.proofs.Ordering.{hits_ascend, hits_chain, pairs_ascend, pairs_chain}

-- ---- the opening

opening_takes : (bytes rest : List ℕ) → IsBytes bytes → opening_at bytes ≡ Ok rest → Takes bytes opening_bytes rest
unfolding opening_at
opening_takes bytes rest fits e =
    let letters = bind_ok (number_at 4 bytes) (λ letters. cond (letters.0 == magic) (Ok letters.1) (Err faults.Magic) >>= λ next. byte_at next >>= λ version. cond (version.0 == 1) (Ok version.1) (Err faults.Version)) rest e in
    let next = bind_ok (cond (letters.0.0 == magic) (Ok letters.0.1) (Err faults.Magic)) (λ next. byte_at next >>= λ version. cond (version.0 == 1) (Ok version.1) (Err faults.Version)) rest letters.2 in
    let version = bind_ok (byte_at next.0) (λ version. cond (version.0 == 1) (Ok version.1) (Err faults.Version)) rest next.2 in
    let right_letters = guard_ok (letters.0.0 == magic) faults.Magic (Ok letters.0.1) next.0 next.1 in
    let right_version = guard_ok (version.0.0 == 1) faults.Version (Ok version.0.1) rest version.2 in
    let took_letters = (number_reader 4 (2 ^ 32) wide32).takes bytes letters.0.0 letters.0.1 fits letters.1 in
    let same : letters.0.1 ≡ next.0 = ok_is letters.0.1 next.0 right_letters.1 in
    let behind = subst (Takes bytes (big_bytes 4 letters.0.0)) same took_letters.0 in
    let took_version = byte_takes next.0 version.0.0 version.0.1 behind.rest_bytes version.1 in
    let both = Takes-then bytes (big_bytes 4 letters.0.0) next.0 (version.0.0 ∷ []) version.0.1 behind took_version.0 in
    let front : big_bytes 4 letters.0.0 ++ version.0.0 ∷ [] ≡ opening_bytes =
    ap (λ (n : ℕ). big_bytes 4 n ++ version.0.0 ∷ []) (eqb-true letters.0.0 magic right_letters.0) ∙ ap (λ (n : ℕ). big_bytes 4 magic ++ n ∷ []) (eqb-true version.0.0 1 right_version.0) in
    subst (Takes bytes opening_bytes) (ok_is version.0.1 rest right_version.1) (subst (λ (t : List ℕ). Takes bytes t version.0.1) front both)

opening_again : (rest : List ℕ) → opening_at (opening_bytes ++ rest) ≡ Ok rest
unfolding opening_at
opening_again rest =
    ap opening_at (append_assoc (big_bytes 4 magic) (1 ∷ []) rest) ∙ rw ((number_reader 4 (2 ^ 32) wide32).again magic (1 ∷ rest) (omega arith)) refl

-- ---- trees

-- a tree: its generation and its root
abbrev Tree : Type 0
Tree = ℕ × ℕ

-- a tree that has a spelling
record IsTree (tree : Tree) : Type 0 where
  generation : tree.0 < 2 ^ 64
  root : tree.1 < 2 ^ 32

tree_takes : (bytes : List ℕ) (x : Tree) (rest : List ℕ) → IsBytes bytes → tree_at bytes ≡ Ok (x, rest) → Takes bytes (tree_bytes x.0 x.1) rest × IsTree x
unfolding tree_at
tree_takes bytes x rest fits e =
    let generation = bind_ok (number_at 8 bytes) (λ generation. number_at 4 generation.1 >>= λ root. Ok ((generation.0, root.0), root.1)) (x, rest) e in
    let took_generation = (number_reader 8 (2 ^ 64) wide64).takes bytes generation.0.0 generation.0.1 fits generation.1 in
    let root = bind_ok (number_at 4 generation.0.1) (λ root. Ok ((generation.0.0, root.0), root.1)) (x, rest) generation.2 in
    let took_root = (number_reader 4 (2 ^ 32) wide32).takes generation.0.1 root.0.0 root.0.1 took_generation.0.rest_bytes root.1 in
    let from_generation = Takes-then bytes (big_bytes 8 generation.0.0) generation.0.1 (big_bytes 4 root.0.0) root.0.1 took_generation.0 took_root.0 in
    let made : Tree = (generation.0.0, root.0.0) in
    subst (λ (y : Tree × List ℕ). Takes bytes (tree_bytes y.0.0 y.0.1) y.1 × IsTree y.0) (ok_is (made, root.0.1) (x, rest) root.2)
    (from_generation, record { generation = took_generation.1; root = took_root.1 })

tree_again : (x : Tree) (rest : List ℕ) → IsTree x → tree_at (tree_bytes x.0 x.1 ++ rest) ≡ Ok (x, rest)
unfolding tree_at
tree_again x rest fits =
    let regrouped : tree_bytes x.0 x.1 ++ rest ≡ big_bytes 8 x.0 ++ (big_bytes 4 x.1 ++ rest) = append_assoc (big_bytes 8 x.0) (big_bytes 4 x.1) rest in
    ap (tree_at) regrouped ∙ rw ((number_reader 8 (2 ^ 64) wide64).again x.0 (big_bytes 4 x.1 ++ rest) fits.generation, (number_reader 4 (2 ^ 32) wide32).again x.1 rest fits.root) refl

tree_reader : IsReader IsTree (λ tree. tree_bytes tree.0 tree.1) tree_at
tree_reader = record { takes = tree_takes; again = tree_again }

-- ---- queries

is_both : (a b : Bool) → (a && b) ≡ true → (a ≡ true) × (b ≡ true)
is_both true b e = (refl, e)
is_both false b e = absurd cc

-- a point that has a spelling
record IsPoint (q : List ℕ) : Type 0 where
  valid : IsValidPoint q
  coordinates : AllByRecursion (λ x. x < 2 ^ 32) q

point_reader : IsReader IsPoint (listed 1 coordinate_bytes) point_at
unfolding point_at
point_reader =
    let short = short_reader (λ x. x < 2 ^ 32) coordinate_bytes (number_at 4) (number_reader 4 (2 ^ 32) wide32) (λ n. nat_le 1 n && nat_le n 64) faults.Kind in
    record {
      takes = λ bytes q rest fits e. (
          let took = short.takes bytes q rest fits e in
          let passes = is_both (nat_le 1 (length q)) (nat_le (length q) 64) took.1.passes in
          (took.0, record { valid = record { some = leb-true 1 (length q) passes.0; few = leb-true (length q) 64 passes.1 }; coordinates = took.1.each })
          );
      again = λ q rest is. short.again q rest (record { passes = point_passes (length q) is.valid.some is.valid.few; few = omega (arith, is.valid.few); each = is.coordinates });
    }
  where
    point_passes : (n : ℕ) → 1 ≤ n → n ≤ 64 → (nat_le 1 n && nat_le n 64) ≡ true
    point_passes n some few = grind (arith, nat_tests)

-- what the kinds of queries are spelled as
asked_bytes : Asked → List ℕ
asked_bytes asked.Range = 1 ∷ []
asked_bytes asked.Nearest = 2 ∷ []

-- what a query asks for
asked_for : Query → Asked
asked_for (Range q r) = asked.Range
asked_for (Nearest q k) = asked.Nearest

-- the kind by the tests of its byte
abbrev kind_by : Bool → Bool → List ℕ → Result (Asked × List ℕ) LogFault
kind_by is_range is_nearest after = cond is_range (Ok (asked.Range, after)) (cond is_nearest (Ok (asked.Nearest, after)) (Err faults.Kind))

kind_byte_is : (is_range is_nearest : Bool) (b : ℕ) (after : List ℕ) (what : Asked) (rest : List ℕ) → (is_range ≡ true → b ≡ 1) → (is_nearest ≡ true → b ≡ 2)
    → kind_by is_range is_nearest after ≡ Ok (what, rest) → (asked_bytes what ≡ b ∷ []) × (after ≡ rest)
unfolding asked_bytes
kind_byte_is true is_nearest b after what rest h1 h2 e =
    let is = ok_is (asked.Range, after) (what, rest) e in
    (ap asked_bytes (sym (ap (λ (p : Asked × List ℕ). p.0) is)) ∙ ap (λ (n : ℕ). n ∷ []) (sym (h1 refl)), ap (λ (p : Asked × List ℕ). p.1) is)
kind_byte_is false true b after what rest h1 h2 e =
    let is = ok_is (asked.Nearest, after) (what, rest) e in
    (ap asked_bytes (sym (ap (λ (p : Asked × List ℕ). p.0) is)) ∙ ap (λ (n : ℕ). n ∷ []) (sym (h2 refl)), ap (λ (p : Asked × List ℕ). p.1) is)
kind_byte_is false false b after what rest h1 h2 e = absurd cc

kind_takes : (bytes : List ℕ) (what : Asked) (rest : List ℕ) → IsBytes bytes → kind_at bytes ≡ Ok (what, rest) → Takes bytes (asked_bytes what) rest × Unit {0}
unfolding kind_at
kind_takes bytes what rest fits e =
    let b = bind_ok (byte_at bytes) (λ b. kind_by (b.0 == 1) (b.0 == 2) b.1) (what, rest) e in
    let took = byte_takes bytes b.0.0 b.0.1 fits b.1 in
    let is = kind_byte_is (b.0.0 == 1) (b.0.0 == 2) b.0.0 b.0.1 what rest (eqb-true b.0.0 1) (eqb-true b.0.0 2) b.2 in
    (subst (Takes bytes (asked_bytes what)) is.1 (subst (λ (t : List ℕ). Takes bytes t b.0.1) (sym is.0) took.0), tt)

kind_again : (query : Query) (rest : List ℕ) → kind_at (kind_bytes query ++ rest) ≡ Ok (asked_for query, rest)
unfolding kind_at asked_for
kind_again (Range q r) rest = refl
kind_again (Nearest q k) rest = refl

-- a query of this kind that has a spelling
record IsQuery (what : Asked) (query : Query) : Type 0 where
  valid : IsValidQuery query
  in_range : QueryInRange query
  kind : kind_bytes query ≡ asked_bytes what

query_is : (what : Asked) (amount : ℕ) (q : List ℕ) → is_amount what amount ≡ true → amount < 2 ^ 64 → IsPoint q → IsQuery what (query_of what amount q)
unfolding asked_bytes
query_is asked.Range amount q enough fits is = record { valid = is.valid; in_range = record { amount = fits; coordinates = is.coordinates }; kind = refl }
query_is asked.Nearest amount q enough fits is = record { valid = (is.valid, ltb-true 0 amount enough); in_range = record { amount = fits; coordinates = is.coordinates }; kind = refl }

query_spelled : (what : Asked) (amount : ℕ) (q : List ℕ) → big_bytes 8 amount ++ listed 1 coordinate_bytes q ≡ query_bytes (query_of what amount q)
query_spelled asked.Range amount q = refl
query_spelled asked.Nearest amount q = refl

query_takes : (what : Asked) (bytes : List ℕ) (query : Query) (rest : List ℕ) → IsBytes bytes → query_at what bytes ≡ Ok (query, rest) → Takes bytes (query_bytes query) rest × IsQuery what query
unfolding query_at
query_takes what bytes query rest fits e =
    let amount = bind_ok (number_at 8 bytes) (λ amount. cond (is_amount what amount.0) (Ok amount.1) (Err faults.Kind) >>= λ next. point_at next >>= λ point. Ok (query_of what amount.0 point.0, point.1)) (query, rest) e in
    let next = bind_ok (cond (is_amount what amount.0.0) (Ok amount.0.1) (Err faults.Kind)) (λ next. point_at next >>= λ point. Ok (query_of what amount.0.0 point.0, point.1)) (query, rest) amount.2 in
    let point = bind_ok (point_at next.0) (λ point. Ok (query_of what amount.0.0 point.0, point.1)) (query, rest) next.2 in
    let enough = guard_ok (is_amount what amount.0.0) faults.Kind (Ok amount.0.1) next.0 next.1 in
    let took_amount = (number_reader 8 (2 ^ 64) wide64).takes bytes amount.0.0 amount.0.1 fits amount.1 in
    let behind = subst (Takes bytes (big_bytes 8 amount.0.0)) (ok_is amount.0.1 next.0 enough.1) took_amount.0 in
    let took_point = point_reader.takes next.0 point.0.0 point.0.1 behind.rest_bytes point.1 in
    let both = Takes-then bytes (big_bytes 8 amount.0.0) next.0 (listed 1 coordinate_bytes point.0.0) point.0.1 behind took_point.0 in
    let made : Query = query_of what amount.0.0 point.0.0 in
    let spelled = subst (λ (t : List ℕ). Takes bytes t point.0.1) (query_spelled what amount.0.0 point.0.0) both in
    subst (λ (y : Query × List ℕ). Takes bytes (query_bytes y.0) y.1 × IsQuery what y.0) (ok_is (made, point.0.1) (query, rest) point.2)
    (spelled, query_is what amount.0.0 point.0.0 enough.0 took_amount.1 took_point.1)

query_again : (query : Query) (rest : List ℕ) → IsValidQuery query → QueryInRange query → query_at (asked_for query) (query_bytes query ++ rest) ≡ Ok (query, rest)
unfolding query_at asked_for
query_again (Range q r) rest valid range =
    ap (query_at asked.Range) (append_assoc (big_bytes 8 r) (listed 1 coordinate_bytes q) rest)
    ∙ rw ((number_reader 8 (2 ^ 64) wide64).again r (listed 1 coordinate_bytes q ++ rest) range.amount, point_reader.again q rest (record { valid = valid; coordinates = range.coordinates })) refl
query_again (Nearest q k) rest valid range =
    ap (query_at asked.Nearest) (append_assoc (big_bytes 8 k) (listed 1 coordinate_bytes q) rest)
    ∙ rw ((number_reader 8 (2 ^ 64) wide64).again k (listed 1 coordinate_bytes q ++ rest) range.amount, lt-ltb 0 k valid.1, point_reader.again q rest (record { valid = valid.0; coordinates = range.coordinates })) refl

-- ---- logs

hits_reader : IsReader (IsListed HitInRange hit_follows (2 ^ 32)) (listed 4 hit_bytes) (listed_at 4 hit_at hit_follows)
hits_reader = listed_reader HitInRange hit_bytes hit_at hit_reader hit_follows 4 (2 ^ 32) wide32

records_reader : IsReader (IsListed IsRecord always (2 ^ 32)) (listed 4 record_bytes) (listed_at 4 record_at always)
records_reader = listed_reader IsRecord record_bytes record_at record_reader always 4 (2 ^ 32) wide32

pub each : {X : Type 0} (P Q : X → Type 0) → ((x : X) → P x → Q x) → (xs : List X) → AllByRecursion P xs → AllByRecursion Q xs
each P Q implies [] all = tt
each P Q implies (x ∷ xs) all = (implies x all.0, each P Q implies xs all.1)

pub each_both : {X : Type 0} (P Q R : X → Type 0) → ((x : X) → P x → Q x → R x) → (xs : List X) → AllByRecursion P xs → AllByRecursion Q xs → AllByRecursion R xs
each_both P Q R implies [] ps qs = tt
each_both P Q R implies (x ∷ xs) ps qs = (implies x ps.0 qs.0, each_both P Q R implies xs ps.1 qs.1)

-- a log that has a spelling, with its fields in the ranges of their types
pub record IsLog (log : Log) : Type 0 where
  pub valid : IsValidLog log
  pub in_range : LogInRange log

log_takes : (bytes : List ℕ) (x : Log) (rest : List ℕ) → IsBytes bytes → log_at bytes ≡ Ok (x, rest) → Takes bytes (log_bytes x) rest × IsLog x
unfolding log_at
log_takes bytes x rest fits e =
    let opened = bind_ok (opening_at bytes) (λ opened. kind_at opened >>= λ kind. tree_at kind.1 >>= λ tree. query_at kind.0 tree.1 >>= λ query. listed_at 4 hit_at hit_follows query.1 >>= λ answers. listed_at 4 record_at always answers.1 >>= λ records. Ok (record { generation = tree.0.0; root = tree.0.1; query = query.0; answers = answers.0; records = records.0 }, records.1)) (x, rest) e in
    let took_opened = opening_takes bytes opened.0 fits opened.1 in
    let kind = bind_ok (kind_at opened.0) (λ kind. tree_at kind.1 >>= λ tree. query_at kind.0 tree.1 >>= λ query. listed_at 4 hit_at hit_follows query.1 >>= λ answers. listed_at 4 record_at always answers.1 >>= λ records. Ok (record { generation = tree.0.0; root = tree.0.1; query = query.0; answers = answers.0; records = records.0 }, records.1)) (x, rest) opened.2 in
    let took_kind = kind_takes opened.0 kind.0.0 kind.0.1 took_opened.rest_bytes kind.1 in
    let tree = bind_ok (tree_at kind.0.1) (λ tree. query_at kind.0.0 tree.1 >>= λ query. listed_at 4 hit_at hit_follows query.1 >>= λ answers. listed_at 4 record_at always answers.1 >>= λ records. Ok (record { generation = tree.0.0; root = tree.0.1; query = query.0; answers = answers.0; records = records.0 }, records.1)) (x, rest) kind.2 in
    let took_tree = tree_reader.takes kind.0.1 tree.0.0 tree.0.1 took_kind.0.rest_bytes tree.1 in
    let query = bind_ok (query_at kind.0.0 tree.0.1) (λ query. listed_at 4 hit_at hit_follows query.1 >>= λ answers. listed_at 4 record_at always answers.1 >>= λ records. Ok (record { generation = tree.0.0.0; root = tree.0.0.1; query = query.0; answers = answers.0; records = records.0 }, records.1)) (x, rest) tree.2 in
    let took_query = query_takes kind.0.0 tree.0.1 query.0.0 query.0.1 took_tree.0.rest_bytes query.1 in
    let answers = bind_ok (listed_at 4 hit_at hit_follows query.0.1) (λ answers. listed_at 4 record_at always answers.1 >>= λ records. Ok (record { generation = tree.0.0.0; root = tree.0.0.1; query = query.0.0; answers = answers.0; records = records.0 }, records.1)) (x, rest) query.2 in
    let took_answers = hits_reader.takes query.0.1 answers.0.0 answers.0.1 took_query.0.rest_bytes answers.1 in
    let records = bind_ok (listed_at 4 record_at always answers.0.1) (λ records. Ok (record { generation = tree.0.0.0; root = tree.0.0.1; query = query.0.0; answers = answers.0.0; records = records.0 }, records.1)) (x, rest) answers.2 in
    let took_records = records_reader.takes answers.0.1 records.0.0 records.0.1 took_answers.0.rest_bytes records.1 in
    let from_answers = Takes-then query.0.1 (listed 4 hit_bytes answers.0.0) answers.0.1 (listed 4 record_bytes records.0.0) records.0.1 took_answers.0 took_records.0 in
    let from_query = Takes-then tree.0.1 (query_bytes query.0.0) query.0.1 (listed 4 hit_bytes answers.0.0 ++ (listed 4 record_bytes records.0.0)) records.0.1 took_query.0 from_answers in
    let from_tree = Takes-then kind.0.1 (tree_bytes tree.0.0.0 tree.0.0.1) tree.0.1 (query_bytes query.0.0 ++ (listed 4 hit_bytes answers.0.0 ++ (listed 4 record_bytes records.0.0))) records.0.1 took_tree.0 from_query in
    let from_kind = Takes-then opened.0 (kind_bytes query.0.0) kind.0.1 (tree_bytes tree.0.0.0 tree.0.0.1 ++ (query_bytes query.0.0 ++ (listed 4 hit_bytes answers.0.0 ++ (listed 4 record_bytes records.0.0)))) records.0.1 (subst (λ (t : List ℕ). Takes opened.0 t kind.0.1) (sym took_query.1.kind) took_kind.0) from_tree in
    let from_opened = Takes-then bytes (opening_bytes) opened.0 (kind_bytes query.0.0 ++ (tree_bytes tree.0.0.0 tree.0.0.1 ++ (query_bytes query.0.0 ++ (listed 4 hit_bytes answers.0.0 ++ (listed 4 record_bytes records.0.0))))) records.0.1 took_opened from_kind in
    let made : Log = record { generation = tree.0.0.0; root = tree.0.0.1; query = query.0.0; answers = answers.0.0; records = records.0.0 } in
    subst (λ (y : Log × List ℕ). Takes bytes (log_bytes y.0) y.1 × IsLog y.0) (ok_is (made, records.0.1) (x, rest) records.2) (
      from_opened,
      record {
        valid = record {
          query = took_query.1.valid;
          answers_ascend = hits_ascend answers.0.0 took_answers.1.chain;
          few_answers = took_answers.1.few;
          few_records = took_records.1.few;
          few_marks = each IsRecord (λ r. length r.marks ≤ 32) (λ r is. is.few) records.0.0 took_records.1.each;
        };
        in_range = record {
          generation = took_tree.1.generation;
          root = took_tree.1.root;
          query = took_query.1.in_range;
          answers = took_answers.1.each;
          pages = each IsRecord (λ r. r.page < 2 ^ 32) (λ r is. is.page) records.0.0 took_records.1.each;
        };
      },
    )

log_again : (x : Log) (rest : List ℕ) → IsLog x → log_at (log_bytes x ++ rest) ≡ Ok (x, rest)
unfolding log_at
log_again x rest fits =
    let regrouped : log_bytes x ++ rest ≡ opening_bytes ++ (kind_bytes x.query ++ (tree_bytes x.generation x.root ++ (query_bytes x.query ++ (listed 4 hit_bytes x.answers ++ (listed 4 record_bytes x.records ++ rest))))) = append_assoc (opening_bytes) (kind_bytes x.query ++ (tree_bytes x.generation x.root ++ (query_bytes x.query ++ (listed 4 hit_bytes x.answers ++ (listed 4 record_bytes x.records))))) rest ∙ ap (λ (t : List ℕ). opening_bytes ++ t) (append_assoc (kind_bytes x.query) (tree_bytes x.generation x.root ++ (query_bytes x.query ++ (listed 4 hit_bytes x.answers ++ (listed 4 record_bytes x.records)))) rest ∙ ap (λ (t : List ℕ). kind_bytes x.query ++ t) (append_assoc (tree_bytes x.generation x.root) (query_bytes x.query ++ (listed 4 hit_bytes x.answers ++ (listed 4 record_bytes x.records))) rest ∙ ap (λ (t : List ℕ). tree_bytes x.generation x.root ++ t) (append_assoc (query_bytes x.query) (listed 4 hit_bytes x.answers ++ (listed 4 record_bytes x.records)) rest ∙ ap (λ (t : List ℕ). query_bytes x.query ++ t) (append_assoc (listed 4 hit_bytes x.answers) (listed 4 record_bytes x.records) rest)))) in
    ap (log_at) regrouped ∙ rw (opening_again (kind_bytes x.query ++ (tree_bytes x.generation x.root ++ (query_bytes x.query ++ (listed 4 hit_bytes x.answers ++ (listed 4 record_bytes x.records ++ rest))))), kind_again x.query (tree_bytes x.generation x.root ++ (query_bytes x.query ++ (listed 4 hit_bytes x.answers ++ (listed 4 record_bytes x.records ++ rest)))), tree_reader.again (x.generation, x.root) (query_bytes x.query ++ (listed 4 hit_bytes x.answers ++ (listed 4 record_bytes x.records ++ rest))) (record { generation = fits.in_range.generation; root = fits.in_range.root }), query_again x.query (listed 4 hit_bytes x.answers ++ (listed 4 record_bytes x.records ++ rest)) fits.valid.query fits.in_range.query, hits_reader.again x.answers (listed 4 record_bytes x.records ++ rest) (record { few = fits.valid.few_answers; each = fits.in_range.answers; chain = hits_chain x.answers fits.valid.answers_ascend }), records_reader.again x.records rest (record { few = fits.valid.few_records; each = each_both (λ r. r.page < 2 ^ 32) (λ r. length r.marks ≤ 32) IsRecord (λ r page few. record { page = page; few = few }) x.records fits.in_range.pages fits.valid.few_marks; chain = chain_always None x.records })) refl

pub log_reader : IsReader IsLog log_bytes log_at
log_reader = record { takes = log_takes; again = log_again }

-- ---- joins

pairs_reader : IsReader (IsListed PairInRange pair_follows (2 ^ 64)) (listed 8 pair_bytes) (listed_at 8 pair_at pair_follows)
pairs_reader = listed_reader PairInRange pair_bytes pair_at pair_reader pair_follows 8 (2 ^ 64) wide64

join_records_reader : IsReader (IsListed IsJoinRecord always (2 ^ 64)) (listed 8 join_record_bytes) (listed_at 8 join_record_at always)
join_records_reader = listed_reader IsJoinRecord join_record_bytes join_record_at join_record_reader always 8 (2 ^ 64) wide64

join_opening_takes : (bytes rest : List ℕ) → IsBytes bytes → join_opening_at bytes ≡ Ok rest → Takes bytes join_opening_bytes rest
unfolding join_opening_at
join_opening_takes bytes rest fits e =
    let next = bind_ok (opening_at bytes) (λ next. byte_at next >>= λ b. cond (b.0 == 3) (Ok b.1) (Err faults.Kind)) rest e in
    let b = bind_ok (byte_at next.0) (λ b. cond (b.0 == 3) (Ok b.1) (Err faults.Kind)) rest next.2 in
    let g = guard_ok (b.0.0 == 3) faults.Kind (Ok b.0.1) rest b.2 in
    let took_next = opening_takes bytes next.0 fits next.1 in
    let took_b = byte_takes next.0 b.0.0 b.0.1 took_next.rest_bytes b.1 in
    let kind = subst (λ (n : ℕ). Takes next.0 (n ∷ []) b.0.1) (eqb-true b.0.0 3 g.0) took_b.0 in
    let both = Takes-then bytes opening_bytes next.0 (3 ∷ []) b.0.1 took_next kind in
    subst (Takes bytes join_opening_bytes) (ok_is b.0.1 rest g.1) both

join_opening_again : (rest : List ℕ) → join_opening_at (join_opening_bytes ++ rest) ≡ Ok rest
unfolding join_opening_at
join_opening_again rest = ap join_opening_at (append_assoc opening_bytes (3 ∷ []) rest) ∙ rw (opening_again (3 ∷ rest)) refl

abbrev Trees : Type 0
Trees = Tree × Tree

record AreTrees (trees : Trees) : Type 0 where
  left : IsTree trees.0
  right : IsTree trees.1

trees_takes : (bytes : List ℕ) (x : Trees) (rest : List ℕ) → IsBytes bytes → trees_at bytes ≡ Ok (x, rest) → Takes bytes (trees_bytes x.0 x.1) rest × AreTrees x
unfolding trees_at
trees_takes bytes x rest fits e =
    let left = bind_ok (tree_at bytes) (λ left. tree_at left.1 >>= λ right. Ok ((left.0, right.0), right.1)) (x, rest) e in
    let took_left = tree_reader.takes bytes left.0.0 left.0.1 fits left.1 in
    let right = bind_ok (tree_at left.0.1) (λ right. Ok ((left.0.0, right.0), right.1)) (x, rest) left.2 in
    let took_right = tree_reader.takes left.0.1 right.0.0 right.0.1 took_left.0.rest_bytes right.1 in
    let from_left = Takes-then bytes (tree_bytes left.0.0.0 left.0.0.1) left.0.1 (tree_bytes right.0.0.0 right.0.0.1) right.0.1 took_left.0 took_right.0 in
    let made : Trees = (left.0.0, right.0.0) in
    subst (λ (y : Trees × List ℕ). Takes bytes (trees_bytes y.0.0 y.0.1) y.1 × AreTrees y.0) (ok_is (made, right.0.1) (x, rest) right.2)
    (from_left, record { left = took_left.1; right = took_right.1 })

trees_again : (x : Trees) (rest : List ℕ) → AreTrees x → trees_at (trees_bytes x.0 x.1 ++ rest) ≡ Ok (x, rest)
unfolding trees_at
trees_again x rest fits =
    let regrouped : trees_bytes x.0 x.1 ++ rest ≡ tree_bytes x.0.0 x.0.1 ++ (tree_bytes x.1.0 x.1.1 ++ rest) = append_assoc (tree_bytes x.0.0 x.0.1) (tree_bytes x.1.0 x.1.1) rest in
    ap (trees_at) regrouped ∙ rw (tree_reader.again x.0 (tree_bytes x.1.0 x.1.1 ++ rest) fits.left, tree_reader.again x.1 rest fits.right) refl

trees_reader : IsReader AreTrees (λ trees. trees_bytes trees.0 trees.1) trees_at
trees_reader = record { takes = trees_takes; again = trees_again }

-- a join's log that has a spelling, with its fields in the ranges of their types
pub record IsJoinLog (log : JoinLog) : Type 0 where
  pub valid : IsValidJoinLog log
  pub in_range : JoinLogInRange log

join_log_takes : (bytes : List ℕ) (x : JoinLog) (rest : List ℕ) → IsBytes bytes → join_log_at bytes ≡ Ok (x, rest) → Takes bytes (join_log_bytes x) rest × IsJoinLog x
unfolding join_log_at
join_log_takes bytes x rest fits e =
    let opened = bind_ok (join_opening_at bytes) (λ opened. trees_at opened >>= λ trees. number_at 8 trees.1 >>= λ r. listed_at 8 pair_at pair_follows r.1 >>= λ answers. listed_at 8 join_record_at always answers.1 >>= λ records. Ok (record { left = trees.0.0; right = trees.0.1; r = r.0; answers = answers.0; records = records.0 }, records.1)) (x, rest) e in
    let took_opened = join_opening_takes bytes opened.0 fits opened.1 in
    let trees = bind_ok (trees_at opened.0) (λ trees. number_at 8 trees.1 >>= λ r. listed_at 8 pair_at pair_follows r.1 >>= λ answers. listed_at 8 join_record_at always answers.1 >>= λ records. Ok (record { left = trees.0.0; right = trees.0.1; r = r.0; answers = answers.0; records = records.0 }, records.1)) (x, rest) opened.2 in
    let took_trees = trees_reader.takes opened.0 trees.0.0 trees.0.1 took_opened.rest_bytes trees.1 in
    let r = bind_ok (number_at 8 trees.0.1) (λ r. listed_at 8 pair_at pair_follows r.1 >>= λ answers. listed_at 8 join_record_at always answers.1 >>= λ records. Ok (record { left = trees.0.0.0; right = trees.0.0.1; r = r.0; answers = answers.0; records = records.0 }, records.1)) (x, rest) trees.2 in
    let took_r = (number_reader 8 (2 ^ 64) wide64).takes trees.0.1 r.0.0 r.0.1 took_trees.0.rest_bytes r.1 in
    let answers = bind_ok (listed_at 8 pair_at pair_follows r.0.1) (λ answers. listed_at 8 join_record_at always answers.1 >>= λ records. Ok (record { left = trees.0.0.0; right = trees.0.0.1; r = r.0.0; answers = answers.0; records = records.0 }, records.1)) (x, rest) r.2 in
    let took_answers = pairs_reader.takes r.0.1 answers.0.0 answers.0.1 took_r.0.rest_bytes answers.1 in
    let records = bind_ok (listed_at 8 join_record_at always answers.0.1) (λ records. Ok (record { left = trees.0.0.0; right = trees.0.0.1; r = r.0.0; answers = answers.0.0; records = records.0 }, records.1)) (x, rest) answers.2 in
    let took_records = join_records_reader.takes answers.0.1 records.0.0 records.0.1 took_answers.0.rest_bytes records.1 in
    let from_answers = Takes-then r.0.1 (listed 8 pair_bytes answers.0.0) answers.0.1 (listed 8 join_record_bytes records.0.0) records.0.1 took_answers.0 took_records.0 in
    let from_r = Takes-then trees.0.1 (big_bytes 8 r.0.0) r.0.1 (listed 8 pair_bytes answers.0.0 ++ (listed 8 join_record_bytes records.0.0)) records.0.1 took_r.0 from_answers in
    let from_trees = Takes-then opened.0 (trees_bytes trees.0.0.0 trees.0.0.1) trees.0.1 (big_bytes 8 r.0.0 ++ (listed 8 pair_bytes answers.0.0 ++ (listed 8 join_record_bytes records.0.0))) records.0.1 took_trees.0 from_r in
    let from_opened = Takes-then bytes (join_opening_bytes) opened.0 (trees_bytes trees.0.0.0 trees.0.0.1 ++ (big_bytes 8 r.0.0 ++ (listed 8 pair_bytes answers.0.0 ++ (listed 8 join_record_bytes records.0.0)))) records.0.1 took_opened from_trees in
    let made : JoinLog = record { left = trees.0.0.0; right = trees.0.0.1; r = r.0.0; answers = answers.0.0; records = records.0.0 } in
    subst (λ (y : JoinLog × List ℕ). Takes bytes (join_log_bytes y.0) y.1 × IsJoinLog y.0) (ok_is (made, records.0.1) (x, rest) records.2) (
      from_opened,
      record {
        valid = record {
          answers_ascend = pairs_ascend answers.0.0 took_answers.1.chain;
          few_answers = took_answers.1.few;
          few_records = took_records.1.few;
          few_marks = each IsJoinRecord (λ s. length s.marks ≤ 32) (λ s is. is.few) records.0.0 took_records.1.each;
        };
        in_range = record {
          left_generation = took_trees.1.left.generation;
          left_root = took_trees.1.left.root;
          right_generation = took_trees.1.right.generation;
          right_root = took_trees.1.right.root;
          r = took_r.1;
          answers = took_answers.1.each;
          pages = each IsJoinRecord (λ s. s.page < 2 ^ 32) (λ s is. is.page) records.0.0 took_records.1.each;
        };
      },
    )

join_log_again : (x : JoinLog) (rest : List ℕ) → IsJoinLog x → join_log_at (join_log_bytes x ++ rest) ≡ Ok (x, rest)
unfolding join_log_at
join_log_again x rest fits =
    let regrouped : join_log_bytes x ++ rest ≡ join_opening_bytes ++ (trees_bytes x.left x.right ++ (big_bytes 8 x.r ++ (listed 8 pair_bytes x.answers ++ (listed 8 join_record_bytes x.records ++ rest)))) = append_assoc (join_opening_bytes) (trees_bytes x.left x.right ++ (big_bytes 8 x.r ++ (listed 8 pair_bytes x.answers ++ (listed 8 join_record_bytes x.records)))) rest ∙ ap (λ (t : List ℕ). join_opening_bytes ++ t) (append_assoc (trees_bytes x.left x.right) (big_bytes 8 x.r ++ (listed 8 pair_bytes x.answers ++ (listed 8 join_record_bytes x.records))) rest ∙ ap (λ (t : List ℕ). trees_bytes x.left x.right ++ t) (append_assoc (big_bytes 8 x.r) (listed 8 pair_bytes x.answers ++ (listed 8 join_record_bytes x.records)) rest ∙ ap (λ (t : List ℕ). big_bytes 8 x.r ++ t) (append_assoc (listed 8 pair_bytes x.answers) (listed 8 join_record_bytes x.records) rest))) in
    ap (join_log_at) regrouped ∙ rw (join_opening_again (trees_bytes x.left x.right ++ (big_bytes 8 x.r ++ (listed 8 pair_bytes x.answers ++ (listed 8 join_record_bytes x.records ++ rest)))), trees_reader.again (x.left, x.right) (big_bytes 8 x.r ++ (listed 8 pair_bytes x.answers ++ (listed 8 join_record_bytes x.records ++ rest))) (record { left = record { generation = fits.in_range.left_generation; root = fits.in_range.left_root }; right = record { generation = fits.in_range.right_generation; root = fits.in_range.right_root } }), (number_reader 8 (2 ^ 64) wide64).again x.r (listed 8 pair_bytes x.answers ++ (listed 8 join_record_bytes x.records ++ rest)) fits.in_range.r, pairs_reader.again x.answers (listed 8 join_record_bytes x.records ++ rest) (record { few = fits.valid.few_answers; each = fits.in_range.answers; chain = pairs_chain x.answers fits.valid.answers_ascend }), join_records_reader.again x.records rest (record { few = fits.valid.few_records; each = each_both (λ r. r.page < 2 ^ 32) (λ r. length r.marks ≤ 32) IsJoinRecord (λ r page few. record { page = page; few = few }) x.records fits.in_range.pages fits.valid.few_marks; chain = chain_always None x.records })) refl

pub join_log_reader : IsReader IsJoinLog join_log_bytes join_log_at
join_log_reader = record { takes = join_log_takes; again = join_log_again }
