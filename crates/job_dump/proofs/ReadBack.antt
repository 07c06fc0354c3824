-- A script of rows is read as one load of them.
use Rattle.std.proofs.Common.{◌≡◌, ℕ, zero, suc, ◌+◌, ◌<◌, ◌≤◌, ◌^◌, List, [], ◌∷◌, ◌++◌, Option, Some, None, map, length, refl, sym, ap, ◌∙◌, arith, length-append}
use Rattle.std.specs.Prelude.{codes, decimal, filter_map, flat_map}
use Rattle.std.specs.List.{AllByRecursion, position_from}
use Rattle.std.specs.Option.{is_none}
use Rattle.std.proofs.lemmas.Bool.{eq-eqb, le-ltb, ne_eqb}
use Rattle.std.proofs.lemmas.List.{append-nil, length-map, take_all}
use Rattle.csv.specs.Machine.{Read, next_record}
use Rattle.csv.specs.Reading.{default_config, records, records_from, strip_bom}
use Rattle.csv.specs.Writing.{default_writer, field_text, fields_text, row_text, is_blank as is_blank_row}
use Rattle.csv.specs.declared.parser.State.TheVariants as st
use Rattle.csv.proofs.RoundTrip.{read-write-many}
use Rattle.rows_text.specs.Records.{Fields, script_records, without_blanks}
use Rattle.rows_text.specs.Script.{command_of, commands_after, load_tagged, rows_used, tag_row_of}
use Rattle.rows_text.specs.Texts.{coordinates_text, counted, line_end}
use Rattle.job_dump.specs.Laws.{IsRow, ScriptsReadBack}
use Rattle.job_dump.specs.Scripts.{row_line, script_text}
use Rattle.job_dump.proofs.Digits.{number_plain, number_read, number_shown, point_read, point_shown, point_text}

abbrev Row : Type 0
Row = ℕ × List ℕ

-- the fields of a row, and of the head of a script
abbrev row_fields : Row → Fields
row_fields row = decimal row.0 ∷ map decimal row.1

abbrev head_fields : ℕ → Fields
head_fields count = codes "tload" ∷ decimal count ∷ []

-- ---- the lines are records

abbrev reads : List ℕ → Option Read
reads text = next_record default_config st.StartRecord [] [] text

-- a line is the text of a record of several fields
many_text : (x y : List ℕ) (ys : List (List ℕ)) → row_text default_writer (x ∷ y ∷ ys) ≡ (field_text default_writer x ++ fields_text default_writer (y ∷ ys)) ++ line_end
unfolding is_blank_row
many_text x y ys = refl

line_reads : (dimension : ℕ) (row : Row) (tail : List ℕ) → 1 ≤ dimension → IsRow dimension row → reads (row_line row ++ tail) ≡ Some (row_fields row, st.StartRecord, tail)
line_reads dimension row tail some is = from row.1 is.long is.small
  where
    from : (xs : List ℕ) → length xs ≡ dimension → AllByRecursion (λ x. x < 2 ^ 32) xs → reads (row_line (row.0, xs) ++ tail) ≡ Some (decimal row.0 ∷ map decimal xs, st.StartRecord, tail)
    from [] long small = absurd (omega arith)
    from (x ∷ xs) long small =
        let text : row_text default_writer (decimal row.0 ∷ map decimal (x ∷ xs)) ≡ row_line (row.0, x ∷ xs) =
        many_text (decimal row.0) (decimal x) (map decimal xs)
        ∙ ap (λ (l : List ℕ). (l ++ fields_text default_writer (map decimal (x ∷ xs))) ++ line_end) (number_plain row.0 is.tag)
        ∙ ap (λ (l : List ℕ). (decimal row.0 ++ l) ++ line_end) (point_text (x ∷ xs) small) in
        ap (λ (l : List ℕ). reads (l ++ tail)) (sym text) ∙ read-write-many (decimal row.0) (decimal x) (map decimal xs) tail

head_reads : (count : ℕ) (tail : List ℕ) → count < 2 ^ 64 → reads (counted (codes "tload,") count ++ tail) ≡ Some (head_fields count, st.StartRecord, tail)
unfolding fields_text
head_reads count tail low =
    let number : field_text default_writer (decimal count) ++ [] ≡ decimal count = append-nil (field_text default_writer (decimal count)) ∙ number_plain count low in
    let text : row_text default_writer (head_fields count) ≡ counted (codes "tload,") count =
    many_text (codes "tload") (decimal count) [] ∙ ap (λ (l : List ℕ). (codes "tload" ++ 44 ∷ l) ++ line_end) number in
    ap (λ (l : List ℕ). reads (l ++ tail)) (sym text) ∙ read-write-many (codes "tload") (decimal count) [] tail

-- the records of lines
line_records : (dimension : ℕ) (rows : List Row) (n : ℕ) → 1 ≤ dimension → AllByRecursion (IsRow dimension) rows → length rows ≤ n → records_from default_config n st.StartRecord (flat_map row_line rows) ≡ map row_fields rows
unfolding records_from next_record
line_records dimension [] zero some all long = refl
line_records dimension [] (suc n) some all long = refl
line_records dimension (row ∷ rows) zero some all long = absurd (omega arith)
line_records dimension (row ∷ rows) (suc n) some all long =
    rw (line_reads dimension row (flat_map row_line rows) some all.0) (ap (λ (t : List Fields). row_fields row ∷ t) (line_records dimension rows n some all.1 (omega arith)))

-- each line has a byte
lines_long : (rows : List Row) → length rows ≤ length (flat_map row_line rows)
lines_long [] = omega arith
lines_long (row ∷ rows) =
    let rest = lines_long rows in
    let all = length-append (row_line row) (flat_map row_line rows) in
    let one = length-append (decimal row.0 ++ coordinates_text row.1) line_end in
    omega arith

whole_records : (dimension count : ℕ) (rows : List Row) → 1 ≤ dimension → count < 2 ^ 64 → AllByRecursion (IsRow dimension) rows →
    records default_config (counted (codes "tload,") count ++ flat_map row_line rows) ≡ head_fields count ∷ map row_fields rows
unfolding records_from
whole_records dimension count rows some low all =
    let text : List ℕ = counted (codes "tload,") count ++ flat_map row_line rows in
    let next : length text + 1 ≡ suc (length text) = omega arith in
    let long = lines_long rows in
    let size = length-append (counted (codes "tload,") count) (flat_map row_line rows) in
    ap (λ (n : ℕ). records_from default_config n st.StartRecord text) next
    ∙ rw (head_reads count (flat_map row_line rows) low) (ap (λ (t : List Fields). head_fields count ∷ t) (line_records dimension rows (length text) some all (omega arith)))

no_bom : (count : ℕ) (rest : List ℕ) → strip_bom (counted (codes "tload,") count ++ rest) ≡ counted (codes "tload,") count ++ rest
unfolding strip_bom
no_bom count rest = refl

-- ---- without blanks

rows_shown : (dimension : ℕ) (rows : List Row) → AllByRecursion (IsRow dimension) rows → map (λ fields. map without_blanks fields) (map row_fields rows) ≡ map row_fields rows
rows_shown dimension [] all = refl
rows_shown dimension (row ∷ rows) all =
    let here : map without_blanks (row_fields row) ≡ row_fields row =
    ap (λ (l : List ℕ). l ∷ map without_blanks (map decimal row.1)) (number_shown row.0 all.0.tag) ∙ ap (λ (l : Fields). decimal row.0 ∷ l) (point_shown row.1 all.0.small) in
    ap (λ (l : Fields). l ∷ map (λ fields. map without_blanks fields) (map row_fields rows)) here ∙ ap (λ (l : List Fields). row_fields row ∷ l) (rows_shown dimension rows all.1)

head_shown : (count : ℕ) → count < 2 ^ 64 → map without_blanks (head_fields count) ≡ head_fields count
head_shown count low = ap (λ (l : List ℕ). codes "tload" ∷ l ∷ []) (number_shown count low)

-- ---- the rows of a load

row_read : (dimension : ℕ) (row : Row) → IsRow dimension row → tag_row_of dimension (row_fields row) ≡ Some row
row_read dimension row is =
    let tag = number_read (2 ^ 64) row.0 is.tag (omega arith) in
    let long = eq-eqb (length (map decimal row.1)) dimension (length-map row.1 decimal ∙ is.long) in
    let point = point_read row.1 is.small in
    rw (tag, long, point) refl

rows_read : (dimension : ℕ) (rows : List Row) → AllByRecursion (IsRow dimension) rows → filter_map (tag_row_of dimension) (map row_fields rows) ≡ rows
rows_read dimension [] all = refl
rows_read dimension (row ∷ rows) all = rw (row_read dimension row all.0) (ap (λ (l : List Row). row ∷ l) (rows_read dimension rows all.1))

none_bad : (dimension i : ℕ) (rows : List Row) → AllByRecursion (IsRow dimension) rows → position_from (λ fields. is_none (tag_row_of dimension fields)) i (map row_fields rows) ≡ None
none_bad dimension i [] all = refl
none_bad dimension i (row ∷ rows) all = rw (row_read dimension row all.0) (none_bad dimension (i + 1) rows all.1)

-- the records of the rows start no command
none_after : (dimension : ℕ) (recs : List Fields) (n : ℕ) → n ≡ length recs → commands_after dimension n recs ≡ []
none_after dimension [] n is = refl
none_after dimension (r ∷ recs) zero is = absurd (omega arith)
none_after dimension (r ∷ recs) (suc n) is = none_after dimension recs n (omega arith)

load_is : (dimension count : ℕ) (rows : List Row) → 1 ≤ count → count ≡ length rows → count < 2 ^ 64 → AllByRecursion (IsRow dimension) rows → command_of dimension (head_fields count) (map row_fields rows) ≡ load_tagged dimension rows
load_is dimension count rows some long low all =
    let number = number_read (2 ^ 64) count low (omega arith) in
    let other = ne_eqb count 0 (λ e. omega arith) in
    let size = length-map rows row_fields in
    let enough = le-ltb (length (map row_fields rows)) count (omega arith) in
    let front = take_all count (map row_fields rows) (omega arith) in
    let read = rows_read dimension rows all in
    let none = none_bad dimension 0 rows all in
    rw (number, other, enough, front, read, none) refl

load_reads : (dimension count : ℕ) (rows : List Row) → 1 ≤ count → count ≡ length rows → count < 2 ^ 64 → AllByRecursion (IsRow dimension) rows →
    commands_after dimension 0 (head_fields count ∷ map row_fields rows) ≡ load_tagged dimension rows ∷ []
load_reads dimension count rows some long low all =
    let number = number_read (2 ^ 64) count low (omega arith) in
    let used : rows_used (head_fields count) ≡ count = rw number refl in
    let size = length-map rows row_fields in
    ap (λ c. c ∷ commands_after dimension (rows_used (head_fields count)) (map row_fields rows)) (load_is dimension count rows some long low all)
    ∙ ap (λ (n : ℕ). load_tagged dimension rows ∷ commands_after dimension n (map row_fields rows)) used
    ∙ ap (λ l. load_tagged dimension rows ∷ l) (none_after dimension (map row_fields rows) count (omega arith))

pub scripts_read_back : ScriptsReadBack
scripts_read_back dimension row rows some low all =
    let every : List Row = row ∷ rows in
    let count : ℕ = length every in
    let shown : script_records (script_text every) ≡ head_fields count ∷ map row_fields every =
    ap (λ (l : List ℕ). map (λ fields. map without_blanks fields) (records default_config l)) (no_bom count (flat_map row_line every))
    ∙ ap (map (λ fields. map without_blanks fields)) (whole_records dimension count every some low all)
    ∙ ap (λ (l : Fields). l ∷ map (λ fields. map without_blanks fields) (map row_fields every)) (head_shown count low)
    ∙ ap (λ (l : List Fields). head_fields count ∷ l) (rows_shown dimension every all) in
    ap (commands_after dimension 0) shown ∙ load_reads dimension count every (omega arith) refl low all
