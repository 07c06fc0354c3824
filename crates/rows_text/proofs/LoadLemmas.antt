-- The records of a load, one after another.
use Rattle.std.proofs.Common.{◌≡◌, ◌+◌, ◌^◌, Bool, ℕ, suc, List, [], ◌∷◌, ◌++◌, length, take, map, filter_map, Option, Some, None, true, false, inl, inr, refl, sym, ◌∙◌, ap, if◌then◌else◌, arith}
use Rattle.std.specs.Prelude.{MatchBool, nat_lt}
use Rattle.std.specs.Option.{option_map}
use Rattle.std.proofs.lemmas.Bool.{cases_Bool, lt-ltb, le-ltb, ltb-true, ltb-false}
use Rattle.std.proofs.lemmas.List.{append_assoc, length_push}
use Rattle.std.proofs.lemmas.Option.{option_and_then_some}
use Rattle.metric_laws.specs.Rows.{Table}
use Rattle.rows_text.specs.Numbers.{number_below, coordinates}
use Rattle.rows_text.specs.Records.{Fields}
use Rattle.rows_text.specs.declared.command.Command.{Command}
use Rattle.rows_text.specs.declared.command.Command.TheVariants as command
use Rattle.rows_text.specs.declared.load.OpenLoad.{OpenLoad}
use Rattle.rows_text.specs.Script.{row_of, tag_row_of}
use Rattle.rows_text.specs.Reading.{AddsPoint, AddsRow, AddsTagged, TakesRecord, goes_on, one_more}

map_some : {A B P : Type 0} (f : A → B) (o : Option A) (y : B) → option_map f o ≡ Some y → ((x : A) → o ≡ Some x → f x ≡ y → P) → P
map_some f None y is make = let never : ⊥ = cc is in absurd never
map_some f (Some x) y is make = make x refl (cc is)

-- as many coordinates as texts
pub coordinates_long : (texts : List (List ℕ)) (p : List ℕ) → coordinates texts ≡ Some p → length p ≡ length texts
coordinates_long [] p is = let empty : [] ≡ p = cc is in rw (← empty) refl
coordinates_long (text ∷ texts) p is =
    option_and_then_some (λ x. option_map (λ xs. x ∷ xs) (coordinates texts)) (number_below (2 ^ 32) text) p is (λ x first rest.
    map_some (λ xs. x ∷ xs) (coordinates texts) p rest (λ xs others whole.
    let more = coordinates_long texts xs others in
    rw (← whole) (omega arith)))

-- as many records are wanting after one more
lt_more : (a b : ℕ) → nat_lt (suc a) (suc b) ≡ nat_lt a b
lt_more a b = elim (cases_Bool (nat_lt a b)) [
  | inl less ↦ let below = ltb-true a b less in lt-ltb (suc a) (suc b) (omega arith) ∙ sym less
  | inr other ↦ let above = ltb-false a b other in le-ltb (suc a) (suc b) (omega arith) ∙ sym other
]

-- a row that can be read
goes_on_good : {R : Type 0} (row : Fields → Option R) (make make2 : List R → Command) (r : R) (i left : ℕ) (fields : Fields) (after : List Fields) →
    row fields ≡ Some r → ((more : List R) → make2 more ≡ make (r ∷ more)) →
    goes_on row make2 None (i + 1) left after ≡ goes_on row make None i (suc left) (fields ∷ after)
goes_on_good row make make2 r i left fields after is more =
    rw (lt_more (length after) left, is, more (filter_map row (take left after))) refl

-- the first record that is no row
goes_on_bad : {R : Type 0} (row : Fields → Option R) (make make2 : List R → Command) (i i2 left : ℕ) (fields : Fields) (after : List Fields) →
    row fields ≡ None → goes_on row make2 (Some i) i2 left after ≡ goes_on row make None i (suc left) (fields ∷ after)
goes_on_bad row make make2 i i2 left fields after is =
    rw (lt_more (length after) left, is) refl

-- a record after that
goes_on_stays : {R : Type 0} (row : Fields → Option R) (make make2 : List R → Command) (place i i2 left : ℕ) (fields : Fields) (after : List Fields) →
    goes_on row make2 (Some place) i2 left after ≡ goes_on row make (Some place) i (suc left) (fields ∷ after)
goes_on_stays row make make2 place i i2 left fields after =
    rw (lt_more (length after) left) refl

-- a load with `more` rows
abbrev made_points : Table → List (List ℕ) → Command
made_points rows more = command.Load (record rows { points = rows.points ++ more })

abbrev made_tagged : List ℕ → Table → List (ℕ × List ℕ) → Command
made_tagged tags rows more = command.TagLoad (tags ++ map (λ row. row.0) more) (record rows { points = rows.points ++ map (λ row. row.1) more })

-- the command of an open load, by its parts
abbrev pub end_by : Bool → ℕ → List ℕ → Table → Option ℕ → ℕ → List Fields → Command
end_by tagged dimension tags rows bad left after =
    if tagged then goes_on (tag_row_of dimension) (made_tagged tags rows) bad (length rows.points) left after
    else goes_on (row_of dimension) (made_points rows) bad (length rows.points) left after

more_points : (dimension : ℕ) (tags : List ℕ) (rows : Table) (p : List ℕ) (left : ℕ) (fields : Fields) (after : List Fields) → row_of dimension fields ≡ Some p →
    end_by false dimension tags (one_more rows p) None left after ≡ end_by false dimension tags rows None (suc left) (fields ∷ after)
more_points dimension tags rows p left fields after is =
    ap (λ (n : ℕ). goes_on (row_of dimension) (made_points (one_more rows p)) None n left after) (length_push rows.points p)
    ∙ goes_on_good (row_of dimension) (made_points rows) (made_points (one_more rows p)) p (length rows.points) left fields after is
    (λ more i. command.Load (record rows { points = append_assoc rows.points (p ∷ []) more i }))

more_tagged : (dimension : ℕ) (tags : List ℕ) (rows : Table) (r : ℕ × List ℕ) (left : ℕ) (fields : Fields) (after : List Fields) → tag_row_of dimension fields ≡ Some r →
    end_by true dimension (tags ++ r.0 ∷ []) (one_more rows r.1) None left after ≡ end_by true dimension tags rows None (suc left) (fields ∷ after)
more_tagged dimension tags rows r left fields after is =
    ap (λ (n : ℕ). goes_on (tag_row_of dimension) (made_tagged (tags ++ r.0 ∷ []) (one_more rows r.1)) None n left after) (length_push rows.points r.1)
    ∙ goes_on_good (tag_row_of dimension) (made_tagged tags rows) (made_tagged (tags ++ r.0 ∷ []) (one_more rows r.1)) r (length rows.points) left fields after is
    (λ more i. command.TagLoad (append_assoc tags (r.0 ∷ []) (map (λ row. row.0) more) i) (record rows { points = append_assoc rows.points (r.1 ∷ []) (map (λ row. row.1) more) i }))

stays_by : (tagged : Bool) (dimension : ℕ) (tags : List ℕ) (rows : Table) (place left : ℕ) (fields : Fields) (after : List Fields) →
    end_by tagged dimension tags rows (Some place) left after ≡ end_by tagged dimension tags rows (Some place) (suc left) (fields ∷ after)
stays_by true dimension tags rows place left fields after =
    goes_on_stays (tag_row_of dimension) (made_tagged tags rows) (made_tagged tags rows) place (length rows.points) (length rows.points) left fields after
stays_by false dimension tags rows place left fields after =
    goes_on_stays (row_of dimension) (made_points rows) (made_points rows) place (length rows.points) (length rows.points) left fields after

-- a record of a load spells no row: no tag with a point in a tload, and no point in a load
abbrev bad_row : Bool → ℕ → Fields → Type 0
bad_row true dimension fields = tag_row_of dimension fields ≡ None
bad_row false dimension fields = row_of dimension fields ≡ None

bad_by : (tagged : Bool) (dimension : ℕ) (tags : List ℕ) (rows : Table) (left : ℕ) (fields : Fields) (after : List Fields) → bad_row tagged dimension fields →
    end_by tagged dimension tags rows (Some (length rows.points)) left after ≡ end_by tagged dimension tags rows None (suc left) (fields ∷ after)
bad_by true dimension tags rows left fields after is =
    goes_on_bad (tag_row_of dimension) (made_tagged tags rows) (made_tagged tags rows) (length rows.points) (length rows.points) left fields after is
bad_by false dimension tags rows left fields after is =
    goes_on_bad (row_of dimension) (made_points rows) (made_points rows) (length rows.points) (length rows.points) left fields after is

left_more : (left all : ℕ) → left + 1 ≡ all → suc left ≡ all
left_more left all is = omega arith

-- one record is read, where the parts of the load before and after it make the same
takes : (old new : OpenLoad) (fields : Fields) (tags : List ℕ) (rows : Table) (bad was : Option ℕ) →
    new.left + 1 ≡ old.left → new.tagged ≡ old.tagged → new.dimension ≡ old.dimension → new.tags.items ≡ tags → new.rows ≡ rows → new.bad ≡ bad → old.bad ≡ was →
    ((after : List Fields) → end_by old.tagged old.dimension tags rows bad new.left after ≡ end_by old.tagged old.dimension old.tags.items old.rows was (suc new.left) (fields ∷ after)) →
    TakesRecord old new fields
takes old new fields tags rows bad was left tagged dimension tags_are rows_are bad_is was_is step = record {
  left = left;
  end = λ after. (λ i. end_by (tagged i) (dimension i) (tags_are i) (rows_are i) (bad_is i) new.left after)
      ∙ step after
      ∙ (λ i. end_by old.tagged old.dimension old.tags.items old.rows (sym was_is i) (left_more new.left old.left left i) (fields ∷ after));
}

-- a record after one that is no row
pub takes_more : (old : OpenLoad) (fields : Fields) (left place : ℕ) → old.bad ≡ Some place → left + 1 ≡ old.left → TakesRecord old (record old { left = left }) fields
takes_more old fields left place bad is =
    takes old (record old { left = left }) fields old.tags.items old.rows (Some place) (Some place) is refl refl refl refl bad bad
    (stays_by old.tagged old.dimension old.tags.items old.rows place left fields)

-- the parts of an open load that reading a row leaves as they were
record Same (old mid : OpenLoad) (left : ℕ) : Type 0 where
  dimension : mid.dimension ≡ old.dimension
  tagged : mid.tagged ≡ old.tagged
  left_is : mid.left ≡ left
  bad : mid.bad ≡ old.bad

-- the tags and the table after a record, by whether it is a row
abbrev Held : Bool → OpenLoad → OpenLoad → Fields → Bool → Type 0
Held true old mid fields found = AddsTagged (tag_row_of old.dimension fields) old.tags.items old.rows mid found
Held false old mid fields found = AddsPoint (row_of old.dimension fields) old.tags.items old.rows mid found

-- a record that is a row
good_by : (old mid : OpenLoad) (fields : Fields) (left : ℕ) (tagged : Bool) → old.tagged ≡ tagged → old.bad ≡ None → left + 1 ≡ old.left → Same old mid left →
    Held tagged old mid fields true → TakesRecord old mid fields
good_by old mid fields left true tag bad is same adds = by (tag_row_of old.dimension fields) refl adds
  where
    by : (o : Option (ℕ × List ℕ)) → tag_row_of old.dimension fields ≡ o → AddsTagged o old.tags.items old.rows mid true → TakesRecord old mid fields
    by None row add = let never : true ≡ false = add.0 in absurd (cc never)
    by (Some r) row add =
        takes old mid fields (old.tags.items ++ r.0 ∷ []) (one_more old.rows r.1) None None (ap (λ (n : ℕ). n + 1) same.left_is ∙ is) same.tagged same.dimension add.1 add.2 (same.bad ∙ bad) bad
        (λ after. (λ i. end_by (tag i) old.dimension (old.tags.items ++ r.0 ∷ []) (one_more old.rows r.1) None mid.left after)
        ∙ more_tagged old.dimension old.tags.items old.rows r mid.left fields after row
        ∙ (λ i. end_by (sym tag i) old.dimension old.tags.items old.rows None (suc mid.left) (fields ∷ after)))
good_by old mid fields left false tag bad is same adds = by (row_of old.dimension fields) refl adds
  where
    by : (o : Option (List ℕ)) → row_of old.dimension fields ≡ o → AddsPoint o old.tags.items old.rows mid true → TakesRecord old mid fields
    by None row add = let never : true ≡ false = add.0 in absurd (cc never)
    by (Some p) row add =
        takes old mid fields old.tags.items (one_more old.rows p) None None (ap (λ (n : ℕ). n + 1) same.left_is ∙ is) same.tagged same.dimension add.1 add.2 (same.bad ∙ bad) bad
        (λ after. (λ i. end_by (tag i) old.dimension old.tags.items (one_more old.rows p) None mid.left after)
        ∙ more_points old.dimension old.tags.items old.rows p mid.left fields after row
        ∙ (λ i. end_by (sym tag i) old.dimension old.tags.items old.rows None (suc mid.left) (fields ∷ after)))

-- a record that is no row leaves the tags and the table
none_by : (old mid : OpenLoad) (fields : Fields) (tagged : Bool) → Held tagged old mid fields false →
    bad_row tagged old.dimension fields × (mid.tags.items ≡ old.tags.items) × (mid.rows ≡ old.rows)
none_by old mid fields true adds = by (tag_row_of old.dimension fields) refl adds
  where
    by : (o : Option (ℕ × List ℕ)) → tag_row_of old.dimension fields ≡ o → AddsTagged o old.tags.items old.rows mid false →
        (tag_row_of old.dimension fields ≡ None) × (mid.tags.items ≡ old.tags.items) × (mid.rows ≡ old.rows)
    by None row add = (row, add.1, add.2)
    by (Some r) row add = let never : false ≡ true = add.0 in absurd (cc never)
none_by old mid fields false adds = by (row_of old.dimension fields) refl adds
  where
    by : (o : Option (List ℕ)) → row_of old.dimension fields ≡ o → AddsPoint o old.tags.items old.rows mid false →
        (row_of old.dimension fields ≡ None) × (mid.tags.items ≡ old.tags.items) × (mid.rows ≡ old.rows)
    by None row add = (row, add.1, add.2)
    by (Some p) row add = let never : false ≡ true = add.0 in absurd (cc never)

held : (old mid : OpenLoad) (fields : Fields) (found tagged : Bool) →
    MatchBool tagged (AddsTagged (tag_row_of old.dimension fields) old.tags.items old.rows mid found) (AddsPoint (row_of old.dimension fields) old.tags.items old.rows mid found) → Held tagged old mid fields found
held old mid fields found true adds = adds
held old mid fields found false adds = adds

pub takes_good : (old mid : OpenLoad) (fields : Fields) (left : ℕ) → old.bad ≡ None → left + 1 ≡ old.left →
    mid.dimension ≡ old.dimension → mid.tagged ≡ old.tagged → mid.left ≡ left → mid.bad ≡ old.bad → AddsRow old mid fields true → TakesRecord old mid fields
takes_good old mid fields left bad is dimension tagged left_is bad_stays adds =
    good_by old mid fields left old.tagged refl bad is (record { dimension = dimension; tagged = tagged; left_is = left_is; bad = bad_stays }) (held old mid fields true old.tagged adds)

-- the first record of a load that is no row
pub takes_bad : (old mid new : OpenLoad) (fields : Fields) (left place : ℕ) → old.bad ≡ None → left + 1 ≡ old.left → place ≡ length old.rows.points →
    mid.dimension ≡ old.dimension → mid.tagged ≡ old.tagged → mid.left ≡ left → AddsRow old mid fields false →
    new.dimension ≡ mid.dimension → new.tagged ≡ mid.tagged → new.left ≡ mid.left → new.bad ≡ Some place → new.tags.items ≡ mid.tags.items → new.rows ≡ mid.rows →
    TakesRecord old new fields
takes_bad old mid new fields left place bad is place_is dimension tagged left_is adds new_words new_tagged new_left new_bad new_tags new_rows =
    let none = none_by old mid fields old.tagged (held old mid fields false old.tagged adds) in
    takes old new fields old.tags.items old.rows (Some (length old.rows.points)) None (ap (λ (n : ℕ). n + 1) (new_left ∙ left_is) ∙ is) (new_tagged ∙ tagged) (new_words ∙ dimension)
    (new_tags ∙ none.1) (new_rows ∙ none.2) (new_bad ∙ ap (λ (n : ℕ). Some n) place_is) bad
    (λ after. bad_by old.tagged old.dimension old.tags.items old.rows new.left fields after none.0)
