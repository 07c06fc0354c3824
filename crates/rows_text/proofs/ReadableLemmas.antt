-- What every command of a script has.
use Rattle.std.proofs.Common.{◌≡◌, ◌<◌, ◌≤◌, ◌+◌, ◌==◌, ◌^◌, Bool, ℕ, zero, suc, List, [], ◌∷◌, length, take, filter_map, Option, Some, None, Result, Ok, Err, true, false, refl, sym, ◌∙◌, subst, if◌then◌else◌, arith}
use Rattle.std.specs.Prelude.{All, codes, nat_lt}
use Rattle.std.specs.Cmp.{unsigned_Decides}
use Rattle.std.specs.List.{position_from}
use Rattle.std.specs.Option.{is_none}
use Rattle.std.specs.Result.{IfOk}
use Rattle.std.specs.Str.{bytes_eq}
use Rattle.std.proofs.lemmas.Bool.{ltb-false}
use Rattle.std.proofs.lemmas.List.{length-map, length-take}
use Rattle.rows_text.specs.Numbers.{number_below, coordinates}
use Rattle.rows_text.specs.Records.{Fields}
use Rattle.rows_text.specs.declared.command.Command.{Command}
use Rattle.rows_text.specs.declared.command.Command.TheVariants as command
use Rattle.rows_text.specs.Readable.{IsReadable}
use Rattle.rows_text.specs.Script.{close_of, command_of, commands_after, count_of, cursor_of, insert_of, load_of, load_points, load_tagged, nearest_from, nearest_of, next_from, next_of, or_row, range_of, row_of, rows_used, single_of, tag_insert_of, tag_row_of, with_number}
use Rattle.rows_text.proofs.LoadLemmas.{coordinates_long}

by_if : (dimension : ℕ) (b : Bool) (c d : Command) → (b ≡ true → IsReadable dimension c) → (b ≡ false → IsReadable dimension d) → IsReadable dimension (if b then c else d)
by_if dimension true c d first second = first refl
by_if dimension false c d first second = second refl

by_number : {X : Type 0} (dimension : ℕ) (make : X → Command) (o : Option X) → ((x : X) → o ≡ Some x → IsReadable dimension (make x)) → IsReadable dimension (with_number make o)
by_number dimension make None each = tt
by_number dimension make (Some x) each = each x refl

by_point : (dimension : ℕ) (make : List ℕ → Command) (fields : Fields) → (length fields == dimension) ≡ true → ((p : List ℕ) → length p ≡ dimension → IsReadable dimension (make p)) →
    IsReadable dimension (with_number make (coordinates fields))
by_point dimension make fields same each =
    by_number dimension make (coordinates fields) (λ p is. each p (coordinates_long fields p is ∙ (unsigned_Decides (length fields) dimension).0 same))

some_from : (n : ℕ) → (n == 0) ≡ false → 1 ≤ n
some_from n other = grind arith

insert_readable : (dimension : ℕ) (fields : Fields) → IsReadable dimension (insert_of dimension fields)
insert_readable dimension fields = by_if dimension (length fields == dimension) _ _ (λ same. by_point dimension (λ p. command.Insert p) fields same (λ p long. long)) (λ other. tt)

cursor_readable : (dimension : ℕ) (fields : Fields) → IsReadable dimension (cursor_of dimension fields)
cursor_readable dimension fields = by_if dimension (length fields == dimension) _ _ (λ same. by_point dimension (λ q. command.Cursor q) fields same (λ q long. long)) (λ other. tt)

range_readable : (dimension : ℕ) (fields : Fields) → IsReadable dimension (range_of dimension fields)
range_readable dimension [] = tt
range_readable dimension (radius ∷ fields) =
    by_if dimension (length fields == dimension) _ _ (λ same. by_number dimension _ (number_below (2 ^ 64) radius) (λ r is.
    by_point dimension (λ q. command.Range r q) fields same (λ q long. long))) (λ other. tt)

tag_insert_readable : (dimension : ℕ) (fields : Fields) → IsReadable dimension (tag_insert_of dimension fields)
tag_insert_readable dimension [] = tt
tag_insert_readable dimension (tag ∷ fields) =
    by_if dimension (length fields == dimension) _ _ (λ same. by_number dimension _ (number_below (2 ^ 64) tag) (λ t is.
    by_point dimension (λ p. command.TagInsert t p) fields same (λ p long. long))) (λ other. tt)

nearest_readable : (dimension : ℕ) (fields : Fields) → IsReadable dimension (nearest_of dimension fields)
nearest_readable dimension [] = tt
nearest_readable dimension (number ∷ fields) =
    by_if dimension (length fields == dimension) _ _ (λ same. by_number dimension _ (number_below (2 ^ 64) number) (λ k is.
    by_point dimension (nearest_from k) fields same (λ q long. by_if dimension (k == 0) _ _ (λ none. tt) (λ some. (long, some_from k some))))) (λ other. tt)

next_readable : (dimension : ℕ) (fields : Fields) → IsReadable dimension (next_of fields)
next_readable dimension [] = tt
next_readable dimension (cursor ∷ []) = tt
next_readable dimension (cursor ∷ number ∷ []) =
    by_number dimension _ (number_below (2 ^ 32) cursor) (λ k is. by_number dimension (next_from k) (number_below (2 ^ 64) number) (λ n spelt.
    by_if dimension (n == 0) _ _ (λ none. tt) (λ some. some_from n some)))
next_readable dimension (cursor ∷ number ∷ more ∷ fields) = tt

close_readable : (dimension : ℕ) (fields : Fields) → IsReadable dimension (close_of fields)
close_readable dimension [] = tt
close_readable dimension (cursor ∷ []) = by_number dimension (λ k. command.Close k) (number_below (2 ^ 32) cursor) (λ k is. tt)
close_readable dimension (cursor ∷ more ∷ fields) = tt

count_readable : (dimension : ℕ) (fields : Fields) → IsReadable dimension (count_of fields)
count_readable dimension [] = tt
count_readable dimension (field ∷ fields) = tt

single_readable : (dimension : ℕ) (fields : Fields) → IsReadable dimension (single_of dimension fields)
single_readable dimension [] = tt
single_readable dimension (name ∷ fields) =
    by_if dimension (bytes_eq name (codes "insert")) _ _ (λ is. insert_readable dimension fields) (λ other.
    by_if dimension (bytes_eq name (codes "range")) _ _ (λ is. range_readable dimension fields) (λ other2.
    by_if dimension (bytes_eq name (codes "nearest")) _ _ (λ is. nearest_readable dimension fields) (λ other3.
    by_if dimension (bytes_eq name (codes "tinsert")) _ _ (λ is. tag_insert_readable dimension fields) (λ other4.
    by_if dimension (bytes_eq name (codes "cursor")) _ _ (λ is. cursor_readable dimension fields) (λ other5.
    by_if dimension (bytes_eq name (codes "next")) _ _ (λ is. next_readable dimension fields) (λ other6.
    by_if dimension (bytes_eq name (codes "close")) _ _ (λ is. close_readable dimension fields) (λ other7.
    by_if dimension (bytes_eq name (codes "count")) _ _ (λ is. count_readable dimension fields) (λ other8. tt))))))))

-- where no row is bad, each gives a value
all_rows_step : {R : Type 0} (row : Fields → Option R) (i : ℕ) (fields : Fields) (rows : List Fields) (o : Option R) → row fields ≡ o →
    (position_from (λ f. is_none (row f)) (i + 1) rows ≡ None → length (filter_map row rows) ≡ length rows) →
    position_from (λ f. is_none (row f)) i (fields ∷ rows) ≡ None → length (filter_map row (fields ∷ rows)) ≡ length (fields ∷ rows)
all_rows_step row i fields rows None is more none = let never : Some i ≡ None = rw is at none in absurd (cc never)
all_rows_step row i fields rows (Some r) is more none = let rest = more (rw is at none) in rw is (omega arith)

all_rows : {R : Type 0} (row : Fields → Option R) (i : ℕ) (rows : List Fields) → position_from (λ fields. is_none (row fields)) i rows ≡ None →
    length (filter_map row rows) ≡ length rows
all_rows row i [] none = refl
all_rows row i (fields ∷ rows) none = all_rows_step row i fields rows (row fields) refl (all_rows row (i + 1) rows) none

load_readable : {R : Type 0} (dimension : ℕ) (row : Fields → Option R) (make : List R → Command) (after : List Fields) (fields : Fields) →
    ((rows : List R) → 0 < length rows → IsReadable dimension (make rows)) → IsReadable dimension (load_of row make after fields)
load_readable dimension row make after [] each = tt
load_readable {R} dimension row make after (number ∷ []) each =
    by_number dimension _ (number_below (2 ^ 64) number) (λ n is. by_if dimension (n == 0) _ _ (λ none. tt) (λ some.
    by_if dimension (nat_lt (length after) n) _ _ (λ short. tt) (λ enough. by n some enough (position_from (λ fields. is_none (row fields)) 0 (take n after)) refl)))
  where
    by : (n : ℕ) → (n == 0) ≡ false → nat_lt (length after) n ≡ false → (o : Option ℕ) → position_from (λ fields. is_none (row fields)) 0 (take n after) ≡ o →
        IsReadable dimension (or_row (make (filter_map row (take n after))) o)
    by n some enough (Some i) is = tt
    by n some enough None is =
        let all = all_rows row 0 (take n after) is in
        let taken = length-take n after in
        let more = some_from n some in
        let there = ltb-false (length after) n enough in
        each (filter_map row (take n after)) (omega arith)
load_readable dimension row make after (number ∷ more ∷ fields) each = tt

command_readable : (dimension : ℕ) (fields : Fields) (after : List Fields) → IsReadable dimension (command_of dimension fields after)
command_readable dimension [] after = tt
command_readable dimension (name ∷ fields) after =
    by_if dimension (bytes_eq name (codes "load")) _ _ (λ is. load_readable dimension (row_of dimension) (load_points dimension) after fields (λ points some. (refl, some))) (λ other.
    by_if dimension (bytes_eq name (codes "tload")) _ _ (λ is. load_readable dimension (tag_row_of dimension) (load_tagged dimension) after fields (λ rows some.
    let tags = length-map rows (λ row. row.0) in
    let points = length-map rows (λ row. row.1) in
    (refl, omega arith, omega arith))) (λ other2. single_readable dimension (name ∷ fields)))

all_more : {X : Type 0} (P : X → Type 0) (x : X) (xs : List X) → P x → All P xs → All P (x ∷ xs)
all_more P x xs first rest zero d below = first
all_more P x xs first rest (suc k) d below = rest k d (omega arith)

pub commands_readable : (dimension used : ℕ) (records : List Fields) → All (IsReadable dimension) (commands_after dimension used records)
commands_readable dimension used [] = λ k d below. absurd (omega arith)
commands_readable dimension (suc used) (fields ∷ after) = commands_readable dimension used after
commands_readable dimension zero (fields ∷ after) =
    all_more (IsReadable dimension) (command_of dimension fields after) (commands_after dimension (rows_used fields) after) (command_readable dimension fields after) (commands_readable dimension (rows_used fields) after)

-- no more commands than records
pub commands_few : (dimension used : ℕ) (records : List Fields) → length (commands_after dimension used records) ≤ length records
commands_few dimension used [] = omega arith
commands_few dimension (suc used) (fields ∷ after) = let rest = commands_few dimension used after in omega arith
commands_few dimension zero (fields ∷ after) = let rest = commands_few dimension (rows_used fields) after in omega arith

pub ok_items : {A E : Type 0} (items : A → List Command) (P : List Command → Type 0) (r : Result A E) (all : List Command) → P all → IfOk r (λ v. items v ≡ all) → IfOk r (λ v. P (items v))
ok_items items P (Ok v) all holds is = subst P (sym is) holds
ok_items items P (Err e) all holds is = tt
