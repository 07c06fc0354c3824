-- A script that is put piece by piece.
use Rattle.std.proofs.Common.{◌≡◌, ℕ, zero, suc, ◌+◌, ◌-◌, ◌≤◌, Bool, true, false, List, [], ◌∷◌, ◌++◌, Option, Some, None, Result, Ok, Err, length, replicate, refl, sym, ap, ◌∙◌, subst, arith, append_assoc, length-append}
use Rattle.std.specs.Prelude.{IsTrue, OnOk, codes, flat_map}
use Rattle.std.specs.Io.KnownBytes.{Appends}
use Rattle.std.proofs.KnownBytes.{Appends-trans}
use Rattle.std.proofs.lemmas.Bool.{true≢false}
use Rattle.std.proofs.lemmas.List.{append-nil, length-replicate}
use Rattle.metric_laws.proofs.Published.{flat_map-append}
use Rattle.outside_io.specs.Bytes.{AppendsPrefix}
use Rattle.outside_io.specs.Sinks.{SinkState}
use Rattle.tree_shape.specs.declared.entry.LeafEntry.{LeafEntry}
use Rattle.tree_shape.specs.declared.live.Live.{Live}
use Rattle.page_store.specs.Reading.{nodes_of}
use Rattle.page_store.specs.Shelf.{Shelf}
use Rattle.rows_text.specs.Texts.{counted}
use Rattle.job_dump.specs.Causes.{AreRows, PutsFront, PutsScript}
use Rattle.job_dump.specs.Places.{ArePlaces}
use Rattle.job_dump.specs.Rows.{objects_on, row_of, rows_from}
use Rattle.job_dump.specs.Scripts.{row_line, script_text}
use Rattle.job_dump.specs.Writing.{AreFirstRows, IsRowOf, IsWriting, front_text}

abbrev Row : Type 0
Row = ℕ × List ℕ

-- ---- bytes

-- bytes that were put are a front of more
appends_front : (a b : Option (List ℕ)) (bs xs ys : List ℕ) → Appends a b xs → bs ≡ xs ++ ys → AppendsPrefix a b bs
appends_front None b bs xs ys put is = tt
appends_front (Some x) None bs xs ys put is = absurd put
appends_front (Some x) (Some y) bs xs ys put is = (xs, ys, is, put)

-- bytes that were put, and a front of others
then_front : (a b c : Option (List ℕ)) (bs xs ys zs : List ℕ) → Appends a b xs → AppendsPrefix b c ys → bs ≡ xs ++ (ys ++ zs) → AppendsPrefix a c bs
then_front None b c bs xs ys zs put cut is = tt
then_front (Some x) None c bs xs ys zs put cut is = absurd put
then_front (Some x) (Some y) None bs xs ys zs put cut is = absurd cut
then_front (Some x) (Some y) (Some z) bs xs ys zs put cut is = (
  xs ++ cut.0,
  cut.1 ++ zs,
  is ∙ ap (λ (l : List ℕ). xs ++ (l ++ zs)) cut.2 ∙ ap (λ (l : List ℕ). xs ++ l) (append_assoc cut.0 cut.1 zs) ∙ sym (append_assoc xs cut.0 (cut.1 ++ zs)),
  cut.3 ∙ ap (λ (l : List ℕ). l ++ cut.0) put ∙ append_assoc x xs cut.0,
)

-- ---- rows

pub length-rows_from : (objects : List LeafEntry) (id n : ℕ) → length (rows_from objects id n) ≡ n
length-rows_from objects id zero = refl
length-rows_from objects id (suc n) = ap suc (length-rows_from objects (id + 1) n)

pub rows_split : (objects : List LeafEntry) (id n m k : ℕ) → n + m ≡ k → rows_from objects id k ≡ rows_from objects id n ++ rows_from objects (id + n) m
rows_split objects id zero m k is =
    let same : k ≡ m = omega arith in
    let here : id ≡ id + 0 = omega arith in
    ap (rows_from objects id) same ∙ ap (λ (i : ℕ). rows_from objects i m) here
rows_split objects id (suc n) m zero is = absurd (omega arith)
rows_split objects id (suc n) m (suc k) is =
    let next : (id + 1) + n ≡ id + suc n = omega arith in
    ap (λ (l : List Row). row_of objects id ∷ l) (rows_split objects (id + 1) n m k (omega arith) ∙ ap (λ (i : ℕ). rows_from objects (id + 1) n ++ rows_from objects i m) next)

rows_more : (objects : List LeafEntry) (n : ℕ) → rows_from objects 0 (n + 1) ≡ rows_from objects 0 n ++ row_of objects n ∷ []
rows_more objects n =
    let one : 0 + n ≡ n = omega arith in
    rows_split objects 0 n 1 (n + 1) refl ∙ ap (λ (i : ℕ). rows_from objects 0 n ++ row_of objects i ∷ []) one

-- the script of some rows
script_is : (count : ℕ) (rows : List Row) → length rows ≡ count → 1 ≤ count → script_text rows ≡ front_text count rows
script_is count [] long some = absurd (omega arith)
script_is count (row ∷ rows) long some = ap (λ (n : ℕ). front_text n (row ∷ rows)) long

front-append : (count : ℕ) (front rest : List Row) → front_text count (front ++ rest) ≡ front_text count front ++ flat_map row_line rest
front-append count front rest =
    ap (λ (l : List ℕ). counted (codes "tload,") count ++ l) (flat_map-append row_line front rest) ∙ sym (append_assoc (counted (codes "tload,") count) (flat_map row_line front) (flat_map row_line rest))

-- ---- a script on its way

module _ (old now : SinkState) (text : List ℕ) (count : ℕ) (front : List Row) (before : IsWriting old now text count front) where
  -- a line waits
  pub row_written : (more : List ℕ) (row : Row) → more ≡ text ++ row_line row → IsWriting old now more count (front ++ row ∷ [])
  row_written more row is = record {
    sent = before.sent;
    put = before.put;
    faults = before.faults;
    whole = ap (λ (l : List ℕ). before.sent ++ l) is ∙ sym (append_assoc before.sent text (row_line row)) ∙ ap (λ (l : List ℕ). l ++ row_line row) before.whole
        ∙ ap (λ (l : List ℕ). front_text count front ++ l) (sym (append-nil (row_line row))) ∙ sym (front-append count front (row ∷ []));
  }

  -- the text is put
  pub text_put : (new : SinkState) (left : List ℕ) → Appends now.written new.written text → new.faults ≡ now.faults → left ≡ [] → IsWriting old new left count front
  text_put new left put faults none = record {
    sent = before.sent ++ text;
    put = Appends-trans old.written now.written new.written before.sent text before.put put;
    faults = faults ∙ before.faults;
    whole = ap (λ (l : List ℕ). (before.sent ++ text) ++ l) none ∙ append-nil (before.sent ++ text) ∙ before.whole;
  }

  module _ (rows rest : List Row) (parts : rows ≡ front ++ rest) (long : length rows ≡ count) (some : 1 ≤ count) where
    whole_text : script_text rows ≡ before.sent ++ (text ++ flat_map row_line rest)
    whole_text =
        script_is count rows long some ∙ ap (front_text count) parts ∙ front-append count front rest ∙ ap (λ (l : List ℕ). l ++ flat_map row_line rest) (sym before.whole)
        ∙ append_assoc before.sent text (flat_map row_line rest)

    -- what was put is a front of the script
    sent_front : AppendsPrefix old.written now.written (script_text rows)
    sent_front = appends_front old.written now.written (script_text rows) before.sent (text ++ flat_map row_line rest) before.put whole_text

    -- the same, with a front of the text
    cut_front : (new : SinkState) → AppendsPrefix now.written new.written text → AppendsPrefix old.written new.written (script_text rows)
    cut_front new cut = then_front old.written now.written new.written (script_text rows) before.sent text (flat_map row_line rest) before.put cut whole_text

  -- all is put
  all_put : (new : SinkState) → Appends now.written new.written text → length front ≡ count → 1 ≤ count → Appends old.written new.written (script_text front)
  all_put new put long some =
      subst (Appends old.written new.written) (before.whole ∙ sym (script_is count front long some))
      (Appends-trans old.written now.written new.written before.sent text before.put put)

-- the same, where it is said of a put
pub text_done : {T E : Type 0} (r : Result T E) (now new : SinkState) (text left : List ℕ) → OnOk r (Appends now.written new.written text) → OnOk r (left ≡ []) → OnOk r (new.faults ≡ now.faults) →
    OnOk r ((old : SinkState) (count : ℕ) (front : List Row) → IsWriting old now text count front → IsWriting old new left count front)
text_done (Ok t) now new text left put none faults = λ old count front before. text_put old now text count front before new left put faults none
text_done (Err e) now new text left put none faults = tt

-- ---- the rows of a tree

-- the rows of the tree, whose front these are
pub record Completes (shelf : Shelf) (live : Live) (front : List Row) : Type 0 where
  pub rows : List Row
  pub rest : List Row
  pub parts : rows ≡ front ++ rest
  pub long : length rows ≡ live.count
  pub are : AreRows shelf live rows

-- one row more
pub first_more : (shelf : Shelf) (live : Live) (numbers : List ℕ) (id : ℕ) (front : List Row) (row : Row) → AreFirstRows shelf live numbers id front → IsRowOf shelf live numbers id row →
    AreFirstRows shelf live numbers (id + 1) (front ++ row ∷ [])
first_more shelf live numbers id front row first is is_known are =
    ap (λ (l : List Row). l ++ row ∷ []) (first is_known are)
    ∙ ap (λ (r : Row). rows_from (objects_on (nodes_of shelf.read) are.pages) 0 id ++ r ∷ []) (is is_known are)
    ∙ sym (rows_more (objects_on (nodes_of shelf.read) are.pages) id)

module _ (shelf : Shelf) (live : Live) (numbers : List ℕ) (are : IsTrue shelf.is_known → ArePlaces (nodes_of shelf.read) live numbers) where
  -- where the places are those of the tree, the rows are the first of it; where the pages do not tell, any rows will do
  completes : (id : ℕ) (front : List Row) → id ≤ live.count → length front ≡ id → AreFirstRows shelf live numbers id front → Completes shelf live front
  completes id front low long first = split shelf.is_known refl
    where
      split : (b : Bool) → shelf.is_known ≡ b → Completes shelf live front
      split true is =
          let a = are is in
          let os : List LeafEntry = objects_on (nodes_of shelf.read) a.pages in
          let rest : List Row = rows_from os (0 + id) (live.count - id) in
          record {
            rows = rows_from os 0 live.count;
            rest = rest;
            parts = rows_split os 0 id (live.count - id) live.count (omega arith) ∙ ap (λ (l : List Row). l ++ rest) (sym (first is a));
            long = length-rows_from os 0 live.count;
            are = λ is_known. record { pages = a.pages; walk = a.walk; once = a.once; rows_are = refl };
          }
      split false is =
          let none : Row = (0, []) in
          let rest : List Row = replicate (live.count - id) none in
          record {
            rows = front ++ rest;
            rest = rest;
            parts = refl;
            long = length-append front rest ∙ (let r = length-replicate (live.count - id) none in omega arith);
            are = λ is_known. absurd (true≢false (sym is_known ∙ is));
          }

  module _ (old now : SinkState) (text : List ℕ) (id : ℕ) (front : List Row) (low : id ≤ live.count) (some : 1 ≤ live.count) (long : length front ≡ id)
      (before : IsWriting old now text live.count front) (first : AreFirstRows shelf live numbers id front) where
    -- what was put is a front of the script
    pub part_put : PutsFront shelf live old.written now.written
    part_put = let c = completes id front low long first in (c.rows, sent_front old now text live.count front before c.rows c.rest c.parts c.long some, c.are)

    -- the same, where a front of the text was put
    pub part_cut : (new : SinkState) → AppendsPrefix now.written new.written text → PutsFront shelf live old.written new.written
    part_cut new cut = let c = completes id front low long first in (c.rows, cut_front old now text live.count front before c.rows c.rest c.parts c.long some new cut, c.are)

    -- the whole script was put
    pub script_put : (new : SinkState) → id ≡ live.count → Appends now.written new.written text → PutsScript shelf live old.written new.written
    script_put new all put = (
      front,
      all_put old now text live.count front before new put (long ∙ all) some,
      λ is_known.
          let a = are is_known in
          record { pages = a.pages; walk = a.walk; once = a.once; rows_are = first is_known a ∙ ap (rows_from (objects_on (nodes_of shelf.read) a.pages) 0) all },
    )
