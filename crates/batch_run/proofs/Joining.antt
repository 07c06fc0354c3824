-- The parts of a file that were read one by one make the file.
use Rattle.std.proofs.Common.{◌≡◌, ℕ, ◌+◌, ◌-◌, ◌*◌, ◌/◌, ◌%◌, ◌<◌, ◌≤◌, min, List, [], ◌∷◌, suc, length, map, Some, Result, Ok, slice_get, slice_index, inl, inr, refl, sym, ◌∙◌, ap, subst, arith, ◌++◌, take, slice_index_or}
use Rattle.std.specs.Prelude.{IsTrue, IfOk}
use Rattle.std.specs.List.{concat}
use Rattle.std.proofs.Math.Nat.{min-eq_left, min-eq_right, mul-le-mul_right, suc-mul, zero-mul}
use Rattle.std.proofs.lemmas.Bool.{cases_lt}
use Rattle.std.proofs.lemmas.Grind.{div_ceil_times}
use Rattle.std.proofs.lemmas.List.{append-nil, length-append, get_or_append_left, get_or-append_right}
use Rattle.std.proofs.Math.Seq.{take-append_seam}
use Rattle.std.proofs.lemmas.Option.{get_or_from_slice_get, slice_get_within}
use Rattle.disk_model.specs.Disk.{DiskState}
use Rattle.page_store.specs.Parts.{AreParts}
use Rattle.batch_run.specs.Images.{HasBytes, IsImageOf, IsPartRead}
use Rattle.batch_run.proofs.Gathered.{as_many, done_at}

module _ (disk : DiskState) (m pages : ℕ) where
  -- parts were read from a page on, one after another
  abbrev pub AreRead : ℕ → List (List ℕ) → Type 0
  AreRead from [] = pages ≤ from
  AreRead from (part ∷ parts) = (from < pages) × IsPartRead disk m pages from part × AreRead (from + m) parts

  -- they are the file from there on
  pub record IsRest (from : ℕ) (parts : List (List ℕ)) : Type 0 where
    pub are : AreParts m parts
    pub size : length (concat parts) ≡ 4096 * (pages - from)
    pub told : IsTrue disk.is_known → HasBytes disk.bytes from (concat parts)

  pub joined : (from : ℕ) (parts : List (List ℕ)) → AreRead from parts → IsRest from parts
  joined from [] read = record { are = tt; size = omega (arith, read); told = λ is_known k below. absurd (omega (arith, below)) }
  joined from (last ∷ []) read =
      let short : min m (pages - from) ≡ pages - from = min-eq_right (omega (arith, read.2)) in
      let size : length last ≡ 4096 * (pages - from) = read.1.size ∙ ap (λ (n : ℕ). 4096 * n) short in
      record {
        are = omega (arith, size, read.2);
        size = ap length (append-nil last) ∙ size;
        told = λ is_known. subst (HasBytes disk.bytes from) (sym (append-nil last)) (read.1.told is_known);
      }
  joined from (part ∷ next ∷ parts) read =
      let rest = joined (from + m) (next ∷ parts) read.2 in
      let full : min m (pages - from) ≡ m = min-eq_left (omega (arith, read.2.0)) in
      let size : length part ≡ 4096 * m = read.1.size ∙ ap (λ (n : ℕ). 4096 * n) full in
      record {
        are = (size, rest.are);
        size = length-append part (concat (next ∷ parts)) ∙ omega (arith, size, rest.size, read.2.0);
        told = λ is_known k below. elim (cases_lt k (4096 * m)) [
          | inl first ↦ get_or_append_left part (concat (next ∷ parts)) 0 k (omega (arith, size, first)) ∙ read.1.told is_known k (omega (arith, size, first))
          | inr later ↦
              let here : 4096 * (from + m) + (k - 4096 * m) ≡ 4096 * from + k = omega (arith, later) in
              get_or-append_right part (concat (next ∷ parts)) (4096 * m) k 0 size later
              ∙ rest.told is_known (k - 4096 * m) (omega (arith, below, size, later, length-append part (concat (next ∷ parts))))
              ∙ ap (slice_index disk.bytes) here
        ];
      }

  -- read each by its number
  pub all_read : (parts : List (List ℕ)) (i : ℕ) → ((k : ℕ) (part : List ℕ) → slice_get parts k ≡ Some part → ((i + k) * m < pages) × IsPartRead disk m pages ((i + k) * m) part)
      → pages ≤ (i + length parts) * m → AreRead (i * m) parts
  all_read [] i each whole = subst (λ (n : ℕ). pages ≤ n * m) (let none : i + 0 ≡ i = omega arith in none) whole
  all_read (part ∷ parts) i each whole =
      let first = subst (λ (n : ℕ). (n * m < pages) × IsPartRead disk m pages (n * m) part) (let none : i + 0 ≡ i = omega arith in none) (each 0 part refl) in
      let rest : AreRead (suc i * m) parts =
      all_read parts (suc i)
      (λ k p is. subst (λ (n : ℕ). (n * m < pages) × IsPartRead disk m pages (n * m) p) (let over : i + suc k ≡ suc i + k = omega arith in over) (each (suc k) p is))
      (subst (λ (n : ℕ). pages ≤ n * m) (let over : i + suc (length parts) ≡ suc i + length parts = omega arith in over) whole) in
      (first.0, first.1, subst (λ (n : ℕ). AreRead n parts) (suc-mul i m) rest)

  -- each number below that of the parts has pages
  pub has_pages : 1 ≤ m → (k : ℕ) → k < pages / m + min 1 (pages % m) → k * m < pages
  has_pages some k low =
      let over = (div_ceil_times pages m some).1 in
      let steps : suc k * m ≤ (pages / m + min 1 (pages % m)) * m = mul-le-mul_right m low in
      omega (arith, over, steps, suc-mul k m)

  -- the parts that were read by their numbers are the file
  pub parts_read : {F : Type 0} → 1 ≤ m → (tried : List (Result (List ℕ) F)) (parts : List (List ℕ)) → length tried ≡ pages / m + min 1 (pages % m) →
      ((i : ℕ) (x : Result (List ℕ) F) → slice_get tried i ≡ Some x → IfOk x (IsPartRead disk m pages (i * m))) → tried ≡ map (λ part. Ok part) parts → IsRest 0 parts
  parts_read {F} some tried parts long each all = joined 0 parts (subst (λ (n : ℕ). AreRead n parts) (zero-mul m) (all_read parts 0 part_is whole))
    where
      count : length parts ≡ pages / m + min 1 (pages % m)
      count = as_many tried parts all ∙ long

      part_is : (k : ℕ) (part : List ℕ) → slice_get parts k ≡ Some part → ((0 + k) * m < pages) × IsPartRead disk m pages ((0 + k) * m) part
      part_is k part at = subst (λ (n : ℕ). (n * m < pages) × IsPartRead disk m pages (n * m) part) (let none : k ≡ 0 + k = omega arith in none) (
        has_pages some k (subst (λ (n : ℕ). k < n) count (slice_get_within parts k part at)),
        each k (Ok part) (done_at tried parts all k part at),
      )

      whole : pages ≤ (0 + length parts) * m
      whole = subst (λ (n : ℕ). pages ≤ n * m) (let none : pages / m + min 1 (pages % m) ≡ 0 + length parts = omega (arith, count) in none) (div_ceil_times pages m some).0

  -- so they are its image
  pub is_image : (parts : List (List ℕ)) → IsRest 0 parts → IsTrue disk.is_known → IsImageOf pages disk.bytes (concat parts)
  is_image parts rest is_known = record {
    size = omega (arith, rest.size);
    bytes = λ i below. rest.told is_known i (omega (arith, rest.size, below)) ∙ ap (slice_index disk.bytes) (let here : 4096 * 0 + i ≡ i = omega arith in here);
  }

  -- the same of what was left at the places of the parts
  pub left_read : {F : Type 0} → 1 ≤ m → (n : ℕ) (left others : List (Result (List ℕ) F)) (parts : List (List ℕ)) → n ≡ pages / m + min 1 (pages % m) → length left ≡ n →
      ((i : ℕ) (x : Result (List ℕ) F) → i < n → (y : Result (List ℕ) F) × (y ≡ slice_index_or left i x) × IfOk y (IsPartRead disk m pages (i * m))) →
      take n (left ++ others) ≡ map (λ part. Ok part) parts → IsRest 0 parts
  left_read {F} some n left others parts count long each all = parts_read some left parts (long ∙ count) part_is (sym same ∙ all)
    where
      same : take n (left ++ others) ≡ left
      same = subst (λ (k : ℕ). take k (left ++ others) ≡ left) long (take-append_seam left others)

      part_is : (i : ℕ) (x : Result (List ℕ) F) → slice_get left i ≡ Some x → IfOk x (IsPartRead disk m pages (i * m))
      part_is i x at =
          let found = each i x (subst (λ (k : ℕ). i < k) long (slice_get_within left i x at)) in
          subst (λ (r : Result (List ℕ) F). IfOk r (IsPartRead disk m pages (i * m))) (found.1 ∙ get_or_from_slice_get left i x x at) found.2
