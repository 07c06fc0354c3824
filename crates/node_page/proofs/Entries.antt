-- The numbers of the entries on a page.
use Rattle.std.proofs.Common.{◌≡◌, ℕ, suc, ◌++◌, ◌+◌, ◌*◌, ◌-◌, ◌^◌, ◌<◌, ◌≤◌, true, List, length, take, drop, get_or, slice_index, sym, ◌∙◌, ap, arith, length-drop, mul-le-mul_left}
use Rattle.std.proofs.lemmas.List.{get_or-append-add, get_or_append_left, get_or-drop, drop-take, drop-drop, take_all}
use Rattle.byteorder.specs.Endian.{IsRead, big_number}
use Rattle.tree_shape.specs.Flat.{wide, start_of, leaf_from, inner_from}
use Rattle.tree_shape.specs.declared.entry.LeafEntry.{LeafEntry}
use Rattle.node_page.specs.Bytes.{number_at}
use Rattle.node_page.specs.declared.node.Version.TheVariants.{First}
use Rattle.node_page.specs.Nodes.{AreNumbers, firsts, point_at, place_in, place_of, leaf_at, leaf_in, inner_at}
use Rattle.node_page.proofs.Listing.{firsts_by, firsts_same, place-firsts}
use Rattle.node_page.proofs.Numbers.{number_got}
use Rattle.node_page.proofs.Putting.{leaf_by, inner_by}

-- the numbers that are read of a part of a page
part_read : (at count : ℕ) (page numbers : List ℕ) → at + 4 * count ≤ length page → length numbers ≡ count →
    IsRead big_number 4 (take (4 * count) (drop at page)) numbers → (k : ℕ) → k < count → slice_index numbers k ≡ number_at (at + 4 * k) 4 page
part_read at count page numbers within long read k below =
    let rest : 4 * count ≡ 4 * k + (4 * count - 4 * k) = omega arith in
    number_got 4 (at + 4 * k) (4 * count - 4 * k) (slice_index numbers k) page
    (read k (omega arith) ∙ ap (λ (n : ℕ). big_number 4 (drop (4 * k) (take n (drop at page)))) rest
    ∙ ap (big_number 4) (drop-take (4 * k) (4 * count - 4 * k) (drop at page))
    ∙ ap (λ (xs : List ℕ). big_number 4 (take (4 * count - 4 * k) xs)) (drop-drop (4 * k) at page))
    (omega arith) (omega arith)

-- numbers that are each the page's at its place
pub numbers_by : (page numbers : List ℕ) → ((k : ℕ) → k < length numbers → slice_index numbers k ≡ number_at (16 + 4 * k) 4 page) → AreNumbers page numbers
numbers_by page numbers places =
    sym (take_all (length numbers) numbers (omega arith)) ∙ firsts_by (λ j. number_at (16 + 4 * j) 4 page) (length numbers) numbers (omega arith) places

-- what is read of a page behind its front are its numbers
pub numbers_read : (count : ℕ) (page numbers : List ℕ) → 16 + 4 * count ≤ 4096 → 4096 ≤ length page → length numbers ≡ count →
    IsRead big_number 4 (take (4 * count) (drop 16 page)) numbers → AreNumbers page numbers
numbers_read count page numbers within whole long read =
    numbers_by page numbers (λ k below. part_read 16 count page numbers (omega arith) long read k (omega arith))

-- numbers that are read into their place between others
pub some_read : (from count k : ℕ) (page front some rest : List ℕ) → length front ≡ from → length some ≡ count → 16 + 4 * (from + count) ≤ length page →
    IsRead big_number 4 (take (4 * count) (drop (16 + 4 * from) page)) some → from ≤ k → k < from + count →
    slice_index (front ++ (some ++ rest)) k ≡ number_at (16 + 4 * k) 4 page
some_read from count k page front some rest starts long within read low high =
    let there : k ≡ length front + (k - from) = omega arith in
    ap (λ (i : ℕ). slice_index (front ++ (some ++ rest)) i) there
    ∙ get_or-append-add front (some ++ rest) (k - from) 0
    ∙ get_or_append_left some rest 0 (k - from) (omega arith)
    ∙ part_read (16 + 4 * from) count page some (omega arith) long read (k - from) (omega arith)
    ∙ ap (λ (at : ℕ). number_at at 4 page) (let e : 16 + 4 * from + 4 * (k - from) ≡ 16 + 4 * k = omega arith in e)

-- a number of eight bytes is two of four
number_split : (at : ℕ) (page : List ℕ) → number_at at 8 page ≡ number_at at 4 page * 2 ^ 32 + number_at (at + 4) 4 page
unfolding number_at
number_split at page =
    let first : slice_index page (at + 4) ≡ slice_index page (suc (suc (suc (suc at)))) = ap (slice_index page) (omega arith) in
    let second : slice_index page (suc (at + 4)) ≡ slice_index page (suc (suc (suc (suc (suc at))))) = ap (slice_index page) (omega arith) in
    let third : slice_index page (suc (suc (at + 4))) ≡ slice_index page (suc (suc (suc (suc (suc (suc at)))))) = ap (slice_index page) (omega arith) in
    let last : slice_index page (suc (suc (suc (at + 4)))) ≡ slice_index page (suc (suc (suc (suc (suc (suc (suc at))))))) = ap (slice_index page) (omega arith) in
    omega (arith, first, second, third, last)

module _ (page numbers : List ℕ) (are : AreNumbers page numbers) where
  -- one of the numbers
  number_in : (j : ℕ) → j < length numbers → slice_index numbers j ≡ number_at (16 + 4 * j) 4 page
  number_in j below = ap (λ (l : List ℕ). get_or l j 0) are ∙ place-firsts (λ i. number_at (16 + 4 * i) 4 page) (length numbers) j 0 below

  -- two of them that follow each other
  wide_in : (j : ℕ) → j + 1 < length numbers → wide numbers j ≡ number_at (16 + 4 * j) 8 page
  wide_in j below =
      ap (λ (n : ℕ). n * 2 ^ 32 + slice_index numbers (j + 1)) (number_in j (omega arith))
      ∙ ap (λ (n : ℕ). number_at (16 + 4 * j) 4 page * 2 ^ 32 + n) (number_in (j + 1) below ∙ ap (λ (at : ℕ). number_at at 4 page) (let e : 16 + 4 * (j + 1) ≡ 16 + 4 * j + 4 = omega arith in e))
      ∙ sym (number_split (16 + 4 * j) page)

  -- a part of the numbers is a point
  pub point_in : (dim j : ℕ) → j + dim ≤ length numbers → take dim (drop j numbers) ≡ point_at dim page (16 + 4 * j)
  point_in dim j within =
      firsts_by (λ i. number_at (16 + 4 * j + 4 * i) 4 page) dim (drop j numbers) (omega (arith, length-drop j numbers)) (λ k below. same k below)
    where
      same : (k : ℕ) → k < dim → get_or (drop j numbers) k 0 ≡ number_at (16 + 4 * j + 4 * k) 4 page
      same k below =
          get_or-drop j numbers k 0 ∙ number_in (j + k) (omega arith)
          ∙ ap (λ (at : ℕ). number_at at 4 page) (let e : 16 + 4 * (j + k) ≡ 16 + 4 * j + 4 * k = omega arith in e)

  -- an object by its numbers
  pub leaf_in_numbers : (dim s : ℕ) → s + 5 + dim ≤ length numbers → leaf_from dim numbers s ≡ leaf_at dim page (16 + 4 * s)
  leaf_in_numbers dim s within = sym (leaf_by dim page (16 + 4 * s) (leaf_from dim numbers s)
      (sym (number_in s (omega arith)))
      (sym (wide_in (s + 1) (omega arith) ∙ ap (λ (at : ℕ). number_at at 8 page) (let e : 16 + 4 * (s + 1) ≡ 16 + 4 * s + 4 = omega arith in e)))
      (sym (wide_in (s + 3) (omega arith) ∙ ap (λ (at : ℕ). number_at at 8 page) (let e : 16 + 4 * (s + 3) ≡ 16 + 4 * s + 12 = omega arith in e)))
      (sym (point_in dim (s + 5) (omega arith) ∙ ap (point_at dim page) (let e : 16 + 4 * (s + 5) ≡ 16 + 4 * s + 20 = omega arith in e))))

  -- a subtree by its numbers
  pub inner_in_numbers : (dim s : ℕ) → s + 5 + dim ≤ length numbers → inner_from dim numbers s ≡ inner_at dim page (16 + 4 * s)
  inner_in_numbers dim s within = sym (inner_by dim page (16 + 4 * s) (inner_from dim numbers s)
      (sym (number_in s (omega arith)))
      (sym (wide_in (s + 1) (omega arith) ∙ ap (λ (at : ℕ). number_at at 8 page) (let e : 16 + 4 * (s + 1) ≡ 16 + 4 * s + 4 = omega arith in e)))
      (sym (wide_in (s + 3) (omega arith) ∙ ap (λ (at : ℕ). number_at at 8 page) (let e : 16 + 4 * (s + 3) ≡ 16 + 4 * s + 12 = omega arith in e)))
      (sym (point_in dim (s + 5) (omega arith) ∙ ap (point_at dim page) (let e : 16 + 4 * (s + 5) ≡ 16 + 4 * s + 20 = omega arith in e))))

  module _ (dim count : ℕ) (long : length numbers ≡ (5 + dim) * count) where
    -- an entry lies within the numbers
    entry_low : (k : ℕ) → k < count → start_of dim k + 5 + dim ≤ length numbers
    entry_low k below = let next : (5 + dim) * (k + 1) ≤ (5 + dim) * count = mul-le-mul_left (5 + dim) (omega arith) in omega (arith, next, long)

    -- the objects on a page of the second version
    pub leaves_read : firsts (λ i. leaf_from dim numbers (start_of dim i)) count ≡ firsts (λ i. leaf_at dim page (place_of dim i)) count
    leaves_read = firsts_same (λ i. leaf_from dim numbers (start_of dim i)) (λ i. leaf_at dim page (place_of dim i)) count
        (λ k below. leaf_in_numbers dim (start_of dim k) (entry_low k below) ∙ ap (leaf_at dim page) (let e : 16 + 4 * start_of dim k ≡ place_of dim k = omega arith in e))

    -- the subtrees on a page
    pub inners_read : firsts (λ i. inner_from dim numbers (start_of dim i)) count ≡ firsts (λ i. inner_at dim page (place_of dim i)) count
    inners_read = firsts_same (λ i. inner_from dim numbers (start_of dim i)) (λ i. inner_at dim page (place_of dim i)) count
        (λ k below. inner_in_numbers dim (start_of dim k) (entry_low k below) ∙ ap (inner_at dim page) (let e : 16 + 4 * start_of dim k ≡ place_of dim k = omega arith in e))

  -- an object of the first version by its fields
  pub old_leaf : (dim i count tag parent : ℕ) (point : List ℕ) → length numbers ≡ (3 + dim) * count → i < count →
      tag ≡ number_at (place_in First true dim i) 4 page → parent ≡ number_at (place_in First true dim i + 4) 8 page → point ≡ take dim (drop ((3 + dim) * i + 3) numbers) →
      ◌≡◌ {A = LeafEntry} (record { id = tag; tag = tag; parent = parent; point = point }) (leaf_in First dim page (place_in First true dim i))
  unfolding leaf_in
  old_leaf dim i count tag parent point long below tag_is parent_is point_is = λ t. record {
    id = tag_is t;
    tag = tag_is t;
    parent = parent_is t;
    point = (point_is ∙ point_in dim ((3 + dim) * i + 3) (let next : (3 + dim) * (i + 1) ≤ (3 + dim) * count = mul-le-mul_left (3 + dim) (omega arith) in omega (arith, next, long))
        ∙ ap (point_at dim page) (let e : 16 + 4 * ((3 + dim) * i + 3) ≡ place_in First true dim i + 12 = omega arith in e)) t;
  }
