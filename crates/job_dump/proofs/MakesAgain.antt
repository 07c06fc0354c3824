-- The script of a file's objects makes the file's list.
use Rattle.std.proofs.Common.{◌≡◌, ℕ, zero, suc, ◌+◌, ◌*◌, ◌<◌, ◌≤◌, ◌^◌, ◌==◌, Bool, true, false, List, [], ◌∷◌, Option, Some, None, Err, map, length, refl, sym, ap, ◌∙◌, subst, arith, inl, inr}
use Rattle.std.specs.Prelude.{All, IsTrue, slice_index, if◌then◌else◌}
use Rattle.std.specs.List.{AllByRecursion, list_all}
use Rattle.std.proofs.lemmas.Bool.{and_from, cases_lt, le-ltb}
use Rattle.std.proofs.lemmas.List.{get_or_past, length-map}
use Rattle.byteorder.specs.Numbers.{big_from-lt}
use Rattle.metric_laws.specs.Space.{Space, IsSpace}
use Rattle.metric_laws.proofs.Published.{all_append, all_flat_map, all_in}
use Rattle.tree_shape.specs.declared.entry.LeafEntry.{LeafEntry}
use Rattle.tree_shape.specs.declared.entry.Node.TheVariants.{Leaf, Inner}
use Rattle.tree_shape.specs.declared.live.Live.{Live}
use Rattle.tree_shape.specs.Fill.{root_least}
use Rattle.tree_shape.specs.Tree.{leaf_entries, objects, point_of, points_from, tag_of, tags_from}
use Rattle.tree_shape.proofs.Published.{Fits, objects_fit, object_of, point_of-in}
use Rattle.node_page.specs.declared.node.NodeFault.{NodeFault}
use Rattle.node_page.specs.declared.node.Version.TheVariants.{Second}
use Rattle.node_page.specs.Bytes.{number_at}
use Rattle.node_page.specs.Nodes.{count_of, fault_in, firsts, inner_at, leaf_in, node_in, place_in, place_of}
use Rattle.node_page.specs.Opening.{page_of}
use Rattle.page_store.specs.declared.pages.PageFault.TheVariants.{Outside}
use Rattle.page_store.specs.Files.{nodes_in}
use Rattle.page_store.specs.Reading.{is_within, judged, node_or_none, reading_in}
use Rattle.page_store.proofs.Published.{length-page_of, place-page_of, limit_small, tag_of-in}
use Rattle.csv.specs.Machine.{next_record}
use Rattle.csv.specs.Reading.{records_from, strip_bom}
use Rattle.rows_text.specs.declared.command.Command.{Command}
use Rattle.rows_text.specs.declared.refusal.Refusal.TheVariants as refusal
use Rattle.rows_text.specs.declared.reply.Reply.TheVariants as reply
use Rattle.rows_text.specs.Meaning.{Holdings, Setting, State, Step, after, execute, has_points_of, nothing_yet, refused, step}
use Rattle.rows_text.specs.Script.{load_tagged, script}
use Rattle.job_files.specs.Laws.{HeadsHaveSpaces}
use Rattle.job_files.specs.Spaces.{space_of}
use Rattle.job_dump.specs.Laws.{AreBytes, DumpsMakeAgain, IsRow, setting_of}
use Rattle.job_dump.specs.Rows.{due, objects_on, row_of, rows_from, times_among}
use Rattle.job_dump.specs.Scripts.{script_text}
use Rattle.job_dump.proofs.Noting.{due_below, due_once}
use Rattle.job_dump.proofs.Putting.{length-rows_from}
use Rattle.job_dump.proofs.ReadBack.{scripts_read_back}
use Rattle.job_dump.proofs.Whole.{whole_meets}

abbrev Row : Type 0
Row = ℕ × List ℕ

-- ---- tags of 64 bits

abbrev SmallTag : LeafEntry → Type 0
SmallTag e = e.tag < 2 ^ 64

number_small : (at n : ℕ) (page : List ℕ) → AreBytes page → number_at at n page < 256 ^ n
unfolding number_at
number_small at n page each = big_from-lt at n page each

page_bytes : (file : List ℕ) (p : ℕ) → AreBytes file → AreBytes (page_of file p)
page_bytes file p each k = elim (cases_lt k 4096) [
  | inl low ↦ (let e = each (4096 * p + k) in let same = place-page_of file p k low in omega arith)
  | inr high ↦ (let long = length-page_of file p in let none = get_or_past (page_of file p) k 0 (omega arith) in omega arith)
]

tag_small : (dim at : ℕ) (page : List ℕ) → AreBytes page → SmallTag (leaf_in Second dim page at)
unfolding leaf_in
tag_small dim at page each = number_small (at + 4) 8 page each

all_firsts : (f : ℕ → LeafEntry) (n : ℕ) → ((i : ℕ) → SmallTag (f i)) → AllByRecursion SmallTag (firsts f n)
unfolding firsts
all_firsts f zero each = tt
all_firsts f (suc n) each = all_append SmallTag (firsts f n) (f n ∷ []) (all_firsts f n each) (each n, tt)

node_tags : (dim : ℕ) (page : List ℕ) → AreBytes page → AllByRecursion SmallTag (leaf_entries (Some (node_in Second dim page)))
unfolding node_in
node_tags dim page each = split (slice_index page 0 == 0)
  where
    split : (b : Bool) → AllByRecursion SmallTag (leaf_entries (Some (if b then Leaf (firsts (λ i. leaf_in Second dim page (place_in Second true dim i)) (count_of page))
        else Inner (slice_index page 0) (firsts (λ i. inner_at dim page (place_of dim i)) (count_of page)))))
    split true = all_firsts (λ i. leaf_in Second dim page (place_in Second true dim i)) (count_of page) (λ i. tag_small dim (place_in Second true dim i) page each)
    split false = tt

pub tags_small : (dim : ℕ) (live : Live) (file : List ℕ) → AreBytes file → (page : ℕ) → AllByRecursion SmallTag (leaf_entries (nodes_in dim live file page))
unfolding reading_in
tags_small dim live file each page = split (is_within live.pages page) (fault_in Second dim (page_of file page))
  where
    split : (b : Bool) (fault : Option NodeFault) → AllByRecursion SmallTag (leaf_entries (node_or_none (if b then judged page fault (node_in Second dim (page_of file page)) else Err (Outside page))))
    split true None = node_tags dim (page_of file page) (page_bytes file page each)
    split true (Some fault) = tt
    split false fault = tt

-- ---- the rows of a sound file

by_each : (P : ℕ → Type 0) (xs : List ℕ) → All P xs → AllByRecursion P xs
by_each P [] all = tt
by_each P (x ∷ xs) all = (all 0 x (omega arith), by_each P xs (λ k d low. all (suc k) d (omega arith)))

module _ (s : Space) (space : IsSpace s) (os : List LeafEntry) (count : ℕ) (once : (id : ℕ) → times_among os id ≡ due count id)
    (fit : AllByRecursion (Fits s) os) (tags : AllByRecursion SmallTag os) where
  -- an id's point is one of the space, and its tag one of 64 bits
  entry_fits : (id : ℕ) → id < count → IsTrue (s.is_point (point_of id os)) × (tag_of id os < 2 ^ 64)
  entry_fits id low =
      let one = once id in
      let is = due_below count id low in
      let found = object_of os id (omega arith) in
      let e : LeafEntry = found.0 in
      let many = once e.id in
      let few = due_once count e.id in
      let point : point_of id os ≡ e.point = ap (λ (k : ℕ). point_of k os) (sym found.2) ∙ point_of-in os e found.1 (omega arith) in
      let tag : tag_of id os ≡ e.tag = ap (λ (k : ℕ). tag_of k os) (sym found.2) ∙ tag_of-in os e found.1 (omega arith) in
      let small = all_in SmallTag os e tags found.1 in
      (subst (λ (p : List ℕ). IsTrue (s.is_point p)) (sym point) (all_in (Fits s) os e fit found.1), omega arith)

  row_fits : (id : ℕ) → id < count → IsRow s.dimension (row_of os id)
  row_fits id low =
      let is_point = entry_fits id low in
      record { tag = is_point.1; long = space.long (point_of id os) is_point.0; small = by_each (λ x. x < 2 ^ 32) (point_of id os) (space.small (point_of id os) is_point.0) }

  rows_fit : (id n : ℕ) → id + n ≤ count → AllByRecursion (IsRow s.dimension) (rows_from os id n)
  rows_fit id zero low = tt
  rows_fit id (suc n) low = (row_fits id (omega arith), rows_fit (id + 1) n (omega arith))

  points_fit : (id n : ℕ) → id + n ≤ count → list_all s.is_point (map (λ row. row.1) (rows_from os id n)) ≡ true
  points_fit id zero low = refl
  points_fit id (suc n) low = and_from (s.is_point (point_of id os)) (list_all s.is_point (map (λ row. row.1) (rows_from os (id + 1) n))) (entry_fits id (omega arith)).0 (points_fit (id + 1) n (omega arith))

-- the points and the tags in order of id
abbrev objects_by_id : ℕ → List LeafEntry → Holdings
objects_by_id count os = record { points = points_from os 0 count; tags = tags_from os 0 count }

points_of_rows : (os : List LeafEntry) (id n : ℕ) → map (λ row. row.1) (rows_from os id n) ≡ points_from os id n
points_of_rows os id zero = refl
points_of_rows os id (suc n) = ap (λ (l : List (List ℕ)). point_of id os ∷ l) (points_of_rows os (id + 1) n)

tags_of_rows : (os : List LeafEntry) (id n : ℕ) → map (λ row. row.0) (rows_from os id n) ≡ tags_from os id n
tags_of_rows os id zero = refl
tags_of_rows os id (suc n) = ap (λ (l : List ℕ). tag_of id os ∷ l) (tags_of_rows os (id + 1) n)

-- ---- what a load makes

abbrev held : List Row → Holdings
held rows = record { points = map (λ row. row.1) rows; tags = map (λ row. row.0) rows }

-- a command whose points are points of the space is executed
is_executed : (setting : Setting) (state : State) (c : Command) → has_points_of setting.space c ≡ true → step setting state c ≡ execute setting state c
is_executed setting state c is_point = ap (λ (b : Bool). if b then execute setting state c else refused state refusal.Unfit) is_point

load_makes : (setting : Setting) (dimension : ℕ) (rows : List Row) → list_all setting.space.is_point (map (λ row. row.1) rows) ≡ true → length (map (λ (row : Row). row.1) rows) ≤ setting.limit →
    (after setting nothing_yet (load_tagged dimension rows ∷ [])).objects ≡ held rows
load_makes setting dimension rows is_point few =
    let points : List (List ℕ) = map (λ (row : Row). row.1) rows in
    let done : Step = record { reply = reply.Loaded (length points); state = record nothing_yet { objects = held rows } } in
    ap (λ (s : Step). s.state.objects) (is_executed setting nothing_yet (load_tagged dimension rows) is_point)
    ∙ ap (λ (b : Bool). (if b then refused nothing_yet refusal.Full else done).state.objects) (le-ltb setting.limit (length points) few)

none_makes : (setting : Setting) (dimension : ℕ) → (after setting nothing_yet (script dimension (script_text []))).objects ≡ held []
unfolding strip_bom records_from next_record
none_makes setting dimension = refl

script_makes : (setting : Setting) (rows : List Row) → 1 ≤ setting.space.dimension → AllByRecursion (IsRow setting.space.dimension) rows → list_all setting.space.is_point (map (λ row. row.1) rows) ≡ true →
    length (map (λ (row : Row). row.1) rows) ≤ setting.limit → length rows < 2 ^ 64 → (after setting nothing_yet (script setting.space.dimension (script_text rows))).objects ≡ held rows
script_makes setting [] some all is_point few low = none_makes setting setting.space.dimension
script_makes setting (row ∷ rows) some all is_point few low =
    ap (λ commands. (after setting nothing_yet commands).objects) (scripts_read_back setting.space.dimension row rows some low all) ∙ load_makes setting setting.space.dimension (row ∷ rows) is_point few

pub dumps_make_again : HeadsHaveSpaces → DumpsMakeAgain
dumps_make_again spaces head live file rows bytes sound has =
    let s : Space = space_of head in
    let valid = sound.opens.spells_head.valid in
    let space : IsSpace s = spaces head valid in
    let os : List LeafEntry = objects_on (nodes_in head.dim live file) has.pages in
    let same : os ≡ objects (nodes_in head.dim live file) live = whole_meets (nodes_in head.dim live file) s live has.pages sound.tree has.walk in
    let fit : AllByRecursion (Fits s) os =
    subst (AllByRecursion (Fits s)) (sym same) (objects_fit s (nodes_in head.dim live file) live.height (root_least live.height) None live.root sound.tree.parts) in
    let tags : AllByRecursion SmallTag os = all_flat_map SmallTag (λ p. leaf_entries (nodes_in head.dim live file p)) has.pages (each has.pages) in
    let made : List Row = rows_from os 0 live.count in
    let long = length-rows_from os 0 live.count in
    let size : length (map (λ (row : Row). row.1) made) ≡ live.count = length-map made (λ (row : Row). row.1) ∙ long in
    let limit = sound.opens.valid.count in
    let top = limit_small head.limit valid.limit in
    ap (λ (r : List Row). (after (setting_of head) nothing_yet (script head.dim (script_text r))).objects) has.rows_are
    ∙ script_makes (setting_of head) made space.some_coordinates (rows_fit s space os live.count has.once fit tags 0 live.count (omega arith))
    (points_fit s space os live.count has.once fit tags 0 live.count (omega arith)) (omega arith) (omega arith)
    ∙ (λ i. record { points = points_of_rows os 0 live.count i; tags = tags_of_rows os 0 live.count i })
    ∙ ap (objects_by_id live.count) same
  where
    each : (pages : List ℕ) → AllByRecursion (λ p. AllByRecursion SmallTag (leaf_entries (nodes_in head.dim live file p))) pages
    each [] = tt
    each (p ∷ ps) = (tags_small head.dim live file bytes p, each ps)
