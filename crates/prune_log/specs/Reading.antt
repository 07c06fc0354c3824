-- Reading from left to right gives a value and the bytes behind it, or the first fault that is met.
use Rattle.std.specs.Prelude.{◌≡◌, ◌≢◌, ℕ, zero, suc, ◌==◌, ◌&&◌, ◌||◌, nat_lt, nat_le, Bool, true, false, List, [], ◌∷◌, length, take, drop, Option, Some, None, Result, Ok, Err, if◌then◌else◌}
use Rattle.byteorder.specs.Endian.{big_number}
use Rattle.scan_model.specs.declared.hit.Hit.{Hit}
use Rattle.scan_model.specs.declared.hit.Pair.{Pair}
use Rattle.scan_model.specs.declared.query.Query.{Query}
use Rattle.scan_model.specs.declared.query.Query.TheVariants.{Range, Nearest}
use Rattle.log_model.specs.declared.marks.Mark.{Mark}
use Rattle.log_model.specs.declared.marks.Mark.TheVariants.{Skip, Far, Near}
use Rattle.log_model.specs.declared.marks.Record.{Record}
use Rattle.log_model.specs.declared.marks.JoinRecord.{JoinRecord}
use Rattle.log_model.specs.declared.logs.Log.{Log}
use Rattle.log_model.specs.declared.logs.JoinLog.{JoinLog}
use Rattle.prune_log.specs.Spelling.{magic}
use Rattle.prune_log.specs.declared.fault.LogFault.{LogFault}
use Rattle.prune_log.specs.declared.fault.LogFault.TheVariants as faults
use Rattle.prune_log.specs.declared.query_log.Asked.{Asked}
use Rattle.prune_log.specs.declared.query_log.Asked.TheVariants as asked

infixl 10 ◌>>=◌
abbrev pub ◌>>=◌ : {A B : Type 0} → Result A LogFault → (A → Result B LogFault) → Result B LogFault
(Ok x) >>= f = f x
(Err e) >>= f = Err e

-- a fault is what reading gives, unless memory ran out
abbrev pub Fails : {Y : Type 0} → LogFault → Result Y LogFault → Type 0
Fails fault read = fault ≢ faults.Memory → read ≡ Err fault

-- what a function returned, seen through `view`, is what reading gives, unless memory ran out
abbrev pub Gives : {X Y : Type 0} → (X → Y) → Result X LogFault → Result Y LogFault → Type 0
Gives view (Ok x) read = read ≡ Ok (view x)
Gives view (Err fault) read = Fails fault read

-- ---- fields

-- a byte
abbrev pub byte_at : List ℕ → Result (ℕ × List ℕ) LogFault
byte_at [] = Err faults.Cut
byte_at (b ∷ rest) = Ok (b, rest)

-- a number of `n` bytes
abbrev pub number_at : ℕ → List ℕ → Result (ℕ × List ℕ) LogFault
number_at n bytes = if nat_lt (length bytes) n then Err faults.Cut else Ok (big_number n bytes, drop n bytes)

-- ---- lists

-- whether an item may stand behind the last one, if there is one
abbrev pub may_stand : {X : Type 0} → (X → X → Bool) → Option X → X → Bool
may_stand follows None x = true
may_stand follows (Some last) x = follows last x

-- the next item of a list
abbrev pub next_at : {X : Type 0} → (List ℕ → Result (X × List ℕ) LogFault) → (X → X → Bool) → Option X → List ℕ → Result (X × List ℕ) LogFault
next_at reads follows last bytes = do
  x ← reads bytes
  if may_stand follows last x.0 then Ok x else Err faults.Order

-- the given number of items; each may stand behind the one before it
unfoldable pub many : {X : Type 0} → (List ℕ → Result (X × List ℕ) LogFault) → (X → X → Bool) → ℕ → Option X → List ℕ → Result (List X × List ℕ) LogFault
many reads follows zero last bytes = Ok ([], bytes)
many reads follows (suc n) last bytes = do
  first ← next_at reads follows last bytes
  others ← many reads follows n (Some first.0) first.1
  Ok (first.0 ∷ others.0, others.1)

-- any item may stand behind any other
abbrev pub always : {X : Type 0} → X → X → Bool
always last x = true

-- ---- the items of logs

unfoldable pub hit_at : List ℕ → Result (Hit × List ℕ) LogFault
hit_at bytes = do
  id ← number_at 4 bytes
  dist ← number_at 8 id.1
  Ok (record { id = id.0; dist = dist.0 }, dist.1)

-- by the distance, then by the id
abbrev pub hit_follows : Hit → Hit → Bool
hit_follows last h = nat_lt last.dist h.dist || ((last.dist == h.dist) && nat_lt last.id h.id)

unfoldable pub mark_at : List ℕ → Result (Mark × List ℕ) LogFault
mark_at bytes = do
  b ← byte_at bytes
  if b.0 == 0 then Ok (Skip, b.1) else if b.0 == 1 then Ok (Far, b.1) else if b.0 == 2 then Ok (Near, b.1) else Err faults.Mark

-- by the left id, then by the right id, then by the distance
abbrev pub pair_follows : Pair → Pair → Bool
pair_follows last p = nat_lt last.left p.left || ((last.left == p.left) && (nat_lt last.right p.right || ((last.right == p.right) && nat_lt last.dist p.dist)))

unfoldable pub pair_at : List ℕ → Result (Pair × List ℕ) LogFault
pair_at bytes = do
  left ← number_at 4 bytes
  right ← number_at 4 left.1
  dist ← number_at 8 right.1
  Ok (record { left = left.0; right = right.0; dist = dist.0 }, dist.1)

-- a count in one byte, which has to pass the test, and that number of items
abbrev pub short_at : {X : Type 0} → (ℕ → Bool) → LogFault → (List ℕ → Result (X × List ℕ) LogFault) → List ℕ → Result (List X × List ℕ) LogFault
short_at test fault reads bytes = do
  count ← byte_at bytes
  if test count.0 then many reads always count.0 None count.1 else Err fault

-- the marks of a node, at most as many as a node may have entries
unfoldable pub marks_at : List ℕ → Result (List Mark × List ℕ) LogFault
marks_at bytes = short_at (λ n. nat_le n 32) faults.Mark mark_at bytes

unfoldable pub record_at : List ℕ → Result (Record × List ℕ) LogFault
record_at bytes = do
  page ← number_at 4 bytes
  marks ← marks_at page.1
  Ok (record { page = page.0; marks = marks.0 }, marks.1)

unfoldable pub side_at : List ℕ → Result (Bool × List ℕ) LogFault
side_at bytes = do
  b ← byte_at bytes
  if b.0 == 0 then Ok (false, b.1) else if b.0 == 1 then Ok (true, b.1) else Err faults.Mark

unfoldable pub join_record_at : List ℕ → Result (JoinRecord × List ℕ) LogFault
join_record_at bytes = do
  side ← side_at bytes
  page ← number_at 4 side.1
  marks ← marks_at page.1
  Ok (record { right = side.0; page = page.0; marks = marks.0 }, marks.1)

-- a count in `width` bytes, and that number of items
unfoldable pub listed_at : {X : Type 0} → ℕ → (List ℕ → Result (X × List ℕ) LogFault) → (X → X → Bool) → List ℕ → Result (List X × List ℕ) LogFault
listed_at width reads follows bytes = do
  count ← number_at width bytes
  many reads follows count.0 None count.1

-- ---- logs

-- the letters and the version
unfoldable pub opening_at : List ℕ → Result (List ℕ) LogFault
opening_at bytes = do
  letters ← number_at 4 bytes
  next ← if letters.0 == magic then Ok letters.1 else Err faults.Magic
  version ← byte_at next
  if version.0 == 1 then Ok version.1 else Err faults.Version

-- the kind of the query
unfoldable pub kind_at : List ℕ → Result (Asked × List ℕ) LogFault
kind_at bytes = do
  b ← byte_at bytes
  if b.0 == 1 then Ok (asked.Range, b.1) else if b.0 == 2 then Ok (asked.Nearest, b.1) else Err faults.Kind

-- a tree: its generation and its root
unfoldable pub tree_at : List ℕ → Result ((ℕ × ℕ) × List ℕ) LogFault
tree_at bytes = do
  generation ← number_at 8 bytes
  root ← number_at 4 generation.1
  Ok ((generation.0, root.0), root.1)

-- a k-NN query has k at least 1
abbrev pub is_amount : Asked → ℕ → Bool
is_amount asked.Range r = true
is_amount asked.Nearest k = nat_lt 0 k

abbrev pub query_of : Asked → ℕ → List ℕ → Query
query_of asked.Range r q = Range q r
query_of asked.Nearest k q = Nearest q k

-- a point of 1 to 64 coordinates
unfoldable pub point_at : List ℕ → Result (List ℕ × List ℕ) LogFault
point_at bytes = short_at (λ n. nat_le 1 n && nat_le n 64) faults.Kind (number_at 4) bytes

-- the radius or k, and the point
unfoldable pub query_at : Asked → List ℕ → Result (Query × List ℕ) LogFault
query_at what bytes = do
  amount ← number_at 8 bytes
  next ← if is_amount what amount.0 then Ok amount.1 else Err faults.Kind
  point ← point_at next
  Ok (query_of what amount.0 point.0, point.1)

-- a query's log
unfoldable pub log_at : List ℕ → Result (Log × List ℕ) LogFault
log_at bytes = do
  opened ← opening_at bytes
  kind ← kind_at opened
  tree ← tree_at kind.1
  query ← query_at kind.0 tree.1
  answers ← listed_at 4 hit_at hit_follows query.1
  records ← listed_at 4 record_at always answers.1
  Ok (record { generation = tree.0.0; root = tree.0.1; query = query.0; answers = answers.0; records = records.0 }, records.1)

-- the letters, the version and the kind of a join's log
unfoldable pub join_opening_at : List ℕ → Result (List ℕ) LogFault
join_opening_at bytes = do
  next ← opening_at bytes
  b ← byte_at next
  if b.0 == 3 then Ok b.1 else Err faults.Kind

-- the left tree and the right
unfoldable pub trees_at : List ℕ → Result (((ℕ × ℕ) × (ℕ × ℕ)) × List ℕ) LogFault
trees_at bytes = do
  left ← tree_at bytes
  right ← tree_at left.1
  Ok ((left.0, right.0), right.1)

-- a join's log
unfoldable pub join_log_at : List ℕ → Result (JoinLog × List ℕ) LogFault
join_log_at bytes = do
  opened ← join_opening_at bytes
  trees ← trees_at opened
  r ← number_at 8 trees.1
  answers ← listed_at 8 pair_at pair_follows r.1
  records ← listed_at 8 join_record_at always answers.1
  Ok (record { left = trees.0.0; right = trees.0.1; r = r.0; answers = answers.0; records = records.0 }, records.1)

-- a reading that has to take all bytes
abbrev pub whole : {L : Type 0} → (List ℕ → Result (L × List ℕ) LogFault) → List ℕ → Result L LogFault
whole reads bytes = do
  log ← reads bytes
  if length log.1 == 0 then Ok log.0 else Err faults.Tail

-- ---- frames

-- the first `n` bytes, and the bytes behind them
abbrev pub front_at : ℕ → List ℕ → Result (List ℕ × List ℕ) LogFault
front_at n bytes = if nat_lt (length bytes) n then Err faults.Cut else Ok (take n bytes, drop n bytes)

-- a frame: a length, and that number of bytes, which together are one log
unfoldable pub frame_at : {L : Type 0} → (List ℕ → Result (L × List ℕ) LogFault) → List ℕ → Result (L × List ℕ) LogFault
frame_at reads bytes = do
  size ← number_at 8 bytes
  body ← front_at size.0 size.1
  log ← whole reads body.0
  Ok (log, body.1)

-- the logs of at most the given number of frames; empty bytes have no frames
unfoldable pub frames_within : {L : Type 0} → (List ℕ → Result (L × List ℕ) LogFault) → ℕ → List ℕ → Result (List L) LogFault
frames_within reads zero bytes = Ok []
frames_within reads (suc n) [] = Ok []
frames_within reads (suc n) (b ∷ bytes) = do
  first ← frame_at reads (b ∷ bytes)
  others ← frames_within reads n first.1
  Ok (first.0 ∷ others)

-- the logs of all frames; there are at most as many frames as bytes
abbrev pub frames_at : {L : Type 0} → (List ℕ → Result (L × List ℕ) LogFault) → List ℕ → Result (List L) LogFault
frames_at reads bytes = frames_within reads (length bytes) bytes

-- ---- the first fault

abbrev pub fault_of : {Y : Type 0} → Result Y LogFault → Option LogFault
fault_of (Ok y) = None
fault_of (Err fault) = Some fault

-- the first fault of a query's log
abbrev pub log_fault : List ℕ → Option LogFault
log_fault bytes = fault_of (whole log_at bytes)

-- the first fault of a join's log
abbrev pub join_log_fault : List ℕ → Option LogFault
join_log_fault bytes = fault_of (whole join_log_at bytes)

-- the first fault of frames of queries' logs
abbrev pub frames_fault : List ℕ → Option LogFault
frames_fault bytes = fault_of (frames_at log_at bytes)

-- the first fault of frames of joins' logs
abbrev pub join_frames_fault : List ℕ → Option LogFault
join_frames_fault bytes = fault_of (frames_at join_log_at bytes)
