-- The one spelling of each log and of each list of frames. Numbers are big-endian.
use Rattle.std.specs.Prelude.{ℕ, Bool, true, false, List, [], ◌∷◌, ◌++◌, length}
use Rattle.std.specs.List.{flat_map}
use Rattle.byteorder.specs.Endian.{big_bytes}
use Rattle.scan_model.specs.declared.hit.Hit.{Hit}
use Rattle.scan_model.specs.declared.hit.Pair.{Pair}
use Rattle.scan_model.specs.declared.query.Query.{Query}
use Rattle.scan_model.specs.declared.query.Query.TheVariants.{Range, Nearest}
use Rattle.log_model.specs.declared.marks.Mark.{Mark}
use Rattle.log_model.specs.declared.marks.Mark.TheVariants.{Skip, Far, Near}
use Rattle.log_model.specs.declared.marks.Record.{Record}
use Rattle.log_model.specs.declared.marks.JoinRecord.{JoinRecord}
use Rattle.log_model.specs.declared.logs.Log.{Log}
use Rattle.log_model.specs.declared.logs.JoinLog.{JoinLog}
use Rattle.log_model.specs.Grammar.{query_point}

-- the letters `MTLG` as a number, the first letter highest
abbrev pub magic : ℕ
magic = 1297370183

-- a count in `width` bytes, and the items one after the other
abbrev pub listed : {X : Type 0} → ℕ → (X → List ℕ) → List X → List ℕ
listed width spelled xs = big_bytes width (length xs) ++ flat_map spelled xs

-- a coordinate
abbrev pub coordinate_bytes : ℕ → List ℕ
coordinate_bytes x = big_bytes 4 x

-- a hit: its id and its distance
abbrev pub hit_bytes : Hit → List ℕ
hit_bytes h = big_bytes 4 h.id ++ big_bytes 8 h.dist

-- a pair: the left id, the right id and the distance
abbrev pub pair_bytes : Pair → List ℕ
pair_bytes p = big_bytes 4 p.left ++ (big_bytes 4 p.right ++ big_bytes 8 p.dist)

-- a mark
abbrev pub mark_bytes : Mark → List ℕ
mark_bytes Skip = 0 ∷ []
mark_bytes Far = 1 ∷ []
mark_bytes Near = 2 ∷ []

-- a record: the page, and the marks
abbrev pub record_bytes : Record → List ℕ
record_bytes r = big_bytes 4 r.page ++ listed 1 mark_bytes r.marks

-- a side
abbrev pub side_bytes : Bool → List ℕ
side_bytes false = 0 ∷ []
side_bytes true = 1 ∷ []

-- a join's record: the side, the page, and the marks
abbrev pub join_record_bytes : JoinRecord → List ℕ
join_record_bytes r = side_bytes r.right ++ (big_bytes 4 r.page ++ listed 1 mark_bytes r.marks)

-- the kind of a query
abbrev pub kind_bytes : Query → List ℕ
kind_bytes (Range q r) = 1 ∷ []
kind_bytes (Nearest q k) = 2 ∷ []

-- the radius of a range query, or k of a k-NN query
abbrev pub amount_of : Query → ℕ
amount_of (Range q r) = r
amount_of (Nearest q k) = k

-- the radius or k, and the point
abbrev pub query_bytes : Query → List ℕ
query_bytes query = big_bytes 8 (amount_of query) ++ listed 1 coordinate_bytes (query_point query)

-- the letters and the version
abbrev pub opening_bytes : List ℕ
opening_bytes = big_bytes 4 magic ++ 1 ∷ []

-- a tree: its generation and its root
abbrev pub tree_bytes : ℕ → ℕ → List ℕ
tree_bytes generation root = big_bytes 8 generation ++ big_bytes 4 root

-- a log
abbrev pub log_bytes : Log → List ℕ
log_bytes log =
    opening_bytes ++ (kind_bytes log.query ++ (tree_bytes log.generation log.root ++ (query_bytes log.query
    ++ (listed 4 hit_bytes log.answers ++ listed 4 record_bytes log.records))))

-- the letters, the version and the kind of a join's log
abbrev pub join_opening_bytes : List ℕ
join_opening_bytes = opening_bytes ++ 3 ∷ []

-- the left tree and the right
abbrev pub trees_bytes : ℕ × ℕ → ℕ × ℕ → List ℕ
trees_bytes left right = tree_bytes left.0 left.1 ++ tree_bytes right.0 right.1

-- a join's log
abbrev pub join_log_bytes : JoinLog → List ℕ
join_log_bytes log =
    join_opening_bytes ++ (trees_bytes log.left log.right ++ (big_bytes 8 log.r
    ++ (listed 8 pair_bytes log.answers ++ listed 8 join_record_bytes log.records)))

-- a frame: the length, and the bytes
abbrev pub frame_bytes : List ℕ → List ℕ
frame_bytes bytes = big_bytes 8 (length bytes) ++ bytes

-- frames of logs, one after the other
abbrev pub frames_bytes : {L : Type 0} → (L → List ℕ) → List L → List ℕ
frames_bytes spelled logs = flat_map (λ log. frame_bytes (spelled log)) logs
