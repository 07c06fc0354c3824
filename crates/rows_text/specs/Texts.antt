-- The text of replies and queries.
use Rattle.std.specs.Prelude.{◌≡◌, ◌≤◌, take, ℕ, Bool, List, [], ◌∷◌, ◌++◌, length, codes, decimal, flat_map, if◌then◌else◌}
use Rattle.scan_model.specs.declared.hit.Hit.{Hit}
use Rattle.scan_model.specs.declared.hit.Pair.{Pair}
use Rattle.scan_model.specs.declared.query.Query.{Query}
use Rattle.scan_model.specs.declared.query.Query.TheVariants as query
use Rattle.rows_text.specs.declared.refusal.Refusal.{Refusal}
use Rattle.rows_text.specs.declared.refusal.Refusal.TheVariants as refusal
use Rattle.rows_text.specs.declared.reply.Reply.{Reply}
use Rattle.rows_text.specs.declared.reply.Reply.TheVariants as reply

-- the end of a line, a space, a comma
abbrev pub line_end : List ℕ
line_end = 10 ∷ []

abbrev pub space : List ℕ
space = 32 ∷ []

-- `WORD N`
abbrev pub counted : List ℕ → ℕ → List ℕ
counted word n = word ++ decimal n ++ line_end

-- `ID DIST`
abbrev pub hit_line : Hit → List ℕ
hit_line h = decimal h.id ++ space ++ decimal h.dist ++ line_end

-- `ID TAG DIST`
abbrev pub tagged_line : Hit → ℕ → List ℕ
tagged_line h tag = decimal h.id ++ space ++ decimal tag ++ space ++ decimal h.dist ++ line_end

abbrev pub tagged_lines : List Hit → List ℕ → List ℕ
tagged_lines [] tags = []
tagged_lines (h ∷ hits) [] = []
tagged_lines (h ∷ hits) (tag ∷ tags) = tagged_line h tag ++ tagged_lines hits tags

-- a line for each hit, with its tag or without
abbrev pub hit_lines : Bool → List Hit → List ℕ → List ℕ
hit_lines show hits tags = if show then tagged_lines hits tags else flat_map hit_line hits

-- `I J D`
abbrev pub pair_line : Pair → List ℕ
pair_line pair = decimal pair.left ++ space ++ decimal pair.right ++ space ++ decimal pair.dist ++ line_end

-- why a command is refused
abbrev pub reason : Refusal → List ℕ
reason refusal.Command = codes "command"
reason refusal.Dimension = codes "dimension"
reason refusal.Number = codes "number"
reason refusal.Count = codes "count"
reason refusal.Short = codes "short"
reason (refusal.Row i) = codes "row " ++ decimal i
reason refusal.NotEmpty = codes "notempty"
reason refusal.Full = codes "full"
reason refusal.Worn = codes "worn"
reason refusal.NoRoom = codes "noroom"
reason refusal.ReadOnly = codes "readonly"
reason refusal.NoCursor = codes "nocursor"
reason refusal.Cursors = codes "cursors"
reason refusal.Unfit = codes "unfit"

-- the lines of a reply, where tags are shown or hidden
abbrev pub text : Bool → Reply → List ℕ
text show (reply.Id id) = counted (codes "id ") id
text show (reply.Loaded count) = counted (codes "loaded ") count
text show (reply.Hits hits tags) = counted (codes "hits ") (length hits) ++ hit_lines show hits tags
text show (reply.Pairs pairs) = counted (codes "pairs ") (length pairs) ++ flat_map pair_line pairs
text show (reply.Count count) = counted (codes "count ") count
text show (reply.Refused why) = codes "refused " ++ reason why ++ line_end
text show (reply.Cursor number) = counted (codes "cursor ") number
text show (reply.Next hits tags) = counted (codes "next ") (length hits) ++ hit_lines show hits tags
text show (reply.Closed number) = counted (codes "closed ") number

-- a coordinate after a comma
abbrev pub coordinate_text : ℕ → List ℕ
coordinate_text x = 44 ∷ decimal x

-- a point's coordinates
abbrev pub coordinates_text : List ℕ → List ℕ
coordinates_text point = flat_map coordinate_text point

-- the line of a query
abbrev pub query_line : Query → List ℕ
query_line (query.Range q r) = codes "range," ++ decimal r ++ coordinates_text q ++ line_end
query_line (query.Nearest q k) = codes "nearest," ++ decimal k ++ coordinates_text q ++ line_end

-- old stands at the front of new
abbrev pub KeepsFront : List ℕ → List ℕ → Type 0
KeepsFront old new = (length old ≤ length new) × (take (length old) new ≡ old)
