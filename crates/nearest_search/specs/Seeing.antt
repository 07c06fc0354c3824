-- What a search keeps of the entries of an opened page, in place of the node.
use Rattle.std.specs.Prelude.{◌≡◌, ℕ, suc, ◌-◌, ◌≤◌, Bool, true, false, List, [], ◌∷◌, map, filter, length, replicate, slice_set, Option, Some, None, if◌then◌else◌, nat_lt}
use Rattle.metric_laws.specs.Space.{Space}
use Rattle.metric_laws.specs.Pruning.{gap}
use Rattle.tree_shape.specs.declared.entry.LeafEntry.{LeafEntry}
use Rattle.tree_shape.specs.declared.entry.InnerEntry.{InnerEntry}
use Rattle.tree_shape.specs.declared.entry.Node.{Node}
use Rattle.tree_shape.specs.declared.entry.Node.TheVariants.{Leaf, Inner}
use Rattle.log_model.specs.declared.marks.Mark.{Mark}
use Rattle.log_model.specs.declared.marks.Mark.TheVariants.{Skip, Far, Near}
use Rattle.log_model.specs.declared.marks.Need.{Need}
use Rattle.log_model.specs.declared.marks.Record.{Record}
use Rattle.log_model.specs.declared.tagged.TaggedHit.{TaggedHit}
use Rattle.log_model.specs.Walk.{Search, away, is_skipped, search_at}
use Rattle.nearest_search.specs.declared.seen.Sight.{Sight}
use Rattle.nearest_search.specs.declared.seen.Sheet.{Sheet}
use Rattle.nearest_search.specs.declared.seen.Sheet.TheVariants as sheet

-- what was seen of an opened node: how many entries it has, and the sights of those that the parent test left, in the node's order
pub data Seen : Type 0 where
  -- a leaf, and sights of its objects
  Objects : ℕ → List Sight → Seen
  -- an inner node, and sights of its subtrees
  Subtrees : ℕ → List Sight → Seen

-- the distance below which no object of an entry lies, by the distances to the routing point above
abbrev pub skip_of : Option ℕ → ℕ → ℕ → ℕ
skip_of None stored radius = 0
skip_of (Some above) stored radius = gap above stored - radius

-- what a search sees of an object or a subtree at a place of its node
abbrev pub object_sight : Search → Option ℕ → ℕ → LeafEntry → Sight
object_sight f above place e = record { place = place; name = e.id; skip = skip_of above e.parent 0; far = away f e.point; dist = away f e.point; tag = e.tag }

abbrev pub subtree_sight : Search → Option ℕ → ℕ → InnerEntry → Sight
subtree_sight f above place e = record { place = place; name = e.child; skip = skip_of above e.parent e.radius; far = away f e.point - e.radius; dist = away f e.point; tag = 0 }

-- the sights of the entries that are not skipped; the first entry stands at a place
abbrev pub sights_from : {X : Type 0} → (X → Bool) → (ℕ → X → Sight) → ℕ → List X → List Sight
sights_from skips sight place [] = []
sights_from skips sight place (e ∷ es) = if skips e then sights_from skips sight (suc place) es else sight place e ∷ sights_from skips sight (suc place) es

-- the sights of the objects or subtrees that the parent test does not rule out; the first entry stands at a place
abbrev pub objects_seen : Search → Option ℕ → ℕ → List LeafEntry → List Sight
objects_seen f above place es = sights_from (λ e. is_skipped f above e.parent 0) (object_sight f above) place es

abbrev pub subtrees_seen : Search → Option ℕ → ℕ → List InnerEntry → List Sight
subtrees_seen f above place es = sights_from (λ e. is_skipped f above e.parent e.radius) (subtree_sight f above) place es

-- the mark of an entry at a radius, by what was seen of it
abbrev pub mark_at : ℕ → Sight → Mark
mark_at rho x = if nat_lt rho x.skip then Skip else (if nat_lt rho x.far then Far else Near)

abbrev pub is_near : Mark → Bool
is_near Skip = false
is_near Far = false
is_near Near = true

-- marks with one set anew; Skip leaves them as they are
abbrev pub put_mark : List Mark → ℕ → Mark → List Mark
put_mark marks place Skip = marks
put_mark marks place Far = slice_set marks place Far
put_mark marks place Near = slice_set marks place Near

-- marks set anew at a radius, where sights stand
abbrev pub marked_by : ℕ → List Mark → List Sight → List Mark
marked_by rho marks [] = marks
marked_by rho marks (x ∷ xs) = marked_by rho (put_mark marks x.place (mark_at rho x)) xs

-- the sights that are marked Near at a radius, and what they are to the log: hits with their tags, and needed pages
abbrev pub seen_near : ℕ → List Sight → List Sight
seen_near rho xs = filter (λ x. is_near (mark_at rho x)) xs

abbrev pub tagged_seen : Sight → TaggedHit
tagged_seen x = record { hit = record { id = x.name; dist = x.dist }; tag = x.tag }

abbrev pub need_seen : Sight → Need
need_seen x = record { page = x.name; above = Some x.dist }

-- what was seen of the node's entries by a search with a radius of at least rho
abbrev pub IsSeenOf : Space → List ℕ → ℕ → Option ℕ → Node → Seen → Type 0
IsSeenOf s q rho above (Leaf es) (Objects count xs) = (r : ℕ) × (rho ≤ r) × (count ≡ length es) × (xs ≡ objects_seen (search_at s q r) above 0 es)
IsSeenOf s q rho above (Leaf es) (Subtrees count xs) = ⊥
IsSeenOf s q rho above (Inner level es) (Objects count xs) = ⊥
IsSeenOf s q rho above (Inner level es) (Subtrees count xs) = (r : ℕ) × (rho ≤ r) × (count ≡ length es) × (xs ≡ subtrees_seen (search_at s q r) above 0 es)

-- what a sheet of the program says
abbrev pub seen_on : Sheet → Seen
seen_on (sheet.Objects count xs) = Objects count xs.now
seen_on (sheet.Subtrees count xs) = Subtrees count xs.now

-- what was seen of a leaf, or else of an inner node
abbrev pub seen_of : Bool → ℕ → List Sight → Seen
seen_of true count xs = Objects count xs
seen_of false count xs = Subtrees count xs

-- the number of the node's entries, the sights, and what the log has of them at a radius
abbrev pub count_of : Seen → ℕ
count_of (Objects count xs) = count
count_of (Subtrees count xs) = count

abbrev pub sights : Seen → List Sight
sights (Objects count xs) = xs
sights (Subtrees count xs) = xs

abbrev pub tagged_near : ℕ → Seen → List TaggedHit
tagged_near rho (Objects count xs) = map tagged_seen (seen_near rho xs)
tagged_near rho (Subtrees count xs) = []

abbrev pub needs_seen : ℕ → Seen → List Need
needs_seen rho (Objects count xs) = []
needs_seen rho (Subtrees count xs) = map need_seen (seen_near rho xs)

abbrev pub marks_seen : ℕ → ℕ → List Sight → List Mark
marks_seen rho count xs = marked_by rho (replicate count Skip) xs

abbrev pub record_seen : ℕ → ℕ → Seen → Record
record_seen rho page seen = record { page = page; marks = marks_seen rho (count_of seen) (sights seen) }
