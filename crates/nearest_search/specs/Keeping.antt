-- What a search keeps of each opening of a page.
use Rattle.std.specs.Prelude.{◌≡◌, ℕ, ◌<◌, ◌≤◌, Bool, ◌&&◌, nat_eq, List, [], ◌∷◌, ◌++◌, length, slice_index_or, slice_range, Option, Some, All}
use Rattle.std.specs.Option.{option_eq, option_map}
use Rattle.std.specs.Map.{lookup}
use Rattle.metric_laws.specs.Space.{Space}
use Rattle.tree_shape.specs.declared.entry.Node.{Node}
use Rattle.tree_shape.specs.Tree.{Nodes}
use Rattle.nearest_search.specs.declared.kept.Kept.{Kept}
use Rattle.nearest_search.specs.declared.kept.Span.{Span}
use Rattle.nearest_search.specs.declared.kept.Turn.{Turn}
use Rattle.nearest_search.specs.declared.seen.Sight.{Sight}
use Rattle.nearest_search.specs.Seeing.{Seen, IsSeenOf, seen_of, count_of, sights}

-- whether two openings are of one page, below routing points at one distance
abbrev pub is_turn : Turn → Turn → Bool
is_turn a b = nat_eq a.page b.page && option_eq nat_eq a.above b.above

-- the blocks of sights, the last one at the end
abbrev pub blocks_of : Kept → List (List Sight)
blocks_of kept = kept.full.items ++ kept.last.items ∷ []

abbrev pub sights_in : List (List Sight) → ℕ → List Sight
sights_in blocks block = slice_index_or blocks block []

-- no block is lost, and each has the sights that it had, and may have more behind them
pub record Grows (old new : List (List Sight)) : Type 0 where
  pub none_lost : length old ≤ length new
  pub more : (block : ℕ) → block < length old → (added : List Sight) × (sights_in new block ≡ sights_in old block ++ added)

-- the span lies within one of the blocks
pub record LiesWithin (blocks : List (List Sight)) (span : Span) : Type 0 where
  pub block : span.block < length blocks
  pub ordered : span.from ≤ span.to
  pub within : span.to ≤ length (sights_in blocks span.block)

-- what the sights at a span say
abbrev pub seen_at : List (List Sight) → Span → Seen
seen_at blocks span = seen_of span.is_leaf span.count (slice_range (sights_in blocks span.block) span.from span.to)

-- what is kept of a page that was opened below a routing point at a distance
abbrev pub Sheets : Type 0
Sheets = ℕ → Option ℕ → Option Seen

-- where the sights of an opening stand, and what they say
abbrev pub kept_span : Kept → ℕ → Option ℕ → Option Span
kept_span kept page above = lookup (is_turn (record { page = page; above = above })) kept.spans.entries

abbrev pub kept_seen : Kept → Sheets
kept_seen kept page above = option_map (seen_at (blocks_of kept)) (kept_span kept page above)

-- the sights of each opening stand within a block
abbrev pub SpansFit : Kept → Type 0
SpansFit kept = (page : ℕ) (above : Option ℕ) (span : Span) → kept_span kept page above ≡ Some span → LiesWithin (blocks_of kept) span

-- something is kept of an opening
abbrev pub IsKept : Sheets → ℕ → Option ℕ → Type 0
IsKept kept page above = (seen : Seen) × (kept page above ≡ Some seen)

-- what is kept was seen of the pages' nodes, at radii of at least rho
abbrev pub AreSeenOf : Space → List ℕ → ℕ → Nodes → Sheets → Type 0
AreSeenOf s q rho nodes kept =
    (page : ℕ) (above : Option ℕ) (seen : Seen) → kept page above ≡ Some seen → (node : Node) × (nodes page ≡ Some node) × IsSeenOf s q rho above node seen

-- at most 32 entries were there, no more were seen, and each sight is of one of them
pub record IsFew (seen : Seen) : Type 0 where
  pub few : count_of seen ≤ 32
  pub no_more : length (sights seen) ≤ count_of seen
  pub placed : All (λ x. x.place < count_of seen) (sights seen)

-- of each page at most 32 entries were seen
abbrev pub KeepsFew : Sheets → Type 0
KeepsFew kept = (page : ℕ) (above : Option ℕ) (seen : Seen) → kept page above ≡ Some seen → IsFew seen
