-- The path of a page: the partner of its digest, then the partner of each digest above it, from the bottom up.
use Rattle.std.specs.Prelude.{ℕ, zero, suc, ◌+◌, ◌-◌, ◌/◌, ◌%◌, ◌==◌, ◌||◌, nat_le, nat_lt, Bool, false, List, [], ◌∷◌, ◌++◌, slice_get, Option, Some, None, if◌then◌else◌}
use Rattle.std.specs.Str.{bytes_eq}
use Rattle.std.specs.Option.{option_to_list}
use Rattle.sha2.specs.Sha256.{sha256}
use Rattle.seal_log.specs.Digests.{Digest, leaf_message, pair_message, root_message}

-- whether the digest at a place of a level of this width has a partner: only a last one may stand alone
unfoldable pub has_partner : ℕ → ℕ → Bool
has_partner width i = (i % 2 == 1) || nat_lt (i + 1) width

-- the place of the partner
unfoldable pub partner_of : ℕ → ℕ
partner_of i = if i % 2 == 1 then i - 1 else i + 1

-- ---- the path in the levels

-- the partner at a level, if there is one
unfoldable pub partners_at : List Digest → ℕ → List Digest
partners_at level i = option_to_list (slice_get level (partner_of i))

-- the path of the digest at a place of the lowest level
unfoldable pub path_in : List (List Digest) → ℕ → List Digest
path_in [] i = []
path_in (level ∷ above) i = partners_at level i ++ path_in above (i / 2)

-- ---- the check of a path

-- the widths of the levels from `width` up to a level of one digest, at most `more` levels above it
unfoldable pub widths_within : ℕ → ℕ → List ℕ
widths_within zero width = width ∷ []
widths_within (suc more) width = width ∷ (if nat_le width 1 then [] else widths_within more ((width + 1) / 2))

-- the widths of the levels over `leaves` leaves
unfoldable pub widths_over : ℕ → List ℕ
widths_over leaves = widths_within leaves leaves

-- what is hashed of the digest at a place and its partner
unfoldable pub message_at : ℕ → Digest → Digest → List ℕ
message_at i digest partner = if i % 2 == 1 then pair_message partner digest else pair_message digest partner

-- the digest at the top that a path leads to, from the digest at place `i` of the lowest level; none where the path has another
-- number of digests
unfoldable pub climbed : List ℕ → ℕ → Digest → List Digest → Option Digest
climbed [] i digest [] = Some digest
climbed [] i digest (partner ∷ path) = None
climbed (width ∷ widths) i digest [] = if has_partner width i then None else climbed widths (i / 2) digest []
climbed (width ∷ widths) i digest (partner ∷ path) =
    if has_partner width i then climbed widths (i / 2) (sha256 (message_at i digest partner)) path else climbed widths (i / 2) digest (partner ∷ path)

-- what is hashed on the way
unfoldable pub climb_messages : List ℕ → ℕ → Digest → List Digest → List (List ℕ)
climb_messages [] i digest path = []
climb_messages (width ∷ widths) i digest [] = []
climb_messages (width ∷ widths) i digest (partner ∷ path) =
    if has_partner width i then message_at i digest partner ∷ climb_messages widths (i / 2) (sha256 (message_at i digest partner)) path
    else climb_messages widths (i / 2) digest (partner ∷ path)

-- the top is that of a file of `pages` pages with the root digest `root`
unfoldable pub is_top : Digest → ℕ → Option Digest → Bool
is_top root pages None = false
is_top root pages (Some top) = bytes_eq (sha256 (root_message pages top)) root

-- `path` leads from `bytes`, as page `i` of a file of `pages` pages, to the root digest `root`
unfoldable pub leads_to : Digest → ℕ → ℕ → List ℕ → List Digest → Bool
leads_to root pages i bytes path = is_top root pages (climbed (widths_over pages) i (sha256 (leaf_message bytes)) path)

-- the root's message
unfoldable pub top_messages : ℕ → Option Digest → List (List ℕ)
top_messages pages None = []
top_messages pages (Some top) = root_message pages top ∷ []

-- what is hashed to check a path
unfoldable pub check_messages : ℕ → ℕ → List ℕ → List Digest → List (List ℕ)
check_messages pages i bytes path =
    leaf_message bytes
    ∷ (climb_messages (widths_over pages) i (sha256 (leaf_message bytes)) path ++ top_messages pages
    (climbed (widths_over pages) i (sha256 (leaf_message bytes)) path))
