-- The root digest of a file: a tree of SHA-256 digests over its pages. The hashed message of a page, of a pair and of the root each
-- begins with its own byte, so that no message of one kind is a message of another.
use Rattle.std.specs.Prelude.{◌≡◌, ℕ, zero, suc, ◌≤◌, ◌<◌, ◌^◌, nat_le, List, [], ◌∷◌, ◌++◌, length, map, get_or, if◌then◌else◌}
use Rattle.std.specs.List.{range_with_len, flat_map}
use Rattle.byteorder.specs.Endian.{big_bytes}
use Rattle.sha2.specs.Sha256.{sha256}
use Rattle.node_page.specs.Opening.{page_of}

-- 32 bytes
abbrev pub Digest : Type 0
Digest = List ℕ

-- ---- what is hashed

-- the message hashed for a page
abbrev pub leaf_message : List ℕ → List ℕ
leaf_message page = 0 ∷ page

-- the message hashed for a pair of digests
abbrev pub pair_message : Digest → Digest → List ℕ
pair_message left right = 1 ∷ (left ++ right)

-- the message hashed for the root: the number of pages, and the digest at the top
abbrev pub root_message : ℕ → Digest → List ℕ
root_message pages top = 2 ∷ (big_bytes 4 pages ++ top)

-- ---- the levels

-- a level paired from the left; a last digest without a partner goes up unchanged
unfoldable pub paired : List Digest → List Digest
paired [] = []
paired (d ∷ []) = d ∷ []
paired (left ∷ right ∷ others) = sha256 (pair_message left right) ∷ paired others

-- the levels from the given one up to a level of one digest, at most `more` levels above it
unfoldable pub levels_within : ℕ → List Digest → List (List Digest)
levels_within zero level = level ∷ []
levels_within (suc more) level = level ∷ (if nat_le (length level) 1 then [] else levels_within more (paired level))

-- all levels over these leaves
abbrev pub levels_over : List Digest → List (List Digest)
levels_over leaves = levels_within (length leaves) leaves

-- the lowest of some levels
abbrev pub lowest : List (List Digest) → List Digest
lowest [] = []
lowest (level ∷ above) = level

-- the digest at a place of a level
abbrev pub digest_at : List Digest → ℕ → Digest
digest_at level i = get_or level i []

-- the first digest of the last level
unfoldable pub top_of : List (List Digest) → Digest
top_of [] = []
top_of (level ∷ []) = digest_at level 0
top_of (level ∷ above ∷ others) = top_of (above ∷ others)

-- ---- of a file

-- the digests of the first pages
unfoldable pub leaf_digests : List ℕ → ℕ → List Digest
leaf_digests file pages = map (λ i. sha256 (leaf_message (page_of file i))) (range_with_len 0 pages)

-- the root digest over the leaves' digests
unfoldable pub root_over : List Digest → Digest
root_over leaves = sha256 (root_message (length leaves) (top_of (levels_over leaves)))

-- the root digest of a file of `pages` pages
abbrev pub root_digest : List ℕ → ℕ → Digest
root_digest file pages = root_over (leaf_digests file pages)

-- ---- what is hashed for a file

-- the messages of the pairs of a level
unfoldable pub pair_messages : List Digest → List (List ℕ)
pair_messages [] = []
pair_messages (d ∷ []) = []
pair_messages (left ∷ right ∷ others) = pair_message left right ∷ pair_messages others

-- the messages of the root, of the pages and of the pairs of all levels
unfoldable pub hashed_for : List ℕ → ℕ → List (List ℕ)
hashed_for file pages =
    root_message pages (top_of (levels_over (leaf_digests file pages)))
    ∷ (map (λ i. leaf_message (page_of file i)) (range_with_len 0 pages) ++ flat_map pair_messages (levels_over (leaf_digests file pages)))

-- the levels over at least one leaf, and their root digest
pub record AreLevels (levels : List (List Digest)) (root : Digest) : Type 0 where
  pub whole : levels ≡ levels_over (lowest levels)
  pub some : 1 ≤ length (lowest levels)
  pub few : length (lowest levels) < 2 ^ 32
  pub root_is : root ≡ root_over (lowest levels)
