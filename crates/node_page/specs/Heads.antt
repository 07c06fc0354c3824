-- The head of an index file: which page spells which head, and the first fault of a page that spells none.
use Rattle.std.specs.Prelude.{◌≡◌, ℕ, ◌%◌, ◌==◌, ◌&&◌, ◌||◌, not, nat_le, Bool, List, slice_index, IsTrue, Option, Some, None, if◌then◌else◌}
use Rattle.node_page.specs.Bytes.{number_at, AreZero, are_zero}
use Rattle.node_page.specs.declared.head.Head.{Head}
use Rattle.node_page.specs.declared.head.HeadFault.{HeadFault}
use Rattle.node_page.specs.declared.head.HeadFault.TheVariants.{Magic, Version, Space, Policy, Limit, Tail}

-- the letters `MTREEIDX` as a number, the first letter highest
abbrev pub magic : ℕ
magic = 5572169096432796760

-- version 1 or 2
unfoldable pub is_version : ℕ → Bool
is_version version = (version == 1) || (version == 2)

-- one of eight metrics and 1 to 64 coordinates, which come in pairs for the metrics 6 and 7
unfoldable pub is_space : ℕ → ℕ → Bool
is_space kind dim = nat_le 1 kind && nat_le kind 8 && nat_le 1 dim && nat_le dim 64 && (not ((kind == 6) || (kind == 7)) || (dim % 2 == 0))

-- one of two ways to promote and one of two ways to share out
unfoldable pub is_policy : ℕ → ℕ → Bool
is_policy promote split = ((promote == 1) || (promote == 2)) && ((split == 1) || (split == 2))

-- a limit of 1 to 2 ^ 24
unfoldable pub is_limit : ℕ → Bool
is_limit limit = nat_le 1 limit && nat_le limit 16777216

-- each field has a value that it may have
pub record IsValidHead (head : Head) : Type 0 where
  pub version : IsTrue (is_version head.version)
  pub space : IsTrue (is_space head.kind head.dim)
  pub policy : IsTrue (is_policy head.promote head.split)
  pub limit : IsTrue (is_limit head.limit)

-- the page has this head's fields in their places, and 0 elsewhere
pub record SpellsHead (page : List ℕ) (head : Head) : Type 0 where
  pub magic : number_at 0 8 page ≡ magic
  pub version : number_at 8 2 page ≡ head.version
  pub kind : slice_index page 10 ≡ head.kind
  pub dim : slice_index page 11 ≡ head.dim
  pub promote : slice_index page 12 ≡ head.promote
  pub split : slice_index page 13 ≡ head.split
  pub between : AreZero 14 16 page
  pub limit : number_at 16 4 page ≡ head.limit
  pub behind : AreZero 20 4096 page
  pub valid : IsValidHead head

-- the fields of a page
unfoldable pub head_of : List ℕ → Head
head_of page = record {
  version = number_at 8 2 page;
  kind = slice_index page 10;
  dim = slice_index page 11;
  promote = slice_index page 12;
  split = slice_index page 13;
  limit = number_at 16 4 page;
}

-- the first fault of a page
unfoldable pub head_fault : List ℕ → Option HeadFault
head_fault page =
    if not (number_at 0 8 page == magic) then Some Magic
    else if not (is_version (head_of page).version) then Some Version
    else if not (is_space (head_of page).kind (head_of page).dim) then Some Space
    else if not (is_policy (head_of page).promote (head_of page).split) then Some Policy
    else if not (is_limit (head_of page).limit) then Some Limit
    else if not (are_zero 14 2 page) || not (are_zero 20 4076 page) then Some Tail
    else None
