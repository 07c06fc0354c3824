-- The one spelling of a carried log. Numbers are big-endian.
use Rattle.std.specs.Prelude.{◌≡◌, ℕ, ◌+◌, ◌^◌, ◌<◌, ◌≤◌, ◌==◌, ◌&&◌, nat_lt, Bool, true, List, [], ◌∷◌, ◌++◌, length, Option, Some, None, if◌then◌else◌}
use Rattle.std.specs.List.{AllByRecursion}
use Rattle.byteorder.specs.Endian.{big_bytes}
use Rattle.prune_log.specs.Spelling.{listed, frame_bytes}
use Rattle.seal_log.specs.declared.parts.CarriedPage.{CarriedPage}
use Rattle.seal_log.specs.declared.parts.Parts.{Parts}

-- the letters `MTPF` as a number, the first letter highest
abbrev pub magic : ℕ
magic = 1297371206

-- a digest
abbrev pub digest_bytes : List ℕ → List ℕ
digest_bytes d = d

-- a page: its number, its bytes, and its path
abbrev pub page_bytes : CarriedPage → List ℕ
page_bytes p = big_bytes 4 p.page ++ (p.bytes ++ listed 1 digest_bytes p.path)

-- the letters and the version
abbrev pub opening_bytes : List ℕ
opening_bytes = big_bytes 4 magic ++ 1 ∷ []

-- what stands before the log: the letters, the version, the number of the file's pages, and the carried pages
abbrev pub parts_bytes : Parts → List ℕ
parts_bytes parts = opening_bytes ++ (big_bytes 4 parts.pages ++ listed 4 page_bytes parts.carried)

-- a carried log with these bytes of its log
abbrev pub carried_bytes : Parts → List ℕ → List ℕ
carried_bytes parts log = parts_bytes parts ++ frame_bytes log

-- ---- which carried logs have a spelling

-- whether a page may stand behind the last one: the first is page 0, then come 1 and 2, and the others ascend
abbrev pub is_behind : Option ℕ → ℕ → Bool
is_behind None page = page == 0
is_behind (Some last) page = if nat_lt last 2 then page == last + 1 else nat_lt last page

-- whether a page of a file of `pages` pages may stand behind the last one
abbrev pub may_follow : ℕ → Option ℕ → ℕ → Bool
may_follow pages last page = nat_lt page pages && is_behind last page

-- 32 bytes
abbrev pub IsDigest : List ℕ → Type 0
IsDigest d = length d ≡ 32

-- a page of 4096 bytes with a path of at most 255 digests
pub record IsCarriedPage (p : CarriedPage) : Type 0 where
  pub number : p.page < 2 ^ 32
  pub size : length p.bytes ≡ 4096
  pub few : length p.path < 256
  pub path : AllByRecursion IsDigest p.path

-- each page may stand behind the one before it, and the first behind `last`
abbrev pub AreInPlace : ℕ → Option ℕ → List CarriedPage → Type 0
AreInPlace pages last [] = Unit {0}
AreInPlace pages last (p ∷ ps) = (may_follow pages last p.page ≡ true) × AreInPlace pages (Some p.page) ps

-- the parts that have a spelling; the first three carried pages are the head and the two slots
pub record AreValid (parts : Parts) : Type 0 where
  pub pages : parts.pages < 2 ^ 32
  pub some : 3 ≤ length parts.carried
  pub few : length parts.carried < 2 ^ 32
  pub each : AllByRecursion IsCarriedPage parts.carried
  pub in_place : AreInPlace parts.pages None parts.carried
