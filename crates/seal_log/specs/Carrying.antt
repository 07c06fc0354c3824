-- The carried log of a log: pages 0, 1 and 2 and those that its records name, with their paths.
use Rattle.std.specs.Prelude.{◌≡◌, ◌↔◌, ℕ, ◌^◌, ◌<◌, List, ◌∷◌, length, map, Contains}
use Rattle.std.specs.List.{flat_map}
use Rattle.std.specs.List.Sorted.{IsStrictlyIncreasing}
use Rattle.log_model.specs.declared.marks.Record.{Record}
use Rattle.log_model.specs.declared.logs.Log.{Log}
use Rattle.node_page.specs.Opening.{page_of}
use Rattle.prune_log.specs.Spelling.{log_bytes}
use Rattle.seal_log.specs.declared.parts.CarriedPage.{CarriedPage}
use Rattle.seal_log.specs.declared.parts.Parts.{Parts}
use Rattle.seal_log.specs.Digests.{Digest, levels_over}
use Rattle.seal_log.specs.Paths.{path_in}
use Rattle.seal_log.specs.Spelling.{page_bytes, carried_bytes}

-- the head, the two slots, and the pages that the records name
abbrev pub needed_pages : Log → List ℕ
needed_pages log = 0 ∷ 1 ∷ 2 ∷ map (λ (r : Record). r.page) log.records

-- a page of a file with its path
abbrev pub page_with_path : List ℕ → List Digest → ℕ → CarriedPage
page_with_path file leaves page = record { page = page; bytes = page_of file page; path = path_in (levels_over leaves) page }

-- these pages of a file
abbrev pub parts_of : List ℕ → List Digest → List ℕ → Parts
parts_of file leaves pages = record { pages = length leaves; carried = map (page_with_path file leaves) pages }

-- these are the needed pages, in ascending order, each once
pub record AreNeeded (log : Log) (pages : List ℕ) : Type 0 where
  pub ascend : IsStrictlyIncreasing pages
  pub which : (page : ℕ) → Contains pages page ↔ Contains (needed_pages log) page

-- the bytes are the carried log of a log, over a file with these leaves
pub record Carries (file : List ℕ) (leaves : List Digest) (log : Log) (bytes : List ℕ) : Type 0 where
  pub pages : List ℕ
  pub needed : AreNeeded log pages
  pub few : length (log_bytes log) < 2 ^ 64
  pub spelled : bytes ≡ carried_bytes (parts_of file leaves pages) (log_bytes log)

-- the bytes of these pages of a file, with their paths
abbrev pub pages_bytes : List ℕ → List Digest → List ℕ → List ℕ
pages_bytes file leaves pages = flat_map page_bytes (map (page_with_path file leaves) pages)
