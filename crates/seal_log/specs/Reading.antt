-- Reading a carried log from left to right, by the fields that logs have too. A reading gives a value and the bytes behind it,
-- or the first fault that is met.
use Rattle.std.specs.Prelude.{ℕ, zero, suc, ◌==◌, nat_le, true, List, [], ◌∷◌, length, Option, Some, None, Result, Ok, Err, if◌then◌else◌}
use Rattle.prune_log.specs.declared.fault.LogFault.{LogFault}
use Rattle.prune_log.specs.declared.fault.LogFault.TheVariants as faults
use Rattle.prune_log.specs.Reading.{◌>>=◌, byte_at, number_at, front_at, short_at}
use Rattle.seal_log.specs.declared.parts.CarriedPage.{CarriedPage}
use Rattle.seal_log.specs.declared.parts.Parts.{Parts}
use Rattle.seal_log.specs.Spelling.{magic, may_follow}

-- the letters and the version
unfoldable pub opening_at : List ℕ → Result (List ℕ) LogFault
opening_at bytes = do
  letters ← number_at 4 bytes
  next ← if letters.0 == magic then Ok letters.1 else Err faults.Magic
  version ← byte_at next
  if version.0 == 1 then Ok version.1 else Err faults.Version

-- any number of digests
unfoldable pub path_at : List ℕ → Result (List (List ℕ) × List ℕ) LogFault
path_at bytes = short_at (λ n. true) faults.Cut (front_at 32) bytes

-- the number of a page, which may stand behind the last one
unfoldable pub place_at : ℕ → Option ℕ → List ℕ → Result (ℕ × List ℕ) LogFault
place_at pages last bytes = do
  page ← number_at 4 bytes
  if may_follow pages last page.0 then Ok page else Err faults.Order

-- a page, its bytes and its path
unfoldable pub page_at : ℕ → Option ℕ → List ℕ → Result (CarriedPage × List ℕ) LogFault
page_at pages last bytes = do
  page ← place_at pages last bytes
  body ← front_at 4096 page.1
  path ← path_at body.1
  Ok (record { page = page.0; bytes = body.0; path = path.0 }, path.1)

-- a given number of pages
unfoldable pub pages_at : ℕ → ℕ → Option ℕ → List ℕ → Result (List CarriedPage × List ℕ) LogFault
pages_at pages zero last bytes = Ok ([], bytes)
pages_at pages (suc n) last bytes = do
  first ← page_at pages last bytes
  others ← pages_at pages n (Some first.0.page) first.1
  Ok (first.0 ∷ others.0, others.1)

-- how many pages there are, at least three
unfoldable pub count_at : List ℕ → Result (ℕ × List ℕ) LogFault
count_at bytes = do
  count ← number_at 4 bytes
  if nat_le 3 count.0 then Ok count else Err faults.Order

-- what stands before the log
unfoldable pub parts_at : List ℕ → Result (Parts × List ℕ) LogFault
parts_at bytes = do
  opened ← opening_at bytes
  pages ← number_at 4 opened
  count ← count_at pages.1
  carried ← pages_at pages.0 count.0 None count.1
  Ok (record { pages = pages.0; carried = carried.0 }, carried.1)

-- all of the bytes: what stands before the log, and the log's bytes
unfoldable pub carried_at : List ℕ → Result (Parts × List ℕ) LogFault
carried_at bytes = do
  parts ← parts_at bytes
  size ← number_at 8 parts.1
  log ← front_at size.0 size.1
  if length log.1 == 0 then Ok (parts.0, log.0) else Err faults.Tail
