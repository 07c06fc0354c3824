-- The bytes of a file, page by page.
use Rattle.std.specs.Prelude.{◌≡◌, ℕ, ◌+◌, ◌*◌, ◌<◌, List, length, slice_index}
use Rattle.std.proofs.Common.{sym, ◌∙◌, arith}
use Rattle.std.proofs.lemmas.List.{ext_get_or}
use Rattle.disk_model.specs.Memory.Files.{tabulated, length-tabulated, place-tabulated}
use Rattle.node_page.specs.Opening.{page_of}

pub length-page_of : (file : List ℕ) (p : ℕ) → length (page_of file p) ≡ 4096
unfolding page_of tabulated
length-page_of file p = length-tabulated 4096 (λ k. slice_index file (4096 * p + k))

pub place-page_of : (file : List ℕ) (p k : ℕ) → k < 4096 → slice_index (page_of file p) k ≡ slice_index file (4096 * p + k)
unfolding page_of tabulated
place-page_of file p k below = place-tabulated 4096 (λ k. slice_index file (4096 * p + k)) k below

-- two files whose places are the same there have the same page
pub same_page : (one other : List ℕ) (p : ℕ) →
    ((k : ℕ) → k < 4096 → slice_index one (4096 * p + k) ≡ slice_index other (4096 * p + k)) → page_of one p ≡ page_of other p
same_page one other p same = ext_get_or 0 (page_of one p) (page_of other p) (length-page_of one p ∙ sym (length-page_of other p))
    (λ k below. place k (omega (arith, length-page_of one p, below)))
  where
    place : (k : ℕ) → k < 4096 → slice_index (page_of one p) k ≡ slice_index (page_of other p) k
    place k below = place-page_of one p k below ∙ same k below ∙ sym (place-page_of other p k below)

-- a page that holds these bytes
pub page_is : (file : List ℕ) (p : ℕ) (bytes : List ℕ) → length bytes ≡ 4096 →
    ((k : ℕ) → k < 4096 → slice_index file (4096 * p + k) ≡ slice_index bytes k) → page_of file p ≡ bytes
page_is file p bytes size same = ext_get_or 0 (page_of file p) bytes (length-page_of file p ∙ sym size)
    (λ k below. place k (omega (arith, length-page_of file p, below)))
  where
    place : (k : ℕ) → k < 4096 → slice_index (page_of file p) k ≡ slice_index bytes k
    place k below = place-page_of file p k below ∙ same k below
