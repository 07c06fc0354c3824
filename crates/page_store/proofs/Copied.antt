-- A page that a file in memory has whole.
use Rattle.std.specs.Prelude.{Option, Some, None, IfSome, MatchOption}
use Rattle.std.specs.Array.{IsFirstChunk}
use Rattle.std.proofs.Common.{◌≡◌, ℕ, ◌+◌, ◌-◌, ◌*◌, ◌<◌, ◌≤◌, List, length, take, drop, slice_index, sym, ◌∙◌, ap, subst, arith}
use Rattle.std.proofs.lemmas.List.{length-take-le, get_or-drop, get_or-take, take_rest}
use Rattle.node_page.specs.Opening.{page_of}
use Rattle.page_store.proofs.PageBytes.{page_is}

page_taken : (file bytes : List ℕ) (page from : ℕ) → from ≡ 4096 * page → 4096 ≤ length (drop from file) → bytes ≡ take 4096 (drop from file) →
    bytes ≡ page_of file page
page_taken file bytes page from at enough is = sym (page_is file page bytes long place)
  where
    long : length bytes ≡ 4096
    long = ap length is ∙ length-take-le 4096 (drop from file) enough

    place : (k : ℕ) → k < 4096 → slice_index file (4096 * page + k) ≡ slice_index bytes k
    place k below =
        let here : from + k ≡ 4096 * page + k = omega (arith, at) in
        sym (ap (λ (xs : List ℕ). slice_index xs k) is
        ∙ get_or-take 4096 (drop from file) k 0 below
        ∙ get_or-drop from file k 0
        ∙ ap (λ (m : ℕ). slice_index file m) here)

-- the first chunk of what a file has from there on
pub page_in_chunk : {B : Type 0} (now : B → List ℕ) (o : Option B) (file : List ℕ) (page from : ℕ) → from ≡ 4096 * page
    → MatchOption o (length (take (length file - from) (drop from file)) < 4096) (λ y. IsFirstChunk (take (length file - from) (drop from file)) (now y) 4096)
    → IfSome o (λ y. now y ≡ page_of file page)
page_in_chunk now (Some y) file page from at chunk = page_taken file (now y) page from at
    (subst (λ (rest : List ℕ). 4096 ≤ length rest) (take_rest file from) chunk.enough) (chunk.same ∙ ap (take 4096) (take_rest file from))
page_in_chunk now None file page from at chunk = tt
