-- The pages of a file that stands in parts.
use Rattle.std.proofs.Common.{◌≡◌, ℕ, ◌+◌, ◌-◌, ◌*◌, ◌/◌, ◌%◌, ◌<◌, ◌≤◌, List, [], ◌∷◌, ◌++◌, suc, length, get_or, slice_index, inl, inr, refl, sym, ◌∙◌, ap, arith}
use Rattle.std.specs.List.{concat}
use Rattle.std.proofs.Math.Nat.{div-eq-sub-div, mod-eq-sub-mod, div-eq_of_lt, mod-eq_of_lt}
use Rattle.std.proofs.lemmas.Bool.{cases_lt}
use Rattle.std.proofs.lemmas.List.{append-nil, get_or_append_left, get_or-append_right, get_or_past}
use Rattle.node_page.specs.Opening.{page_of}
use Rattle.page_store.specs.Parts.{AreParts}
use Rattle.page_store.proofs.PageBytes.{length-page_of, place-page_of, page_is}

-- two pages with the same bytes
one_page : (file other : List ℕ) (p q : ℕ) → ((k : ℕ) → k < 4096 → slice_index file (4096 * p + k) ≡ slice_index other (4096 * q + k)) →
    page_of file p ≡ page_of other q
one_page file other p q same = page_is file p (page_of other q) (length-page_of other q) (λ k below. same k below ∙ sym (place-page_of other q k below))

-- the pages past a file's end are all one
pub past_end : (file : List ℕ) (p q : ℕ) → length file ≤ 4096 * p → page_of [] q ≡ page_of file p
past_end file p q past = one_page [] file q p (λ k below. sym (get_or_past file (4096 * p + k) 0 (omega (arith, past))))

-- a page of what stands first, and one behind it
first_page : (part rest : List ℕ) (m p : ℕ) → length part ≡ 4096 * m → p < m → page_of part p ≡ page_of (part ++ rest) p
first_page part rest m p size below = one_page part (part ++ rest) p p (λ k small. sym (get_or_append_left part rest 0 (4096 * p + k) (omega (arith, size, below, small))))

later_page : (part rest : List ℕ) (m p : ℕ) → length part ≡ 4096 * m → m ≤ p → page_of rest (p - m) ≡ page_of (part ++ rest) p
later_page part rest m p size from = one_page rest (part ++ rest) (p - m) p (λ k small.
    let here : 4096 * p + k - 4096 * m ≡ 4096 * (p - m) + k = omega (arith, from) in
    sym (get_or-append_right part rest (4096 * m) (4096 * p + k) 0 size (omega (arith, from)) ∙ ap (slice_index rest) here))

-- a page that isn't in the first part stands one part further than it would without that part
next_part : (m : ℕ) → 1 ≤ m → (page : ℕ) → m ≤ page → page / m ≡ suc ((page - m) / m)
next_part m some page from = (let one : page / m ≡ (page - m) / m + 1 = div-eq-sub-div some from in omega (arith, one))

-- the part in which a page of parts stands has it
pub page_in_part : (m : ℕ) → 1 ≤ m → (parts : List (List ℕ)) → AreParts m parts → (page : ℕ) → page_of (get_or parts (page / m) []) (page % m) ≡ page_of (concat parts) page
page_in_part m some [] are page = past_end [] page (page % m) (omega arith)
page_in_part m some (last ∷ []) are page = elim (cases_lt page m) [
  | inl below ↦ rw (div-eq_of_lt below, mod-eq_of_lt below, append-nil last) refl
  | inr from ↦ rw (next_part m some page from, append-nil last) (past_end last page (page % m) (omega (arith, are, from)))
]
page_in_part m some (part ∷ next ∷ parts) are page = elim (cases_lt page m) [
  | inl below ↦ rw (div-eq_of_lt below, mod-eq_of_lt below) (first_page part (concat (next ∷ parts)) m page are.0 below)
  | inr from ↦ rw (next_part m some page from, mod-eq-sub-mod from) (page_in_part m some (next ∷ parts) are.1 (page - m) ∙ later_page part (concat (next ∷ parts)) m page are.0 from)
]
