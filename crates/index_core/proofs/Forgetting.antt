-- What is kept once the pages of new nodes are forgotten.
use Rattle.std.proofs.Common.{◌≡◌, ◌≢◌, ℕ, List, [], ◌∷◌, refl, sym, ◌∙◌, inl, inr, arith, Option, Some, None}
use Rattle.std.specs.Prelude.{All, IsTrue, ◌≤◌}
use Rattle.std.proofs.lemmas.List.Elements.{All-filter}
use Rattle.metric_laws.specs.Lists.{IsIn}
use Rattle.tree_shape.specs.declared.entry.Node.{Node}
use Rattle.page_store.specs.Shelf.{Shelf, IsNodeOf}
use Rattle.page_cache.specs.Keeping.{Pairs, without, Agrees}
use Rattle.page_cache.specs.Laws.{AgreementLasts, ForgettingKeepsAgreement, GrowsTo}
use Rattle.node_page.specs.Nodes.{IsValidNode}
use Rattle.page_store.specs.Reading.{IsWithin}
use Rattle.index_core.specs.Files.{IsValidKept}
use Rattle.index_core.specs.Lending.{KeptAgrees, SameRoom}
use Rattle.index_core.specs.Writing.{forgotten, forgotten_of}

forgotten_all : (P : ℕ × Node → Type 0) (pages : List ℕ) (kept : Pairs) → All P kept.entries → All P (forgotten pages kept).entries
forgotten_all P [] kept all = all
forgotten_all P (page ∷ pages) kept all = forgotten_all P pages (without kept page) (All-filter _ P kept.entries all)

forgotten_room : (pages : List ℕ) (kept : Pairs) → (forgotten pages kept).cap ≡ kept.cap
forgotten_room [] kept = refl
forgotten_room (page ∷ pages) kept = forgotten_room pages (without kept page)

pub same_room : (pages : List ℕ) (kept : Option Pairs) → SameRoom kept (forgotten_of pages kept)
same_room pages None = tt
same_room pages (Some kept) = forgotten_room pages kept

-- no page that was forgotten is kept
forgotten_none : ForgettingKeepsAgreement → (pages : List ℕ) (kept : Pairs) → All (λ pair. (page : ℕ) → IsIn page pages → page ≢ pair.0) (forgotten pages kept).entries
forgotten_none law [] kept = λ k d low page i. absurd i
forgotten_none law (p ∷ pages) kept = λ k d low page i. elim i [
  | inl s ↦ λ e. forgotten_all (λ pair. p ≢ pair.0) pages (without kept p) (law kept p).1 k d low (sym s ∙ e)
  | inr w ↦ forgotten_none law pages (without kept p) k d low page w
]

-- what is kept agrees with pages that grow, where each page without a new node holds what it held
pub forgotten_agrees : AgreementLasts → ForgettingKeepsAgreement → (pages : List ℕ) (kept : Option Pairs) (old new : Shelf) → GrowsTo old new →
    ((page : ℕ) (node : Node) → IsNodeOf old page node → (IsIn page pages → ⊥) → IsTrue new.is_known → new.read page ≡ old.read page) → KeptAgrees kept old → KeptAgrees (forgotten_of pages kept) new
forgotten_agrees lasts law pages None old new grows same agrees = tt
forgotten_agrees lasts law pages (Some kept) old new grows same agrees =
    lasts (forgotten pages kept) old new grows (still pages kept agrees)
    (λ is_known k d low.
    same _ _ (still pages kept agrees k d low) (λ i. forgotten_none law pages kept k d low _ i refl) is_known)
  where
    still : (pages : List ℕ) (kept : Pairs) → Agrees kept old → Agrees (forgotten pages kept) old
    still pages kept agrees = forgotten_all (λ pair. IsNodeOf old pair.0 pair.1) pages kept agrees

-- what is kept can still be nodes of the pages, also where there are more pages
pub forgotten_valid : (dim old new : ℕ) (pages : List ℕ) (kept : Option Pairs) → old ≤ new → IsValidKept dim old kept → IsValidKept dim new (forgotten_of pages kept)
forgotten_valid dim old new pages None more valid = tt
forgotten_valid dim old new pages (Some kept) more valid = λ k d low. wider _ (forgotten_all (λ pair. IsWithin old pair.0 × IsValidNode dim pair.1) pages kept valid k d low)
  where
    wider : (pair : ℕ × Node) → IsWithin old pair.0 × IsValidNode dim pair.1 → IsWithin new pair.0 × IsValidNode dim pair.1
    wider pair both = (let a = both.0.0 in let b = both.0.1 in (a, omega arith), both.1)
