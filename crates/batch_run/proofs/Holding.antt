-- An image and its file.
use Rattle.std.proofs.Common.{◌≡◌, ℕ, ◌+◌, ◌*◌, ◌<◌, Bool, true, false, List, refl, ap, arith}
use Rattle.std.specs.Prelude.{nat_le, nat_lt, ◌&&◌}
use Rattle.std.proofs.lemmas.Bool.Decides.{nat_tests}
use Rattle.node_page.specs.declared.node.Version.TheVariants.{Second}
use Rattle.node_page.specs.Nodes.{fault_in, node_in}
use Rattle.node_page.specs.Opening.{page_of}
use Rattle.page_store.proofs.Published.{same_page}
use Rattle.page_store.specs.Reading.{is_within, judged, reading, reading_in}
use Rattle.batch_run.specs.Images.{IsImageOf}

low : (page pages : ℕ) → (nat_le 3 page && nat_lt page pages) ≡ true → page < pages
low page pages is = grind (arith, nat_tests)

module _ (dim pages : ℕ) (file image : List ℕ) (is : IsImageOf pages file image) where
  same_bytes : (page : ℕ) → page < pages → page_of image page ≡ page_of file page
  same_bytes page below = same_page image file page (λ k less. is.bytes (4096 * page + k) (omega arith))

  pub holds : (page : ℕ) → reading dim pages image page ≡ reading dim pages file page
  unfolding reading_in is_within
  holds page = cases (nat_le 3 page && nat_lt page pages) refl
    where
      cases : (b : Bool) → (nat_le 3 page && nat_lt page pages) ≡ b → reading dim pages image page ≡ reading dim pages file page
      cases true within = rw within (ap (λ (bytes : List ℕ). judged page (fault_in Second dim bytes) (node_in Second dim bytes)) (same_bytes page (low page pages within)))
      cases false outside = rw outside refl
