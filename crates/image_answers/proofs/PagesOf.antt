-- The pages of an image behind a cache, before a search and after it.
use Rattle.std.proofs.Common.{◌≡◌, ℕ, List, sym, ap, subst, ◌∙◌}
use Rattle.metric_laws.specs.Space.{Space}
use Rattle.tree_shape.specs.declared.live.Live.{Live}
use Rattle.page_store.specs.declared.image_pages.ImagePages.{ImagePages}
use Rattle.page_store.specs.Images.{bytes_in}
use Rattle.page_store.specs.Shelf.{Shelf, HoldsSame}
use Rattle.page_store.specs.Shelves.{image_shelf}
use Rattle.page_cache.specs.Cache.{asked_for}
use Rattle.page_cache.specs.Mapped.{Mapped}
use Rattle.image_answers.specs.Outcomes.{ArePagesOf, pages_asked}

-- what they mean to a search
abbrev pub shelf_of : Mapped ImagePages → Shelf
shelf_of p = asked_for (image_shelf p.inner.dim p.inner.pages (bytes_in p.inner.image) p.inner.asked) p.asked

module _ (s : Space) (live : Live) (image : List ℕ) (p q : Mapped ImagePages) (are : ArePagesOf s live image p) where
  pub shelf_is : shelf_of p ≡ pages_asked s live image p.asked
  shelf_is = λ i. image_shelf (are.dim i) (are.count i) (are.bytes i) p.asked

  -- whose count begins anew
  pub counted_anew : q ≡ record p { asked = 0 } → ArePagesOf s live image q
  counted_anew is = subst (ArePagesOf s live image) (sym is) (record { dim = are.dim; count = are.count; bytes = are.bytes })

  pub unasked : q ≡ record p { asked = 0 } → shelf_of q ≡ pages_asked s live image 0
  unasked is = ap shelf_of is ∙ (λ i. image_shelf (are.dim i) (are.count i) (are.bytes i) 0)

  -- that hold what they held
  pub still_are : HoldsSame (shelf_of p) (shelf_of q) → bytes_in q.inner.image ≡ bytes_in p.inner.image → ArePagesOf s live image q
  still_are same bytes = record { dim = same.dim ∙ are.dim; count = same.pages ∙ are.count; bytes = bytes ∙ are.bytes }
