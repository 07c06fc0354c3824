-- What a cache of two nodes keeps, and what one of two lines holds: the definitions on small values.
use Rattle.std.proofs.Common.{◌≡◌, [], ◌∷◌, Some, None, refl}
use Rattle.lru.specs.LruCache.{lru_cache}
use Rattle.tree_shape.specs.declared.entry.Node.{Node}
use Rattle.page_cache.specs.Keeping.{Pairs, kept_node, used, without}
use Rattle.page_cache.specs.Lines.{Lines, held_node, holding}

module _ (a b c : Node) where
  -- page 3 was used last, and page 4 before it
  abbrev two : Pairs
  two = lru_cache ((3, a) ∷ (4, b) ∷ []) 2

  found : kept_node two 4 ≡ Some b
  found = refl

  not_found : kept_node two 5 ≡ None
  not_found = refl

  -- a page that is kept goes first
  used_again : used two 4 b ≡ lru_cache ((4, b) ∷ (3, a) ∷ []) 2
  used_again = refl

  -- a new page pushes the last one out
  used_first : used two 5 c ≡ lru_cache ((5, c) ∷ (3, a) ∷ []) 2
  used_first = refl

  forgotten : without two 3 ≡ lru_cache ((4, b) ∷ []) 2
  forgotten = refl

  not_kept : without two 5 ≡ two
  not_kept = refl

  -- page 4 has the first line, and page 3 the second
  abbrev lines : Lines
  lines = Some (4, b) ∷ Some (3, a) ∷ []

  held : held_node lines 3 ≡ Some a
  held = refl

  -- page 5 has the second line too, which holds page 3
  unheld : held_node lines 5 ≡ None
  unheld = refl

  held_instead : holding lines 5 c ≡ Some (4, b) ∷ Some (5, c) ∷ []
  held_instead = refl
