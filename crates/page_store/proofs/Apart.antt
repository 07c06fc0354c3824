-- Nodes that are staged for different pages.
use Rattle.std.specs.Prelude.{◌≢◌, ℕ, List, [], ◌∷◌, ◌++◌}
use Rattle.std.proofs.Common.{sym}
use Rattle.page_store.specs.declared.staging.StagedNode.{StagedNode}
use Rattle.page_store.specs.Staging.{IsFree, AreApart}

pub free_push : (xs : List StagedNode) (s : StagedNode) (page : ℕ) → IsFree xs page → s.page ≢ page → IsFree (xs ++ s ∷ []) page
free_push [] s page free ne = (ne, tt)
free_push (x ∷ xs) s page free ne = (free.0, free_push xs s page free.1 ne)

pub apart_push : (xs : List StagedNode) (s : StagedNode) → AreApart xs → IsFree xs s.page → AreApart (xs ++ s ∷ [])
apart_push [] s apart free = (tt, tt)
apart_push (x ∷ xs) s apart free = (free_push xs s x.page apart.0 (λ same. free.0 (sym same)), apart_push xs s apart.1 free.1)
