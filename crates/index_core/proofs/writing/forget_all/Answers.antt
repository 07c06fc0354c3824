use Rattle.std.proofs.Common.{◌≡◌, ℕ, zero, suc, ◌+◌, ◌<◌, List, [], ◌∷◌, drop, length, refl, sym, ap, ◌∙◌, arith, Some}
use Rattle.std.specs.Prelude.{slice_get}
use Rattle.page_store.specs.declared.staging.StagedNode.{StagedNode}
use Rattle.page_store.specs.Staging.{pages_of}
use Rattle.page_cache.specs.Keeping.{Pairs, without}
use Rattle.index_core.specs.Writing.{forgotten}
use Rattle.index_core.proofs.writing.forget_all.Goals as goal

page_next : (i : ℕ) (staged : List StagedNode) → i < length staged → (s : StagedNode) × (slice_get staged i ≡ Some s) × (drop i (pages_of staged) ≡ s.page ∷ drop (i + 1) (pages_of staged))
page_next i [] low = absurd (omega arith)
page_next zero (s ∷ staged) low = (s, refl, refl)
page_next (suc i) (s ∷ staged) low =
    let n : suc i + 1 ≡ suc (i + 1) = omega arith in
    let r = page_next i staged (omega arith) in
    (r.0, r.1, rw n r.2)

pub loop-place-preserved : goal.loop-place-preserved
loop-place-preserved c =
    let low : c.loop-place.place < length c.args.staged.now = omega (arith, c.loop-place-test.true) in
    let next = page_next c.loop-place.place c.args.staged.now low in
    ap (λ (k : Pairs). forgotten (drop (c.loop-place.place + 1) (pages_of c.args.staged.now)) k)
    (c.forget.ensures ∙ ap (λ (p : ℕ). without c.loop-place.kept p) (c.page_at.ensures next.0 next.1))
    ∙ (sym (ap (λ (ps : List ℕ). forgotten ps c.loop-place.kept) next.2) ∙ c.loop-place.invariant)
