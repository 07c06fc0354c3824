use Rattle.std.proofs.Common.{◌≡◌, ℕ, [], ◌∷◌, inl, refl, sym, ap, subst, Option, Some, None}
use Rattle.std.specs.Prelude.{MatchOption}
use Rattle.metric_laws.specs.Lists.{IsIn}
use Rattle.metric_laws.proofs.Published.{in-append_right}
use Rattle.tree_shape.specs.declared.live.Live.{Live}
use Rattle.free_pages.specs.Keeping.{FreePages}
use Rattle.index_core.specs.Pinning.{IsPinned, pinned}
use Rattle.test_index.proofs.loading.pin_shortly.Goals as goal

-- a generation that was pinned is among the pins
is_pinned : (generation : ℕ) (old new : Option FreePages) →
    MatchOption old (MatchOption new ⊥ (λ g. g.pins ≡ generation ∷ [])) (λ f. new ≡ Some (pinned generation f)) →
    MatchOption new ⊥ (λ f. IsIn generation f.pins)
is_pinned generation None None is = absurd is
is_pinned generation None (Some g) is = subst (IsIn generation) (sym is) (inl refl)
is_pinned generation (Some f) new is =
    subst (λ (free : Option FreePages). MatchOption free ⊥ (λ g. IsIn generation g.pins)) (sym is) (in-append_right f.pins (generation ∷ []) generation (inl refl))

pub release-requires-clause-pinned : goal.release-requires-clause-pinned
release-requires-clause-pinned g c κs within =
    subst (λ (n : ℕ). IsPinned n c.pin.new.self) (sym (ap (λ (t : Live). t.generation) c.in-Ok.ensures.live))
    (is_pinned c.args.index.now.file.live.generation c.args.index.now.free c.pin.new.self.free c.in-Ok.ensures.pinned)
