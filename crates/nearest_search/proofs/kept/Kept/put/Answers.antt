use Rattle.std.proofs.Common.{◌≡◌, ◌⊎◌, ◌∙◌, ℕ, Bool, true, false, cond, Option, Some, refl, ap, sym, inl, inr}
use Rattle.std.specs.Option.{option_map}
use Rattle.nearest_search.specs.declared.kept.Span.{Span}
use Rattle.nearest_search.specs.Keeping.{LiesWithin, blocks_of, is_turn, kept_span, kept_seen, seen_at}
use Rattle.nearest_search.proofs.Turns.{same_turn}
use Rattle.nearest_search.proofs.kept.Kept.put.Goals as goal

pub returns-clause-fits : goal.returns-clause-fits
returns-clause-fits c = λ page above. cases page above (is_turn c.args.turn (record { page = page; above = above })) (c.in_ok-insert.ensures.updates.0 (record { page = page; above = above })
    ∙ ap (cond (is_turn c.args.turn (record { page = page; above = above })) (Some c.args.span)) (c.in_ok-make_more_room.ensures (record { page = page; above = above })))
  where
    cases : (page : ℕ) (above : Option ℕ) (b : Bool) →
        kept_span (record { full = c.args.self.now.full; last = c.args.self.now.last; spans = c.insert.new.self }) page above ≡ cond b (Some c.args.span) (kept_span c.args.self.now page above) →
        (span : Span) → kept_span (record { full = c.args.self.now.full; last = c.args.self.now.last; spans = c.insert.new.self }) page above ≡ Some span → LiesWithin (blocks_of c.args.self.now) span
    cases page above true there span is = let same : c.args.span ≡ span = cc (there, is) in rw (← same) c.requires.within
    cases page above false there span is = c.requires.fits page above span (sym there ∙ is)

pub returns-clause-others : goal.returns-clause-others
returns-clause-others c = λ page above. cases page above (is_turn c.args.turn (record { page = page; above = above })) refl (c.in_ok-insert.ensures.updates.0 (record { page = page; above = above })
    ∙ ap (cond (is_turn c.args.turn (record { page = page; above = above })) (Some c.args.span)) (c.in_ok-make_more_room.ensures (record { page = page; above = above })))
  where
    cases : (page : ℕ) (above : Option ℕ) (b : Bool) → is_turn c.args.turn (record { page = page; above = above }) ≡ b →
        kept_span (record { full = c.args.self.now.full; last = c.args.self.now.last; spans = c.insert.new.self }) page above ≡ cond b (Some c.args.span) (kept_span c.args.self.now page above) →
        ((page ≡ c.args.turn.page) × (above ≡ c.args.turn.above)) ⊎ (kept_seen (record { full = c.args.self.now.full; last = c.args.self.now.last; spans = c.insert.new.self }) page above ≡ kept_seen c.args.self.now page above)
    cases page above true e there = inl (same_turn c.args.turn (record { page = page; above = above }) e)
    cases page above false e there = inr (ap (option_map (seen_at (blocks_of c.args.self.now))) there)
