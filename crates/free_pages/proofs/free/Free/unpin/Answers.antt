use Rattle.std.proofs.Common.{◌≡◌, ℕ, List, ap, ◌∙◌, arith}
use Rattle.free_pages.specs.Keeping.{is_pinned_below, released, still_held, with_pages}
use Rattle.free_pages.specs.Stored.{is_below}
use Rattle.free_pages.proofs.Released.{kept_pins, released_is, still_held_is}
use Rattle.free_pages.proofs.free.Free.unpin.Goals as goal

pub invariant_of-self : goal.invariant_of-self
invariant_of-self c =
    let pins = c.take_out.new.pins.items in
    let held = c.self.inside.held.items in
    let least = c.least_pin-least.result in
    let same : (g : ℕ) → is_below least g ≡ is_pinned_below g pins = λ g. c.least_pin-least.ensures g ∙ ap (is_pinned_below g) c.as_slice.ensures.value in
    let free : c.release.new.free.items ≡ with_pages (released pins held) c.self.inside.free.items =
    c.release.ensures.free ∙ ap (λ (more : List ℕ). with_pages more c.self.inside.free.items) (released_is least pins held same) in
    let left : c.release.new.held.items ≡ still_held pins held = c.release.ensures.held ∙ still_held_is least pins held same in
    record {
      kept = rw (free, left) (kept_pins _ pins c.self.invariant.kept);
      free_room = omega (arith, c.self.invariant.free_room, c.release.ensures.fewer, c.release.ensures.free_room);
      held_room = omega (arith, c.self.invariant.held_room, c.release.ensures.shorter, c.release.ensures.held_room);
    }

pub returns-clause-kept : goal.returns-clause-kept
returns-clause-kept c = (invariant_of-self c).kept
