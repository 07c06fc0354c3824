use Rattle.std.proofs.Common.{◌≡◌, ℕ, length, ap, subst, ◌∙◌, arith}
use Rattle.std.proofs.lemmas.Result.{err_from_is_err_and}
use Rattle.page_store.specs.Numbers.{AreNumbers}
use Rattle.free_pages.specs.Walk.{outside_pages}
use Rattle.free_pages.proofs.Given.{fresh_kept, outside_sound, outside_tree, passing}
use Rattle.free_pages.proofs.SoundWalk.{sound_walk}
use Rattle.free_pages.proofs.free.Free.of.Goals as goal

pub returns-in_err-walk-clause-passing : goal.returns-in_err-walk-clause-passing
returns-in_err-walk-clause-passing g c =
    let p = err_from_is_err_and c.from_residual.result c.from_residual.ensures.1 in
    let old = g.P.Pages.shelf c.args.pages.now in
    rw (p.1, p.2) (λ s is_known sound. passing old (g.P.Pages.shelf c.walk_tree.new.pages) _ _ (sound_walk s old.read c.args.live.now sound) is_known c.in_err-walk.field-0.0 c.in_err-walk.ensures.err)

pub unopened-requires : goal.unopened-requires
unopened-requires g c = omega (arith, ap length c.as_slice.ensures.value, c.in_ok-walk.ensures.few)

pub returns-clause-outside : goal.returns-clause-outside
returns-clause-outside g c is_known =
    let way = c.in_ok-walk.ensures.ok in
    let flags = c.in_ok-walk.walk.opened.items in
    let is : c.in_ok-free.free.items ≡ outside_pages (length flags) way.opened =
    rw (← c.as_slice.ensures.value) (c.in_ok-free.ensures.outside way.opened (rw c.as_slice.ensures.value way.flagged)) in
    outside_tree c.args.live.now (g.P.Pages.shelf c.args.pages.now) (g.P.Pages.shelf c.walk_tree.new.pages) c.in_ok-walk.walk.count flags c.in_ok-free.free.items way is is_known

pub returns-clause-sound : goal.returns-clause-sound
returns-clause-sound g c s is_known sound =
    let way = c.in_ok-walk.ensures.ok in
    let flags = c.in_ok-walk.walk.opened.items in
    let is : c.in_ok-free.free.items ≡ outside_pages (length flags) way.opened =
    rw (← c.as_slice.ensures.value) (c.in_ok-free.ensures.outside way.opened (rw c.as_slice.ensures.value way.flagged)) in
    outside_sound c.args.live.now (g.P.Pages.shelf c.args.pages.now) (g.P.Pages.shelf c.walk_tree.new.pages) c.in_ok-walk.walk.count flags c.in_ok-free.free.items way is s is_known sound

pub returns-clause-numbers : goal.returns-clause-numbers
returns-clause-numbers g c =
    subst (λ (n : ℕ). AreNumbers n c.in_ok-free.free.items) (ap length c.as_slice.ensures.value ∙ c.in_ok-walk.ensures.ok.pages) c.in_ok-free.ensures.numbers

pub invariant_of-result : goal.invariant_of-result
invariant_of-result g c = record {
  kept = rw (c.new.ensures.items, c.new-2.ensures.items) (fresh_kept (length c.as_slice.result.now) 0 0 c.in_ok-free.free.items c.in_ok-free.ensures.numbers);
  free_room = omega (arith, ap length c.new.ensures.items, c.in_ok-free.free.ok.0, c.in_ok-free.free.small.1);
  held_room = omega (arith, ap length c.new.ensures.items);
}

pub returns-clause-kept : goal.returns-clause-kept
returns-clause-kept g c = rw (c.new.ensures.items, c.new-2.ensures.items) (fresh_kept (length c.as_slice.result.now) 0 0 c.in_ok-free.free.items c.in_ok-free.ensures.numbers)
