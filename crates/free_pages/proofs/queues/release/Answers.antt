use Rattle.std.proofs.Common.{◌≡◌, ◌-◌, ℕ, List, subst, arith}
use Rattle.std.specs.List.Sorted.{IsPermutation}
use Rattle.std.proofs.lemmas.List.Sorted.{length_permutation}
use Rattle.free_pages.specs.Stored.{IsReleasing}
use Rattle.free_pages.proofs.Released.{releasing_all}
use Rattle.free_pages.proofs.Sorting.{sorted_is}
use Rattle.free_pages.proofs.queues.release.Goals as goal

pub returns-clause-free : goal.returns-clause-free
returns-clause-free c =
    let least = c.args.least in
    let free = c.args.free.now.items in
    let held = c.args.held.now.items in
    let none : c.len-count.result - c.loop.counter ≡ 0 = omega (arith, c.loop-test.false) in
    let all = releasing_all least free held c.loop.free.items c.loop.held.items (subst (IsReleasing least free held c.loop.free.items c.loop.held.items) none c.loop.invariant.way) in
    sorted_is least free held c.sort_pages.new.free.items c.requires.free_ascend c.requires.held_ascend c.requires.apart
    (subst (λ (xs : List ℕ). IsPermutation xs c.sort_pages.new.free.items) all.0 c.sort_pages.ensures.permutation) c.sort_pages.ensures.sorted

pub returns-clause-fewer : goal.returns-clause-fewer
returns-clause-fewer c = omega (arith, length_permutation c.loop.free.items c.sort_pages.new.free.items c.sort_pages.ensures.permutation, c.loop.invariant.fewer)
