use Rattle.std.proofs.Common.{◌≡◌, ◌∙◌, ◌++◌, ◌∷◌, [], List, ℕ, ◌-◌, sym, ap, reverse, arith, length, ◌<◌}
use Rattle.std.proofs.lemmas.List.{reverse-append}
use Rattle.tree_shape.specs.declared.entry.InnerEntry.{InnerEntry}
use Rattle.tree_shape.specs.Entries.{inner_of}
use Rattle.hit_tags.proofs.Taking.{near_drop, entry_at}
use Rattle.hit_tags.proofs.walking.push_near.Goals as goal

pub loop-i-preserved : goal.loop-i-preserved
loop-i-preserved c =
    let low : c.loop-i.i - 1 < length c.args.entries.now = omega (arith, c.len-i.ensures, c.loop-i.auto.i, c.loop-i-test.true) in
    let e = entry_at c.args.entries.now (c.loop-i.i - 1) low in
    let one = near_drop c.args.entries.now c.args.marks.now c.loop-i.i e.0 _ c.requires c.loop-i-test.true (omega (arith, c.len-i.ensures, c.loop-i.auto.i)) e.1 (sym c.if-eq.false ∙ c.eq.ensures) in
    rw one c.loop-i.invariant

pub loop-i-preserved-in-Continue-1 : goal.loop-i-preserved-in-Continue-1
loop-i-preserved-in-Continue-1 c =
    let e : InnerEntry = inner_of c.at.result in
    let one = near_drop c.args.entries.now c.args.marks.now c.loop-i.i e _ c.requires c.loop-i-test.true (omega (arith, c.len-i.ensures, c.loop-i.auto.i)) c.at.ensures (sym c.if-eq.true ∙ c.eq.ensures) in
    let pushed : c.push.new.self.items ≡ c.loop-i.stack.items ++ e.child ∷ [] = c.in_ok-push.ensures.items in
    rw one (ap reverse pushed ∙ reverse-append c.loop-i.stack.items (e.child ∷ []) ∙ ap (λ (pages : List ℕ). e.child ∷ pages) c.loop-i.invariant)
