use Rattle.std.proofs.Common.{◌≡◌, ◌<◌, ◌≤◌, sym, ap, subst, ◌∙◌, ◌∷◌, ◌++◌, List, ℕ, length, take, take_all, arith}
use Rattle.std.specs.List.{AllByRecursion}
use Rattle.tree_shape.specs.Tree.{times}
use Rattle.tree_audit.specs.declared.parts.Part.{Part}
use Rattle.tree_audit.specs.Parts.{ids_met, pages_met}
use Rattle.tree_audit.proofs.Whole.{pages_more, ids_more, pages_new, ids_new, new_as}
use Rattle.tree_audit.proofs.parts.join_parts.Goals as goal

pub loop-part-preserved : goal.loop-part-preserved
loop-part-preserved c = record {
  pages_limit = c.note_part.ensures.pages_limit ∙ c.loop-part.invariant.pages_limit;
  ids_limit = c.note_part.ensures.ids_limit ∙ c.loop-part.invariant.ids_limit;
  pages = c.in_ok-note_part.ensures.pages c.if-not-branch-2.false ∙ ap (λ (xs : List ℕ). xs ++ c.part-item.result.pages.items) c.loop-part.invariant.pages
      ∙ ap (λ (xs : List ℕ). c.args.live.now.root ∷ xs) (sym (pages_more c.args.parts.now c.loop-part.part-index c.part-item.result (omega arith) c.part-item.is));
  ids = c.in_ok-note_part.ensures.ids c.if-not-branch-2.false ∙ ap (λ (xs : List ℕ). xs ++ c.part-item.result.ids.items) c.loop-part.invariant.ids
      ∙ sym (ids_more c.args.parts.now c.loop-part.part-index c.part-item.result (omega arith) c.part-item.is);
}

pub returns-clause-apart : goal.returns-clause-apart
returns-clause-apart c =
    let whole : take c.loop-part.part-index c.args.parts.now ≡ c.args.parts.now = take_all c.loop-part.part-index c.args.parts.now (omega arith) in
    let pages : c.loop-part.visits.pages.met ≡ c.args.live.now.root ∷ pages_met c.args.parts.now = c.loop-part.invariant.pages ∙ ap (λ (parts : List Part). c.args.live.now.root ∷ pages_met parts) whole in
    let ids : c.loop-part.visits.ids.met ≡ ids_met c.args.parts.now = c.loop-part.invariant.ids ∙ ap ids_met whole in
    record {
      pages = λ page. subst (λ (xs : List ℕ). times page xs ≤ 1) pages (c.len-2.ensures.once page);
      ids = λ id. subst (λ (xs : List ℕ). times id xs ≤ 1) ids (c.len.ensures.once id);
      pages_within = subst (λ (n : ℕ). AllByRecursion (λ page. page < n) (c.args.live.now.root ∷ pages_met c.args.parts.now)) c.loop-part.invariant.pages_limit
          (subst (AllByRecursion (λ page. page < c.loop-part.visits.pages.limit)) pages c.len-2.ensures.small);
      ids_within = subst (λ (n : ℕ). AllByRecursion (λ id. id < n) (ids_met c.args.parts.now)) c.loop-part.invariant.ids_limit (subst (AllByRecursion (λ id. id < c.loop-part.visits.ids.limit)) ids c.len.ensures.small);
      count = ap length (sym ids) ∙ sym c.len.ensures.len ∙ c.if-len-live.false;
    }

pub returns-then-not-branch-2-clause-apart : goal.returns-then-not-branch-2-clause-apart
returns-then-not-branch-2-clause-apart c = λ apart.
    let low : c.loop-part.part-index < length c.args.parts.now = omega arith in
    let parts = c.args.parts.now in
    let i = c.loop-part.part-index in
    let part = c.part-item.result in
    let t = c.args.live.now in
    c.in_ok-note_part.ensures.none c.if-not-branch-2.true
    (new_as c.loop-part.visits.pages t.pages (t.root ∷ pages_met (take i parts)) part.pages.items c.loop-part.invariant.pages_limit c.loop-part.invariant.pages (pages_new t parts i part low c.part-item.is apart))
    (new_as c.loop-part.visits.ids t.count (ids_met (take i parts)) part.ids.items c.loop-part.invariant.ids_limit c.loop-part.invariant.ids (ids_new t parts i part low c.part-item.is apart))
