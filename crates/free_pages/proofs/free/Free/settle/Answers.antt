use Rattle.std.proofs.Common.{◌≡◌, ℕ, zero, suc, ◌+◌, ◌<◌, ◌≤◌, List, [], ◌∷◌, length, drop, refl, sym, ap, ◌∙◌, arith, drop-cons, length-drop, Option, Some, None}
use Rattle.std.specs.Prelude.{IfNone, IfSome}
use Rattle.free_pages.specs.Keeping.{FreePages}
use Rattle.free_pages.specs.Commits.{with_all_left}
use Rattle.free_pages.proofs.free.Free.settle.Goals as goal

drop_more : (i : ℕ) (xs rest : List ℕ) (x : ℕ) → drop i xs ≡ x ∷ rest → drop (i + 1) xs ≡ rest
drop_more zero xs rest x e = rw e refl
drop_more (suc i) [] rest x e = cc
drop_more (suc i) (y ∷ xs) rest x e = let n : suc i + 1 ≡ suc (i + 1) = omega arith in rw n (drop_more i xs rest x e)

taken : (r : Option ℕ) (old new f : FreePages) (i used : ℕ) → i < used → used ≤ length f.free → old ≡ record f { free = drop i f.free } → IfNone r ((old.free ≡ []) × (new ≡ old)) →
    IfSome r (λ page. old.free ≡ page ∷ new.free) → new ≡ record old { free = new.free } → new ≡ record f { free = drop (i + 1) f.free }
taken None old new f i used low few is none some rest =
    let e : drop i f.free ≡ [] = sym (ap (λ (g : FreePages). g.free) is) ∙ none.0 in
    let l = length-drop i f.free in
    let z = ap length e in
    absurd (omega arith)
taken (Some page) old new f i used low few is none some rest =
    let e = drop_more i f.free new.free page (sym (ap (λ (g : FreePages). g.free) is) ∙ some) in
    rest ∙ (ap (λ (o : FreePages). record o { free = new.free }) is ∙ ap (λ (xs : List ℕ). record f { free = xs }) (sym e))

pub uses-preserved : goal.uses-preserved
uses-preserved c = record {
  taken = taken c.take-page.result c.uses.self c.take-page.new.self c.args.self.now c.uses.counter c.args.used (let t = c.uses-test.true in omega arith) c.requires.used
      c.uses.invariant.taken c.take-page.ensures.none c.take-page.ensures.least c.take-page.ensures.rest;
}

pub leaves-preserved : goal.leaves-preserved
leaves-preserved c =
    let low : c.leaves.page-index < length c.args.left.now = omega (arith, c.leaves-test.true) in
    record {
      rest =
          ap (λ (k : ℕ). with_all_left c.args.generation (drop k c.args.left.now) c.leave.new.self) (let n : c.leaves.page-index + 1 ≡ suc c.leaves.page-index = omega arith in n)
          ∙ (ap (λ (f : FreePages). with_all_left c.args.generation (drop (suc c.leaves.page-index) c.args.left.now) f) c.leave.ensures.left
          ∙ (ap (λ (xs : List ℕ). with_all_left c.args.generation xs c.leaves.self) (sym (drop-cons c.args.left.now c.leaves.page-index 0 low)) ∙ c.leaves.invariant.rest));
      room = let s = c.leave.ensures.spare in let r = c.leaves.invariant.room in omega arith;
    }
