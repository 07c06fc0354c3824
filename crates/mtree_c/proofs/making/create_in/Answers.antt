use Rattle.std.proofs.Common.{◌≡◌, length, refl, subst, arith, inl, inr}
use Rattle.node_page.specs.Heads.{IsValidHead}
use Rattle.shadow_root.specs.Making.{IsMade}
use Rattle.mtree_c.proofs.making.create_in.Goals as goal

pub returns-then-len-room : goal.returns-then-len-room
returns-then-len-room c =
    let head = c.in-Some.ensures.head in
    let size : c.len.result ≡ length c.in-Some-made.file.items = let o = c.in-Some-made.file.ok in let l = c.len.ensures in omega arith in
    record {
      done = λ e. absurd (omega (arith, e));
      short = λ _. (subst IsValidHead head c.in-Some.ensures.valid, (c.in-Some-made.file.items, subst (λ h. IsMade h c.in-Some-made.file.items) head c.in-Some-made.ensures, size, (let l = c.len.ensures in let m = c.len-2.ensures in let more = c.if-len-room.true in omega arith)));
      no_head = λ e. absurd (omega (arith, e));
      nothing = λ e. elim e [ inl two ↦ absurd (omega (arith, two)) | inr eight ↦ absurd (omega (arith, eight)) ];
      same = λ _. refl;
      statuses = inr (inr (inl refl));
    }

pub returns : goal.returns
returns c =
    let head = c.in-Some.ensures.head in
    let size : c.len.result ≡ length c.in-Some-made.file.items = let o = c.in-Some-made.file.ok in let l = c.len.ensures in omega arith in
    record {
      done = λ _. (subst IsValidHead head c.in-Some.ensures.valid, (c.in-Some-made.file.items, subst (λ h. IsMade h c.in-Some-made.file.items) head c.in-Some-made.ensures, rw c.deref.ensures.value at c.put_front.ensures, size));
      short = λ e. absurd (omega (arith, e));
      no_head = λ e. absurd (omega (arith, e));
      nothing = λ e. elim e [ inl two ↦ absurd (omega (arith, two)) | inr eight ↦ absurd (omega (arith, eight)) ];
      same = λ not. absurd (not refl);
      statuses = inl refl;
    }
