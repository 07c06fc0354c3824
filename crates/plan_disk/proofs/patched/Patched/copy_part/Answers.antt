use Rattle.std.proofs.Common.{◌∙◌, ◌+◌, ◌*◌, ◌≡◌, ap, arith, slice_index, List, ℕ}
use Rattle.plan_disk.specs.Patches.{Patches}
use Rattle.plan_disk.proofs.Pages.{shown_touched, shown_before}
use Rattle.plan_disk.proofs.patched.Patched.copy_part.Goals as goal

pub returns-in-Some : goal.returns-in-Some
returns-in-Some c = λ file shows i lt.
    c.copy_out.ensures i lt ∙ ap (λ (bytes : List ℕ). slice_index bytes (c.args.from + i)) c.deref.ensures.value
    ∙ shown_touched c.args.self.now file shows c.args.page c.in-Some.bytes.now (rw (← c.self.view_is) c.in-Some.ensures.value) (c.args.from + i) (omega arith)
    ∙ ap (λ (m : ℕ). slice_index file m) (omega arith)

pub returns-in-None : goal.returns-in-None
returns-in-None c = λ file shows i lt.
    let here : c.args.page * 4096 + c.args.from + i ≡ 4096 * c.args.page + (c.args.from + i) = omega arith in
    let there : 4096 * c.args.page + (c.args.from + i) ≡ 4096 * c.args.page + c.args.from + i = omega arith in
    c.copy_out-in-None.ensures i lt ∙ ap (λ (m : ℕ). slice_index c.self.inside.base.now m) here
    ∙ ap (λ (p : Patches). slice_index p.base (4096 * c.args.page + (c.args.from + i))) c.self.view_is
    ∙ shown_before c.args.self.now file shows c.args.page (rw (← c.self.view_is) c.in-None.ensures.value) (c.args.from + i) (omega arith)
    ∙ ap (λ (m : ℕ). slice_index file m) there
