use Rattle.std.proofs.Common.{◌∙◌, ◌+◌, ◌*◌, ◌≡◌, ap, sym, arith, slice_index, List, ℕ, refl, None, IsSome, subst, length}
use Rattle.std.specs.Vec.{with_items}
use Rattle.std.proofs.lemmas.List.{with_items_is}
use Rattle.plan_disk.specs.Patches.{Patches, Shows, page_at}
use Rattle.plan_disk.proofs.Pages.{still_paged, still_there, touched_shows, none_of}
use Rattle.plan_disk.proofs.patched.Patched.touch_page.Goals as goal

pub invariant_of-self-2 : goal.invariant_of-self-2
invariant_of-self-2 c =
    let long = c.copy_out.auto.buf ∙ c.deref_mut.ensures.len in
    let bytes = with_items c.in_ok-bytes.bytes c.copy_out.new.buf in
    still_paged c.self.inside.pages.entries c.insert.new.self.entries c.args.page bytes c.in_ok-insert.ensures.updates.0
    (ap length (with_items_is c.in_ok-bytes.bytes c.copy_out.new.buf long) ∙ long ∙ c.in_ok-bytes.ensures.len) c.self.invariant

pub returns-clause-same : goal.returns-clause-same
returns-clause-same c = λ file shows.
    let long = c.copy_out.auto.buf ∙ c.deref_mut.ensures.len in
    let whole = long ∙ c.in_ok-bytes.ensures.len in
    let none : None ≡ page_at c.self.inside.pages.entries c.args.page = none_of _ (sym c.contains_key.ensures ∙ c.if-contains_key.false) in
    touched_shows (record { base = c.self.inside.base.now; pages = c.self.inside.pages.entries }) _ c.args.page (with_items c.in_ok-bytes.bytes c.copy_out.new.buf) file refl c.in_ok-insert.ensures.updates.0 none
    (λ i lt. let here : c.args.page * 4096 + i ≡ 4096 * c.args.page + i = omega arith in
    ap (λ (bytes : List ℕ). slice_index bytes i) (with_items_is c.in_ok-bytes.bytes c.copy_out.new.buf long)
    ∙ c.copy_out.ensures i (omega (arith, whole)) ∙ ap (λ (m : ℕ). slice_index c.self.inside.base.now m) here)
    (subst (λ (p : Patches). Shows p file) (sym c.self.view_is) shows)

pub returns-clause-others : goal.returns-clause-others
returns-clause-others c = λ q some.
    still_there c.self.inside.pages.entries c.insert.new.self.entries c.args.page (with_items c.in_ok-bytes.bytes c.copy_out.new.buf) c.in_ok-insert.ensures.updates.0 q
    (subst (λ (p : Patches). IsSome (page_at p.pages q)) (sym c.self.view_is) some)
