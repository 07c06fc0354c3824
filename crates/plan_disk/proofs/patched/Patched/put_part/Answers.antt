use Rattle.std.proofs.Common.{◌≡◌, ◌∙◌, List, ℕ, refl, sym, subst}
use Rattle.std.specs.Vec.{with_items}
use Rattle.std.proofs.lemmas.List.{with_items_is}
use Rattle.disk_model.specs.Disk.{Written}
use Rattle.plan_disk.specs.Patches.{Patches, Shows}
use Rattle.plan_disk.proofs.Pages.{put_shows, IsUpdated}
use Rattle.plan_disk.proofs.patched.Patched.put_part.Goals as goal

pub returns-clause-written : goal.returns-clause-written
returns-clause-written c = λ file later shows written.
    let own = c.in-Some.own.now in
    let new = with_items own c.put.new.page in
    let updated : IsUpdated c.self.inside.pages.entries (c.get_mut.follows.lender new).entries c.args.page new = ((c.get_mut.follows.holds new).3 (rw (sym c.in-Some.ensures.value) refl)).0 in
    let bytes : new.items ≡ c.put.new.page = with_items_is own c.put.new.page (c.put.auto.page ∙ c.deref_mut.ensures.len) in
    let before : Written c.args.from c.args.bytes.now own.items c.put.new.page = subst (λ (file : List ℕ). Written c.args.from c.args.bytes.now file c.put.new.page) c.deref_mut.ensures.value c.put.ensures in
    put_shows (record { base = c.self.inside.base.now; pages = c.self.inside.pages.entries }) _ c.args.page c.args.from own new c.args.bytes.now file later refl updated c.in-Some.ensures.value c.requires.within
    (subst (λ (file : List ℕ). Written c.args.from c.args.bytes.now own.items file) (sym bytes) before)
    (subst (λ (p : Patches). Shows p file) (sym c.self.view_is) shows) written
