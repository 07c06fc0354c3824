use Rattle.std.proofs.Common.{sym, subst, IsTrue, Bool, arith}
use Rattle.std.proofs.lemmas.Result.{on_ok_weaker}
use Rattle.node_page.specs.Slots.{SpellsSlot}
use Rattle.node_page.specs.declared.slot.Slot.{Slot}
use Rattle.shadow_root.proofs.Made.{is_bare, is_made}
use Rattle.shadow_root.proofs.making.make.Goals as goal

pub returns-clause-made : goal.returns-clause-made
returns-clause-made g c = on_ok_weaker c.write_through.result (λ written is_known.
    let one = g.D.Disk.state c.lay_out.new.disk in
    let told : IsTrue one.is_known = subst (λ (b : Bool). IsTrue b) (sym c.lay_out.ensures.is_known) is_known in
    is_made c.args.head.now c.encode_head.new.page c.encode_slot.new.page c.clear.new.page one.bytes (g.D.Disk.state c.write_through.new.disk).bytes c.encode_head.ensures c.requires.version
    (subst (λ (s : Slot). SpellsSlot c.encode_slot.new.page s) c.closed_slot.ensures c.encode_slot.ensures.spells) c.clear.ensures
    (c.in_ok-lay_out.ensures.head is_known) (c.in_ok-lay_out.ensures.slot is_known) (c.in_ok-lay_out.ensures.other is_known) (c.in_ok-lay_out.ensures.leaf is_known) (let e = c.in_ok-lay_out.ensures.size is_known in omega (arith, e)) (written told))
    c.write_through.ensures.written

pub returns-clause-bare : goal.returns-clause-bare
returns-clause-bare g c = on_ok_weaker c.write_through.result (λ written is_known none.
    let one = g.D.Disk.state c.lay_out.new.disk in
    let told : IsTrue one.is_known = subst (λ (b : Bool). IsTrue b) (sym c.lay_out.ensures.is_known) is_known in
    let size = c.in_ok-lay_out.ensures.size is_known in
    is_bare c.args.head.now c.encode_head.new.page c.encode_slot.new.page c.clear.new.page one.bytes (g.D.Disk.state c.write_through.new.disk).bytes c.encode_head.ensures c.requires.version
    (subst (λ (s : Slot). SpellsSlot c.encode_slot.new.page s) c.closed_slot.ensures c.encode_slot.ensures.spells) c.clear.ensures
    (c.in_ok-lay_out.ensures.head is_known) (c.in_ok-lay_out.ensures.slot is_known) (c.in_ok-lay_out.ensures.other is_known) (c.in_ok-lay_out.ensures.leaf is_known) (omega (arith, size)) (written told) (omega (arith, size, none)))
    c.write_through.ensures.written
