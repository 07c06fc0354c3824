use Rattle.std.proofs.Common.{ℕ, ◌+◌, sym, ap, subst, IsTrue, Bool}
use Rattle.std.proofs.lemmas.Result.{on_ok_weaker}
use Rattle.node_page.specs.Slots.{SpellsSlot}
use Rattle.node_page.specs.declared.slot.Slot.{Slot}
use Rattle.shadow_root.proofs.Phases.{fields_of_slot}
use Rattle.shadow_root.proofs.Run.{only_before, run_body, run_gate, is_written, has_next, length-body_of, place-body_of}
use Rattle.shadow_root.specs.Commit.{HasFields}
use Rattle.shadow_root.proofs.committing.commit.Goals as goal

pub returns-in_err-stage-clause-any_moment : goal.returns-in_err-stage-clause-any_moment
returns-in_err-stage-clause-any_moment g c = λ is_known.
    only_before c.args.dim c.args.live.now c.args.next.now c.args.staged.now (g.D.Disk.state c.args.disk.now) c.requires.successor c.requires.staged (g.D.Disk.state c.stage.new.disk) (c.stage.ensures.images is_known)

pub returns-in_err-write_through-clause-any_moment : goal.returns-in_err-write_through-clause-any_moment
returns-in_err-write_through-clause-any_moment g c = λ is_known.
    let start = g.D.Disk.state c.args.disk.now in
    let one = g.D.Disk.state c.stage.new.disk in
    let two = g.D.Disk.state c.write_through.new.disk in
    only_before c.args.dim c.args.live.now c.args.next.now c.args.staged.now start c.requires.successor c.requires.staged two
    (run_body c.args.dim c.args.live.now c.args.next.now c.args.staged.now start c.requires.successor c.requires.staged _ _ one two
    (ap (λ (n : ℕ). n + 1) c.gate_of.ensures) (length-body_of c.encode_slot.new.page c.encode_slot.array_long) (c.stage.ensures.images is_known) (c.in_ok-stage.ensures.staged is_known) c.write_through.ensures.images)

pub returns-clause-any_moment : goal.returns-clause-any_moment
returns-clause-any_moment g c = λ is_known.
    let start = g.D.Disk.state c.args.disk.now in
    let one = g.D.Disk.state c.stage.new.disk in
    let two = g.D.Disk.state c.write_through.new.disk in
    let three = g.D.Disk.state c.write_through-2.new.disk in
    let told : IsTrue one.is_known = subst (λ (b : Bool). IsTrue b) (sym c.stage.ensures.is_known) is_known in
    let size = length-body_of c.encode_slot.new.page c.encode_slot.array_long in
    let staged = c.in_ok-stage.ensures.staged is_known in
    let fields : HasFields c.encode_slot.new.page c.args.next.now = fields_of_slot c.encode_slot.new.page c.args.next.now (subst (λ (s : Slot). SpellsSlot c.encode_slot.new.page s) c.slot_of.ensures c.encode_slot.ensures.spells) in
    let second = run_body c.args.dim c.args.live.now c.args.next.now c.args.staged.now start c.requires.successor c.requires.staged _ _ one two
    (ap (λ (n : ℕ). n + 1) c.gate_of.ensures) size (c.stage.ensures.images is_known) staged c.write_through.ensures.images in
    let written = is_written c.args.dim c.args.live.now c.args.next.now c.args.staged.now start c.requires.successor c.requires.staged _ one.bytes two.bytes _ c.encode_slot.new.page
    (ap (λ (n : ℕ). n + 1) c.gate_of.ensures) staged (c.in_ok-write_through.ensures.written told) size fields (place-body_of c.encode_slot.new.page) in
    run_gate c.args.dim c.args.live.now c.args.next.now c.args.staged.now start c.requires.successor c.requires.staged _ two three c.gate_of-2.ensures second written c.write_through-2.ensures.images

pub returns-clause-done : goal.returns-clause-done
returns-clause-done g c = on_ok_weaker c.write_through-2.result (λ written_then is_known.
    let start = g.D.Disk.state c.args.disk.now in
    let one = g.D.Disk.state c.stage.new.disk in
    let two = g.D.Disk.state c.write_through.new.disk in
    let three = g.D.Disk.state c.write_through-2.new.disk in
    let told : IsTrue one.is_known = subst (λ (b : Bool). IsTrue b) (sym c.stage.ensures.is_known) is_known in
    let told_two : IsTrue two.is_known = subst (λ (b : Bool). IsTrue b) (sym c.write_through.ensures.is_known) told in
    let fields : HasFields c.encode_slot.new.page c.args.next.now = fields_of_slot c.encode_slot.new.page c.args.next.now (subst (λ (s : Slot). SpellsSlot c.encode_slot.new.page s) c.slot_of.ensures c.encode_slot.ensures.spells) in
    let written = is_written c.args.dim c.args.live.now c.args.next.now c.args.staged.now start c.requires.successor c.requires.staged _ one.bytes two.bytes _ c.encode_slot.new.page
    (ap (λ (n : ℕ). n + 1) c.gate_of.ensures) (c.in_ok-stage.ensures.staged is_known) (c.in_ok-write_through.ensures.written told) (length-body_of c.encode_slot.new.page c.encode_slot.array_long) fields
    (place-body_of c.encode_slot.new.page) in
    has_next c.args.dim c.args.live.now c.args.next.now c.args.staged.now start c.requires.successor c.requires.staged _ two.bytes three.bytes c.gate_of-2.ensures written (written_then told_two))
    c.write_through-2.ensures.written
