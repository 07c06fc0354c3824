use Rattle.std.proofs.Common.{subst, sym}
use Rattle.tree_shape.specs.declared.live.Live.{Live}
use Rattle.index_core.specs.Pinning.{IsPinned}
use Rattle.session_run.proofs.Pins.{IsUnpinned, now_pinned, repinned, repinned_guarded, repinned_guards}
use Rattle.session_run.proofs.pinned.pin_tree.Goals as goal

pub returns-then-not-is_pinned-clause-pinned : goal.returns-then-not-is_pinned-clause-pinned
returns-then-not-is_pinned-clause-pinned g c = now_pinned c.args.index.now c.pin.new.self c.args.index.now.file.live.generation c.in_ok-live.ensures.pinned

pub unpin-requires-after_bounds : goal.unpin-requires-after_bounds
unpin-requires-after_bounds g c = λ κs outlives.
    subst (λ (t : Live). IsPinned t.generation c.pin.new.self) (sym c.in_ok-live.ensures.live) (now_pinned c.args.index.now c.pin.new.self c.args.index.now.file.live.generation c.in_ok-live.ensures.pinned)

pub returns-clause-pinned : goal.returns-clause-pinned
returns-clause-pinned g c =
    let was = c.requires.pinned c.if-not-is_pinned.false in
    repinned c.args.index.now c.pin.new.self c.unpin.new.self c.args.index.now.file.live.generation c.args.index.now.file.live.generation was c.in_ok-live.ensures.pinned
    (subst (λ (t : Live). IsUnpinned c.pin.new.self c.unpin.new.self t.generation) c.in_ok-live.ensures.live c.unpin.ensures.list) was

pub returns-clause-guards : goal.returns-clause-guards
returns-clause-guards g c = λ is_known tree reached.
    repinned_guards c.args.index.now c.pin.new.self c.unpin.new.self (g.D.Disk.state c.args.disk.now) (g.D.Disk.state c.pin.new.disk) c.args.index.now.file.live.generation (c.requires.pinned c.if-not-is_pinned.false) c.in_ok-live.ensures.pinned
    (subst (λ (t : Live). IsUnpinned c.pin.new.self c.unpin.new.self t.generation) c.in_ok-live.ensures.live c.unpin.ensures.list) c.pin.ensures.reads c.pin.ensures.rest c.unpin.ensures.guarded tree (c.in_ok-live.ensures.guards is_known tree reached)

pub returns-clause-guarded : goal.returns-clause-guarded
returns-clause-guarded g c =
    repinned_guarded c.args.index.now c.pin.new.self c.unpin.new.self (g.D.Disk.state c.args.disk.now) (g.D.Disk.state c.pin.new.disk) c.args.index.now.file.live.generation (c.requires.pinned c.if-not-is_pinned.false) c.in_ok-live.ensures.pinned
    (subst (λ (t : Live). IsUnpinned c.pin.new.self c.unpin.new.self t.generation) c.in_ok-live.ensures.live c.unpin.ensures.list) c.pin.ensures.reads c.pin.ensures.rest c.unpin.ensures.guarded c.pin.ensures.guarded
