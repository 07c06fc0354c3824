use Rattle.std.proofs.Common.{sym, subst, IsTrue, Bool}
use Rattle.shadow_root.proofs.Run.{now, run_nodes, run_closed, run_sync, is_staged, whatever}
use Rattle.shadow_root.specs.Commit.{IsStaged}
use Rattle.shadow_root.proofs.committing.stage.Goals as goal

pub returns-in_err-write_nodes-clause-images : goal.returns-in_err-write_nodes-clause-images
returns-in_err-write_nodes-clause-images g c = λ is_known.
    run_nodes c.args.dim c.args.live.now c.args.next.now c.args.staged.now (g.D.Disk.state c.args.disk.now) c.requires.successor c.requires.staged
    (g.D.Disk.state c.write_nodes.new.disk) (c.requires.ready is_known) c.write_nodes.ensures.images

pub returns-in_err-close_gate-clause-images : goal.returns-in_err-close_gate-clause-images
returns-in_err-close_gate-clause-images g c = λ is_known.
    let start = g.D.Disk.state c.args.disk.now in
    let one = g.D.Disk.state c.write_nodes.new.disk in
    let two = g.D.Disk.state c.close_gate.new.disk in
    let told : IsTrue one.is_known = subst (λ (b : Bool). IsTrue b) (sym c.write_nodes.ensures.is_known) is_known in
    let first = run_nodes c.args.dim c.args.live.now c.args.next.now c.args.staged.now start c.requires.successor c.requires.staged one (c.requires.ready is_known) c.write_nodes.ensures.images in
    run_closed c.args.dim c.args.live.now c.args.next.now c.args.staged.now start c.requires.successor c.requires.staged c.gate_of.result one two c.gate_of.ensures first told
    (g.met.D.Disk.read_is_image c.write_nodes.new.disk told) (g.met.D.Disk.places_mix c.write_nodes.new.disk) c.close_gate.ensures.images

pub returns-clause-images : goal.returns-clause-images
returns-clause-images g c = λ is_known.
    let start = g.D.Disk.state c.args.disk.now in
    let one = g.D.Disk.state c.write_nodes.new.disk in
    let two = g.D.Disk.state c.close_gate.new.disk in
    let told : IsTrue one.is_known = subst (λ (b : Bool). IsTrue b) (sym c.write_nodes.ensures.is_known) is_known in
    let first = run_nodes c.args.dim c.args.live.now c.args.next.now c.args.staged.now start c.requires.successor c.requires.staged one (c.requires.ready is_known) c.write_nodes.ensures.images in
    let second = run_closed c.args.dim c.args.live.now c.args.next.now c.args.staged.now start c.requires.successor c.requires.staged c.gate_of.result one two c.gate_of.ensures first told
    (g.met.D.Disk.read_is_image c.write_nodes.new.disk told) (g.met.D.Disk.places_mix c.write_nodes.new.disk) c.close_gate.ensures.images in
    run_sync c.args.dim c.args.live.now c.args.next.now c.args.staged.now start c.requires.successor c.requires.staged two (g.D.Disk.state c.sync.new.self) second c.sync.ensures.time c.sync.ensures.fewer

pub returns-clause-staged : goal.returns-clause-staged
returns-clause-staged g c = whatever c.sync.result (λ is_known.
    let start = g.D.Disk.state c.args.disk.now in
    let one = g.D.Disk.state c.write_nodes.new.disk in
    let two = g.D.Disk.state c.close_gate.new.disk in
    let told : IsTrue one.is_known = subst (λ (b : Bool). IsTrue b) (sym c.write_nodes.ensures.is_known) is_known in
    let told_two : IsTrue two.is_known = subst (λ (b : Bool). IsTrue b) (sym c.close_gate.ensures.is_known) told in
    let first = run_nodes c.args.dim c.args.live.now c.args.next.now c.args.staged.now start c.requires.successor c.requires.staged one (c.requires.ready is_known) c.write_nodes.ensures.images in
    let second = run_closed c.args.dim c.args.live.now c.args.next.now c.args.staged.now start c.requires.successor c.requires.staged c.gate_of.result one two c.gate_of.ensures first told
    (g.met.D.Disk.read_is_image c.write_nodes.new.disk told) (g.met.D.Disk.places_mix c.write_nodes.new.disk) c.close_gate.ensures.images in
    subst (IsStaged c.args.dim c.args.live.now c.args.next.now c.args.staged.now start) (sym c.sync.ensures.bytes)
    (is_staged c.args.dim c.args.live.now c.args.next.now c.args.staged.now start c.requires.successor c.requires.staged c.gate_of.result one.bytes two.bytes c.gate_of.ensures (c.requires.ready is_known)
    (g.met.D.Disk.read_is_image c.args.disk.now is_known) (now first one.bytes (g.met.D.Disk.read_is_image c.write_nodes.new.disk told)) (c.write_nodes.ensures.bytes is_known) (c.in_ok-write_nodes.ensures.in_place is_known) (c.in_ok-write_nodes.ensures.long is_known)
    (c.close_gate.ensures.bytes told) (c.in_ok-close_gate.ensures.closed told) (now second two.bytes (g.met.D.Disk.read_is_image c.close_gate.new.disk told_two))))
