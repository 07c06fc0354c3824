use Rattle.std.proofs.Common.{ℕ, List, IsTrue, Bool, sym, subst, arith}
use Rattle.disk_model.specs.Moments.{then_unchanged}
use Rattle.node_page.specs.Heads.{SpellsHead}
use Rattle.node_page.specs.Opening.{page_of}
use Rattle.shadow_root.proofs.Causes.{short_fault, head_cause, slot_cause, opens_told}
use Rattle.shadow_root.proofs.opening.«open».Goals as goal

pub returns-then-size-lt-LEAST_SIZE-clause-fault : goal.returns-then-size-lt-LEAST_SIZE-clause-fault
returns-then-size-lt-LEAST_SIZE-clause-fault g c = λ is_known. short_fault (g.D.Disk.state c.args.disk.now).bytes c.in-Ok.size (c.in-Ok.ensures.size is_known) (omega arith)

pub returns-in-Err-read_head-clause-fault : goal.returns-in-Err-read_head-clause-fault
returns-in-Err-read_head-clause-fault g c =
    head_cause (g.D.Disk.state c.args.disk.now) (g.D.Disk.state c.size.new.self) (g.D.Disk.state c.read_head.new.disk) c.in-Err-read_head.fault c.size.ensures.same c.size.ensures.cause.later
    (λ is_known. omega (arith, c.in-Ok.ensures.size is_known)) c.in-Err-read_head.ensures.fault

pub returns-in-Ok-read_live-clause-ok : goal.returns-in-Ok-read_live-clause-ok
returns-in-Ok-read_live-clause-ok g c =
    let start = g.D.Disk.state c.args.disk.now in
    let one = g.D.Disk.state c.size.new.self in
    let two = g.D.Disk.state c.read_head.new.disk in
    opens_told start two (g.D.Disk.state c.read_live.new.disk) c.in-Ok-read_head.head c.in-Ok.size (then_unchanged start one two c.size.ensures.same c.read_head.ensures.same)
    (omega (arith, c.size.ensures.cause.later, c.read_head.ensures.later)) (omega arith) c.in-Ok.ensures.size
    (λ is_known. subst (λ (b : List ℕ). SpellsHead (page_of b 0) c.in-Ok-read_head.head) c.size.ensures.same.same_bytes
    (c.in-Ok-read_head.ensures.ok (subst (λ (b : Bool). IsTrue b) (sym c.size.ensures.same.same_known) is_known)))
    c.in-Ok-read_live.live c.in-Ok-read_live.ensures.ok

pub returns-in-Err-read_live-clause-fault : goal.returns-in-Err-read_live-clause-fault
returns-in-Err-read_live-clause-fault g c =
    let start = g.D.Disk.state c.args.disk.now in
    let one = g.D.Disk.state c.size.new.self in
    let two = g.D.Disk.state c.read_head.new.disk in
    slot_cause start two (g.D.Disk.state c.read_live.new.disk) c.in-Ok-read_head.head c.in-Ok.size (then_unchanged start one two c.size.ensures.same c.read_head.ensures.same)
    (omega (arith, c.size.ensures.cause.later, c.read_head.ensures.later)) (omega arith) c.in-Ok.ensures.size
    (λ is_known. subst (λ (b : List ℕ). SpellsHead (page_of b 0) c.in-Ok-read_head.head) c.size.ensures.same.same_bytes
    (c.in-Ok-read_head.ensures.ok (subst (λ (b : Bool). IsTrue b) (sym c.size.ensures.same.same_known) is_known)))
    c.in-Err-read_live.fault c.in-Err-read_live.ensures.fault
