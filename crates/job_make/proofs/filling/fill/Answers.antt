use Rattle.std.proofs.Common.{refl, arith}
use Rattle.std.proofs.lemmas.Bool.Decides.{nat_tests}
use Rattle.std.proofs.lemmas.Result.{err_from_is_err_and}
use Rattle.metric_mix.specs.MixKinds.{mix_dim}
use Rattle.job_make.proofs.Filled.{empty_filled, has_opened, load_faults, loaded_filled, loaded_moments, never_changed, opening, unopened_cause}
use Rattle.job_make.proofs.filling.fill.Goals as goal

pub returns-in_err-index-clause-moments : goal.returns-in_err-index-clause-moments
returns-in_err-index-clause-moments g c = λ is_known.
    opening c.one_live_slot.ensures c.args.head.now (g.D.Disk.state c.args.disk.now) is_known (c.requires.made is_known) c.requires.only c.args.objects.now.rows.points c.args.objects.now.tags.items
    (g.D.Disk.state c.open_write.new.disk) c.open_write.ensures.time

pub returns-in_err-index-clause-cause : goal.returns-in_err-index-clause-cause
returns-in_err-index-clause-cause g c =
    let p = err_from_is_err_and c.from_residual.result c.from_residual.ensures.1 in
    rw (p.1, p.2)
    (unopened_cause c.fault_is_not_open.ensures c.one_live_slot.ensures c.args.head.now (g.D.Disk.state c.args.disk.now) (g.D.Disk.state c.open_write.new.disk) (mix_dim c.space_of.result)
    c.space_of.ensures.dim c.requires.made c.in_err-index.field-0.0 c.in_err-index.ensures.cause)

pub returns-then-not-is_of-clause-moments : goal.returns-then-not-is_of-clause-moments
returns-then-not-is_of-clause-moments g c = λ is_known.
    opening c.one_live_slot.ensures c.args.head.now (g.D.Disk.state c.args.disk.now) is_known (c.requires.made is_known) c.requires.only c.args.objects.now.rows.points c.args.objects.now.tags.items
    (g.D.Disk.state c.open_write.new.disk) c.open_write.ensures.time

pub returns-then-not-is_of-clause-cause : goal.returns-then-not-is_of-clause-cause
returns-then-not-is_of-clause-cause g c =
    never_changed c.one_live_slot.ensures c.args.head.now c.args.live.now c.requires.first (g.D.Disk.state c.args.disk.now) (g.D.Disk.state c.open_write.new.disk) c.in_ok-index.index.file c.requires.made
    c.open_write.ensures.bytes c.open_write.ensures.is_known c.in_ok-index.ensures.stands.stands.opens c.if-not-is_of.ensures.no

pub returns-then-is_empty-clause-filled : goal.returns-then-is_empty-clause-filled
returns-then-is_empty-clause-filled g c =
    let same = c.if-not-is_of.ensures.yes refl in
    empty_filled c.one_live_slot.ensures c.args.head.now (g.D.Disk.state c.args.disk.now) (g.D.Disk.state c.open_write.new.disk) c.set_workers.new.self
    (has_opened c.args.head.now c.args.live.now c.requires.first (g.D.Disk.state c.args.disk.now) (g.D.Disk.state c.open_write.new.disk) c.in_ok-index.index c.set_workers.new.self c.space_of.result c.args.workers c.in_ok-index.ensures.opened
    c.set_workers.ensures same.0 same.1 c.space_of.ensures.kind c.space_of.ensures.dim c.open_write.ensures.bytes c.open_write.ensures.is_known)
    c.requires.made c.args.objects.now.rows.points c.args.objects.now.tags.items (let e = c.if-is_empty.ensures in grind (arith, nat_tests)) c.requires.tags

pub returns-then-is_empty-clause-moments : goal.returns-then-is_empty-clause-moments
returns-then-is_empty-clause-moments g c = λ is_known.
    opening c.one_live_slot.ensures c.args.head.now (g.D.Disk.state c.args.disk.now) is_known (c.requires.made is_known) c.requires.only c.args.objects.now.rows.points c.args.objects.now.tags.items
    (g.D.Disk.state c.open_write.new.disk) c.open_write.ensures.time

pub returns-clause-filled : goal.returns-clause-filled
returns-clause-filled g c =
    let same = c.if-not-is_of.ensures.yes refl in
    loaded_filled c.one_live_slot.ensures c.args.head.now (g.D.Disk.state c.args.disk.now) (g.D.Disk.state c.open_write.new.disk) (g.D.Disk.state c.load_tagged.new.disk) c.set_workers.new.self c.load_tagged.new.self
    (has_opened c.args.head.now c.args.live.now c.requires.first (g.D.Disk.state c.args.disk.now) (g.D.Disk.state c.open_write.new.disk) c.in_ok-index.index c.set_workers.new.self c.space_of.result c.args.workers c.in_ok-index.ensures.opened
    c.set_workers.ensures same.0 same.1 c.space_of.ensures.kind c.space_of.ensures.dim c.open_write.ensures.bytes c.open_write.ensures.is_known)
    c.requires.made c.args.objects.now.rows.points c.args.objects.now.tags.items c.load_tagged.result (rw c.deref.ensures.value at c.load_tagged.ensures.written) c.in_ok-load_tagged.field-0 c.in_ok-load_tagged.was

pub returns-clause-moments : goal.returns-clause-moments
returns-clause-moments g c =
    let same = c.if-not-is_of.ensures.yes refl in
    loaded_moments c.one_live_slot.ensures c.args.head.now (g.D.Disk.state c.args.disk.now) (g.D.Disk.state c.open_write.new.disk) (g.D.Disk.state c.load_tagged.new.disk) c.set_workers.new.self c.load_tagged.new.self
    (has_opened c.args.head.now c.args.live.now c.requires.first (g.D.Disk.state c.args.disk.now) (g.D.Disk.state c.open_write.new.disk) c.in_ok-index.index c.set_workers.new.self c.space_of.result c.args.workers c.in_ok-index.ensures.opened
    c.set_workers.ensures same.0 same.1 c.space_of.ensures.kind c.space_of.ensures.dim c.open_write.ensures.bytes c.open_write.ensures.is_known)
    c.requires.made c.args.objects.now.rows.points c.args.objects.now.tags.items c.load_tagged.result (rw c.deref.ensures.value at c.load_tagged.ensures.written) c.requires.only c.open_write.ensures.time

pub returns-in_err-load_tagged-clause-moments : goal.returns-in_err-load_tagged-clause-moments
returns-in_err-load_tagged-clause-moments g c =
    let same = c.if-not-is_of.ensures.yes refl in
    loaded_moments c.one_live_slot.ensures c.args.head.now (g.D.Disk.state c.args.disk.now) (g.D.Disk.state c.open_write.new.disk) (g.D.Disk.state c.load_tagged.new.disk) c.set_workers.new.self c.load_tagged.new.self
    (has_opened c.args.head.now c.args.live.now c.requires.first (g.D.Disk.state c.args.disk.now) (g.D.Disk.state c.open_write.new.disk) c.in_ok-index.index c.set_workers.new.self c.space_of.result c.args.workers c.in_ok-index.ensures.opened
    c.set_workers.ensures same.0 same.1 c.space_of.ensures.kind c.space_of.ensures.dim c.open_write.ensures.bytes c.open_write.ensures.is_known)
    c.requires.made c.args.objects.now.rows.points c.args.objects.now.tags.items c.load_tagged.result (rw c.deref.ensures.value at c.load_tagged.ensures.written) c.requires.only c.open_write.ensures.time

pub returns-in_err-load_tagged-clause-cause : goal.returns-in_err-load_tagged-clause-cause
returns-in_err-load_tagged-clause-cause g c =
    let p = err_from_is_err_and c.from_residual-in_err-load_tagged.result c.from_residual-in_err-load_tagged.ensures.1 in
    rw (p.1, p.2)
    (let same = c.if-not-is_of.ensures.yes refl in
    (load_faults c.one_live_slot.ensures c.args.head.now (g.D.Disk.state c.args.disk.now) (g.D.Disk.state c.open_write.new.disk) (g.D.Disk.state c.load_tagged.new.disk) c.set_workers.new.self c.load_tagged.new.self
    (has_opened c.args.head.now c.args.live.now c.requires.first (g.D.Disk.state c.args.disk.now) (g.D.Disk.state c.open_write.new.disk) c.in_ok-index.index c.set_workers.new.self c.space_of.result c.args.workers c.in_ok-index.ensures.opened
    c.set_workers.ensures same.0 same.1 c.space_of.ensures.kind c.space_of.ensures.dim c.open_write.ensures.bytes c.open_write.ensures.is_known)
    c.requires.made c.args.objects.now.rows.points c.args.objects.now.tags.items c.load_tagged.result (rw c.deref.ensures.value at c.load_tagged.ensures.written) c.heads_have_spaces.ensures c.requires.valid c.requires.is_point
    c.requires.few c.open_write.ensures.later c.in_err-load_tagged.field-0.0 (rw c.deref.ensures.value at c.in_err-load_tagged.ensures.cause) c.in_err-load_tagged.ensures.undamaged))
