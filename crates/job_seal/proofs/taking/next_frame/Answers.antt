use Rattle.std.proofs.Common.{◌≡◌, ◌<◌, length, arith}
use Rattle.std.proofs.lemmas.Result.{err_from_is_err_and}
use Rattle.byteorder.specs.Endian.{big_bytes}
use Rattle.job_seal.proofs.Taken.{field_stops, body_stops, cut_within}
use Rattle.job_seal.proofs.taking.next_frame.Goals as goal

pub returns-in_err-size-clause-stops : goal.returns-in_err-size-clause-stops
returns-in_err-size-clause-stops g c =
    let p = err_from_is_err_and c.from_residual.result c.from_residual.ensures.1 in
    rw (p.1, p.2) (field_stops c.args.room (g.S.Source.left c.args.source.now) (g.S.Source.left c.take_up_to.new.source) c.in_err-size.field-0.0 c.in_err-size.ensures.stops)

pub returns-in_err-body-clause-stops : goal.returns-in_err-body-clause-stops
returns-in_err-body-clause-stops g c =
    let eight : length c.in_ok-size.size.items ≡ 8 = (let few = c.in_ok-size.ensures.few in let many = c.if-len-lt8.false in omega arith) in
    let wide = c.in_ok-size.ensures.within in
    let spelled : c.in_ok-size.size.items ≡ big_bytes 8 c.number_in-most.result = rw c.deref.ensures.value at c.number_in-most.ensures.spelled in
    let p = err_from_is_err_and c.from_residual-in_err-body.result c.from_residual-in_err-body.ensures.1 in
    rw (p.1, p.2)
    (body_stops c.args.room c.number_in-most.result c.in_ok-size.size.items (g.S.Source.left c.args.source.now) (g.S.Source.left c.take_up_to.new.source) (g.S.Source.left c.take_up_to-2.new.source) c.in_err-body.field-0.0
    c.number_in-most.ensures.below spelled (omega (arith, eight, wide)) c.in_ok-size.ensures.taken c.in_err-body.ensures.stops)

pub returns-then-len-most-clause-reads : goal.returns-then-len-most-clause-reads
returns-then-len-most-clause-reads g c =
    let eight : length c.in_ok-size.size.items ≡ 8 = (let few = c.in_ok-size.ensures.few in let many = c.if-len-lt8.false in omega arith) in
    let wide = c.in_ok-size.ensures.within in
    let spelled : c.in_ok-size.size.items ≡ big_bytes 8 c.number_in-most.result = rw c.deref.ensures.value at c.number_in-most.ensures.spelled in
    let part = c.in_ok-body.body.items in
    let fewer : length part < c.number_in-most.result = (let few = c.if-len-most.true in omega arith) in
    cut_within c.args.room c.number_in-most.result c.in_ok-size.size.items part (g.S.Source.left c.args.source.now) (g.S.Source.left c.take_up_to.new.source) (g.S.Source.left c.take_up_to-2.new.source)
    c.number_in-most.ensures.below spelled (omega (arith, eight, wide)) c.in_ok-size.ensures.taken c.in_ok-body.ensures.taken fewer c.in_ok-body.ensures.within (c.in_ok-body.ensures.end fewer)
