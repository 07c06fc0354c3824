use Rattle.std.proofs.Common.{◌++◌, ℕ, take, arith, length-append, length-take}
use Rattle.std.proofs.KnownBytes.{Consumes-trans}
use Rattle.std.proofs.lemmas.Result.{err_from_is_err_and}
use Rattle.job_seal.proofs.taking.take_up_to.Goals as goal

pub returns-then-count-room-clause-stops : goal.returns-then-count-room-clause-stops
returns-then-count-room-clause-stops g c =
    let more = c.if-count-room.true in
    let few = c.pieces.invariant.few in
    let within = c.pieces.invariant.within in (
      c.pieces.bytes.items ++ take c.in-Ok.count c.take.new.buf,
      Consumes-trans _ _ _ _ _ c.pieces.invariant.taken c.in-Ok.ensures.bytes.0,
      omega (arith, length-append {A = ℕ}, length-take {A = ℕ}, c.in-Ok.ensures.bound),
      omega (arith, length-append {A = ℕ}, length-take {A = ℕ}, c.in-Ok.ensures.bound),
      omega (arith, length-append {A = ℕ}, length-take {A = ℕ}, c.in-Ok.ensures.bound),
    )

pub returns-in_err-extend_from_slice-clause-stops : goal.returns-in_err-extend_from_slice-clause-stops
returns-in_err-extend_from_slice-clause-stops g c =
    let p = err_from_is_err_and c.from_residual.result c.from_residual.ensures.1 in
    rw (p.1, p.2)
    (let is_point = c.if-count-room.false in
    let within = c.pieces.invariant.within in (
      c.pieces.bytes.items ++ take c.in-Ok.count c.take.new.buf,
      Consumes-trans _ _ _ _ _ c.pieces.invariant.taken c.in-Ok.ensures.bytes.0,
      omega (arith, length-append {A = ℕ}, length-take {A = ℕ}, c.in-Ok.ensures.bound),
    ))
