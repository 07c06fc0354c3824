use Rattle.std.proofs.Common.{◌≡◌, Ok, None, Option, ap, subst, ◌∙◌}
use Rattle.std.specs.Option.{option_copied}
use Rattle.std.proofs.lemmas.Result.{err_from_is_err_and}
use Rattle.prune_log.specs.Reading.{Fails, next_at, many}
use Rattle.prune_log.proofs.Loop.{last_of, goes_on, ends, is_done}
use Rattle.prune_log.proofs.pieces.read_all.Goals as goal

pub returns-in_err-piece : goal.returns-in_err-piece
returns-in_err-piece g c =
    let p = err_from_is_err_and c.from_residual-in_err-piece.result c.from_residual-in_err-piece.ensures.1 in
    let last : option_copied c.last.result ≡ last_of c.loop.pieces.items = c.last.ensures.value ∙ ap last_of c.deref.ensures.value in
    let here = subst (λ (o : Option g.row.P.Denot). Fails c.in_err-piece.field-0.0 (next_at g.P.Piece.reads g.P.Piece.follows o c.loop.rest.now)) last c.in_err-piece.ensures in
    rw (p.1, p.2)
    (ends g.P.Piece.reads g.P.Piece.follows c.in_err-piece.field-0.0 c.loop.pieces.items c.args.count c.loop.counter c.loop.rest.now
    (many g.P.Piece.reads g.P.Piece.follows c.args.count None c.args.bytes.now) c.loop-test.true here c.loop.invariant)

pub loop-preserved : goal.loop-preserved
loop-preserved g c =
    let piece = c.in_ok-piece.piece in
    let last : option_copied c.last.result ≡ last_of c.loop.pieces.items = c.last.ensures.value ∙ ap last_of c.deref.ensures.value in
    let here = subst (λ (o : Option g.row.P.Denot). next_at g.P.Piece.reads g.P.Piece.follows o c.loop.rest.now ≡ Ok (piece, c.in_ok-piece.after.now)) last c.in_ok-piece.ensures in
    rw (c.in_ok-push.ensures.items)
    (goes_on g.P.Piece.reads g.P.Piece.follows c.loop.pieces.items c.args.count c.loop.counter c.loop.rest.now piece c.in_ok-piece.after.now
    (many g.P.Piece.reads g.P.Piece.follows c.args.count None c.args.bytes.now) c.loop-test.true here c.loop.invariant)

pub returns : goal.returns
returns g c =
    is_done g.P.Piece.reads g.P.Piece.follows c.loop.pieces.items c.args.count c.loop.counter c.loop.rest.now
    (many g.P.Piece.reads g.P.Piece.follows c.args.count None c.args.bytes.now) c.loop-test.false c.loop.invariant
