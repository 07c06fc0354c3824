use Rattle.std.proofs.Common.{◌≡◌, ◌∷◌, ◌++◌, ◌+◌, ◌<◌, [], inr, ℕ, subst, length, length-append, arith}
use Rattle.std.proofs.lemmas.Result.{err_from_is_err_and}
use Rattle.outside_io.specs.Causes.{Rose}
use Rattle.page_store.proofs.Published.{holds_both}
use Rattle.job_dump.proofs.Putting.{first_more, part_cut, part_put, row_written, script_put}
use Rattle.job_dump.proofs.Reading.{later_cause, row_before}
use Rattle.job_dump.proofs.writing.write_rows.Goals as goal

pub returns-in_err-push_object-clause-stop : goal.returns-in_err-push_object-clause-stop
returns-in_err-push_object-clause-stop g c =
    let p = err_from_is_err_and c.from_residual-in_err-push_object.result c.from_residual-in_err-push_object.ensures.1 in
    rw (p.1, p.2)
    (let old = g.P.Pages.shelf c.args.pages.now in
    let now = g.P.Pages.shelf c.loop-id.pages in
    let new = g.P.Pages.shelf c.push_object.new.pages in
    let live = c.args.live.now in
    let numbers = c.args.places.now in
    let out0 = g.K.Sink.state c.args.out.now in
    let out1 = g.K.Sink.state c.loop-id.out in
    let inv = c.loop-id.invariant in
    let f = inv.front in
    let low : c.loop-id.id < live.count = c.loop-id-test.true in
    let later = later_cause old now inv.same live numbers new out0 out1 c.requires.are c.in_err-push_object.field-0.0 (c.in_err-push_object.ensures.cause live low) in
    (inr (f.2.faults, part_put old live numbers c.requires.are out0 out1 c.loop-id.text.items c.loop-id.id f.0 (omega arith) c.requires.some f.1 f.2 f.3), later.0, later.1))

pub returns-in_err-put_long-clause-stop : goal.returns-in_err-put_long-clause-stop
returns-in_err-put_long-clause-stop g c =
    let p = err_from_is_err_and c.from_residual-in_err-put_long.result c.from_residual-in_err-put_long.ensures.1 in
    rw (p.1, p.2)
    (let old = g.P.Pages.shelf c.args.pages.now in
    let now = g.P.Pages.shelf c.loop-id.pages in
    let live = c.args.live.now in
    let numbers = c.args.places.now in
    let out0 = g.K.Sink.state c.args.out.now in
    let out1 = g.K.Sink.state c.loop-id.out in
    let out2 = g.K.Sink.state c.put_long.new.out in
    let inv = c.loop-id.invariant in
    let f = inv.front in
    let id = c.loop-id.id in
    let row = c.in_ok-push_object.ensures.row in
    let first = first_more old live numbers id f.0 row.0 f.3 (row_before old now inv.same live numbers id row.0 (row.2 live c.loop-id-test.true)) in
    let writing = row_written out0 out1 c.loop-id.text.items live.count f.0 f.2 c.push_object.new.text.items row.0 row.1 in
    let long : length (f.0 ++ row.0 ∷ []) ≡ id + 1 = (let l = f.1 in let a = length-append f.0 (row.0 ∷ []) in omega arith) in (
      part_cut old live numbers c.requires.are out0 out1 c.push_object.new.text.items (id + 1) (f.0 ++ row.0 ∷ []) (omega arith) c.requires.some long writing first out2 c.in_err-put_long.ensures.cut,
      subst (λ (n : ℕ). Rose n out2.faults) f.2.faults c.in_err-put_long.ensures.cause.failed,
    ))

pub returns-in_err-put_text-clause-stop : goal.returns-in_err-put_text-clause-stop
returns-in_err-put_text-clause-stop g c =
    let p = err_from_is_err_and c.from_residual-in_err-put_text.result c.from_residual-in_err-put_text.ensures.1 in
    rw (p.1, p.2)
    (let old = g.P.Pages.shelf c.args.pages.now in
    let out0 = g.K.Sink.state c.args.out.now in
    let out1 = g.K.Sink.state c.loop-id.out in
    let out2 = g.K.Sink.state c.put_text.new.out in
    let f = c.loop-id.invariant.front in (
      part_cut old c.args.live.now c.args.places.now c.requires.are out0 out1 c.loop-id.text.items c.loop-id.id f.0 (omega arith) c.requires.some f.1 f.2 f.3 out2 c.in_err-put_text.ensures.cut,
      subst (λ (n : ℕ). Rose n out2.faults) f.2.faults c.in_err-put_text.ensures.cause.failed,
    ))

pub loop-id-preserved : goal.loop-id-preserved
loop-id-preserved g c =
    let old = g.P.Pages.shelf c.args.pages.now in
    let now = g.P.Pages.shelf c.loop-id.pages in
    let new = g.P.Pages.shelf c.push_object.new.pages in
    let live = c.args.live.now in
    let numbers = c.args.places.now in
    let out0 = g.K.Sink.state c.args.out.now in
    let out1 = g.K.Sink.state c.loop-id.out in
    let inv = c.loop-id.invariant in
    let f = inv.front in
    let id = c.loop-id.id in
    let row = c.in_ok-push_object.ensures.row in
    let first = first_more old live numbers id f.0 row.0 f.3 (row_before old now inv.same live numbers id row.0 (row.2 live c.loop-id-test.true)) in
    let writing = row_written out0 out1 c.loop-id.text.items live.count f.0 f.2 c.push_object.new.text.items row.0 row.1 in
    record {
      keeps = g.met.P.Pages.keeps_both c.args.pages.now c.loop-id.pages c.push_object.new.pages inv.keeps c.push_object.ensures.keeps;
      same = holds_both old now new inv.same c.push_object.ensures.same;
      front = (
        f.0 ++ row.0 ∷ [],
        (let l = f.1 in let a = length-append f.0 (row.0 ∷ []) in omega arith),
        c.in_ok-put_long.ensures.done out0 live.count (f.0 ++ row.0 ∷ []) writing,
        first,
      );
    }

pub returns-clause-done : goal.returns-clause-done
returns-clause-done g c =
    let old = g.P.Pages.shelf c.args.pages.now in
    let out0 = g.K.Sink.state c.args.out.now in
    let out1 = g.K.Sink.state c.loop-id.out in
    let f = c.loop-id.invariant.front in
    script_put old c.args.live.now c.args.places.now c.requires.are out0 out1 c.loop-id.text.items c.loop-id.id f.0 (omega arith) c.requires.some f.1 f.2 f.3
    (g.K.Sink.state c.put_text.new.out) (omega arith) c.in_ok-put_text.ensures.done
