use Rattle.std.proofs.Common.{inl, inr, ⊎_elim, arith}
use Rattle.std.proofs.lemmas.Result.{err_from_is_err_and}
use Rattle.job_files.proofs.Published.{neither, only}
use Rattle.job_seal.proofs.opening.open_small.Goals as goal

pub returns-in_err-head-clause-refuses : goal.returns-in_err-head-clause-refuses
returns-in_err-head-clause-refuses g c =
    let p = err_from_is_err_and c.from_residual.result c.from_residual.ensures.1 in
    rw (p.1, p.2)
    (let told = c.in_err-head.ensures.refuses in
    record {
      disk = told.disk;
      not_index = told.not_index;
      long = λ is. neither c.in_err-head.field-0.0.0 5 6 7 told.statuses is (omega arith) (omega arith);
      statuses = ⊎_elim inl (λ six. inr (inl six)) told.statuses;
    })

pub returns-then-live-gt-MOST_WHOLE_PAGES-clause-refuses : goal.returns-then-live-gt-MOST_WHOLE_PAGES-clause-refuses
returns-then-live-gt-MOST_WHOLE_PAGES-clause-refuses g c =
    let status = c.end_with.ensures.status in
    let r = c.end_with.result.0 in
    let old = c.in_ok-head.ensures in
    record {
      disk = λ is. only r 7 5 status is (omega arith);
      not_index = λ is. only r 7 6 status is (omega arith);
      long = λ is. (
        rw old.silent at c.end_with.ensures.line,
        λ is_known. (c.in_ok-head.head, c.in_ok-head.live, old.opens is_known, c.if-live-gt-MOST_WHOLE_PAGES.true),
      );
      statuses = inr (inr status);
    }
