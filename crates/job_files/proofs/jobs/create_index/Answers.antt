use Rattle.std.proofs.Common.{arith}
use Rattle.job_files.proofs.Statuses.{neither}
use Rattle.job_files.proofs.jobs.create_index.Goals as goal

pub returns-in-Ok-clause-creates : goal.returns-in-Ok-clause-creates
returns-in-Ok-clause-creates g c = record {
  made = λ well. (λ is_known. (c.in-Ok.ensures.empty is_known, c.in-Ok.ensures.made is_known), c.in-Ok.ensures.only);
  done = c.put_line.ensures.done;
  part = c.put_line.ensures.part;
  disk = λ is. neither c.put_line.result.0 0 4 5 c.put_line.ensures.statuses is (omega arith) (omega arith);
  not_empty = λ is. neither c.put_line.result.0 0 4 6 c.put_line.ensures.statuses is (omega arith) (omega arith);
  memory = λ is. neither c.put_line.result.0 0 4 8 c.put_line.ensures.statuses is (omega arith) (omega arith);
}
