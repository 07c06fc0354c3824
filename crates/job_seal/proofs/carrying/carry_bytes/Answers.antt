use Rattle.std.proofs.Common.{rules, inl, inr, refl, arith}
use Rattle.job_seal.proofs.Telling.{unchanged}
use Rattle.job_seal.proofs.carrying.carry_bytes.Goals as goal

pub returns-in-Err : goal.returns-in-Err
returns-in-Err g c = record {
  same = unchanged (g.D.Disk.state c.args.index.now);
  ends = λ is_known. inl (record {
    why = c.in-Err.fault;
    fault = search rules;
    rejected = refl;
    no_frame = refl;
    line = rw c.undecoded_text.ensures at c.in_ok-put-in-Err.ensures.whole;
  });
  stops = tt;
  statuses = inr refl;
  disk = search rules;
  output = search rules;
  later = omega arith;
  out_later = c.put.ensures.later;
  log_later = omega arith;
}
