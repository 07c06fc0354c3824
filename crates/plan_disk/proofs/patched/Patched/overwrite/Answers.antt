use Rattle.std.proofs.Common.{◌≡◌, ◌∙◌, ◌+◌, ◌-◌, ◌*◌, ◌/◌, ◌%◌, ℕ, take, drop, arith, rules, subst}
use Rattle.disk_model.specs.Disk.{Written}
use Rattle.disk_model.specs.Memory.Files.{overwritten, overwritten-written}
use Rattle.plan_disk.proofs.Pages.{next_written}
use Rattle.plan_disk.proofs.patched.Patched.overwrite.Goals as goal

pub put_part-requires-clause-touched : goal.put_part-requires-clause-touched
put_part-requires-clause-touched c =
    let place = c.args.at + c.loop-done.done in
    c.loop-done.invariant.touched (place / 4096) (place % 4096) (omega arith) (omega arith) (omega (arith, c.loop-done-test.true))

pub loop-done-preserved : goal.loop-done-preserved
loop-done-preserved c = record {
  within = search rules;
  base = c.put_part.ensures.base ∙ c.loop-done.invariant.base;
  touched = λ page i lt from to. c.put_part.ensures.others page (c.loop-done.invariant.touched page i lt from to);
  written = λ file later shows written.
      let done = c.loop-done.done in
      let place = c.args.at + done in
      let mid = overwritten c.args.at (take done c.args.bytes.now) file in
      let first = overwritten-written c.args.at (take done c.args.bytes.now) file in
      let here : place ≡ 4096 * (place / 4096) + place % 4096 = omega arith in
      let part = next_written c.args.at done c.min-end.result c.args.bytes.now file mid later (search rules) (search rules) first written in
      c.put_part.ensures.written mid later (c.loop-done.invariant.written file mid shows first) (subst (λ (m : ℕ). Written m (take (c.min-end.result - done) (drop done c.args.bytes.now)) mid later) here part);
}
