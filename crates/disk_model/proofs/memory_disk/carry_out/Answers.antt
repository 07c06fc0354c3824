use Rattle.std.proofs.Common.{ℕ, sym, ◌∙◌, subst}
use Rattle.disk_model.specs.Disk.{Written}
use Rattle.disk_model.proofs.Entries.{carried_out}
use Rattle.disk_model.proofs.memory_disk.carry_out.Goals as goal

pub returns-in-Write-default-default-true-clause-read : goal.returns-in-Write-default-default-true-clause-read
returns-in-Write-default-default-true-clause-read c = λ kept was.
    let w = c.in-Write-default-default-true in
    let wrote = c.args.bytes.now in
    let old = c.args.file.now.items in
    let new = c.overwrite.new.file.items in
    carried_out kept c.args.kind w.at w.count w.done wrote old new w.is (sym w.done-is ∙ w.done-test) c.requires.count (subst (λ (at : ℕ). Written at wrote old new) w.at-is c.overwrite.ensures.written) was
