use Rattle.std.proofs.Common.{rules, length, ◌+◌}
use Rattle.slice_disk.proofs.Copying.{copied_out}
use Rattle.slice_disk.proofs.disk.copy_out.Goals as goal

pub returns : goal.returns
returns c i within =
    let count = c.min-count.result in
    copied_out c.args.file.now c.copy_from_slice.new.self c.fill.new.self c.args.at c.min-start.result count (length (c.split_at_mut-inside.result.1.now) + count)
    (search rules) (search rules) (search rules) (search rules) i (search rules)
