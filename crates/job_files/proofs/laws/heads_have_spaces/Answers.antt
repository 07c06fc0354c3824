use Rattle.job_files.proofs.Spaces.{space_by_head}
use Rattle.job_files.proofs.laws.heads_have_spaces.Goals as goal

pub returns : goal.returns
returns c head valid =
    let has = space_by_head head.kind head.dim valid.space in
    c.mix_spaces_are_spaces.ensures head.kind head.dim has.low_kind has.high_kind has.valid
