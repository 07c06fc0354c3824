use Rattle.disk_model.specs.Moments.{once}
use Rattle.disk_model.proofs.laws.opening_then_stretch.Goals as goal

pub returns : goal.returns
returns g c = once _ _ _ _ c.requires.opening c.requires.second
