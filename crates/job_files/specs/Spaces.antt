-- The space of an index: the metric that its head names, over points of the head's dimension.
use Rattle.metric_laws.specs.Space.{Space}
use Rattle.metric_mix.specs.MixSpaces.{mix_space}
use Rattle.node_page.specs.declared.head.Head.{Head}

abbrev pub space_of : Head → Space
space_of head = mix_space head.kind head.dim
