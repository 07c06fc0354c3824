-- The law of heads.
use Rattle.metric_laws.specs.Space.{IsSpace}
use Rattle.job_files.specs.Spaces.{space_of}
use Rattle.node_page.specs.declared.head.Head.{Head}
use Rattle.node_page.specs.Heads.{IsValidHead}

-- the space of a head is a metric space
abbrev pub HeadsHaveSpaces : Type 0
HeadsHaveSpaces = (head : Head) → IsValidHead head → IsSpace (space_of head)
