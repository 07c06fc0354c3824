-- Each of the three is a space.
use Rattle.metric_laws.specs.Space.{IsSpace}
use Rattle.vector_kinds.specs.declared.space.Space.{Space}
use Rattle.vector_kinds.specs.declared.space.Space.TheVariants.{Hamming, L1, Max}
use Rattle.vector_kinds.specs.Vectors.{vector_space}
use Rattle.vector_kinds.specs.VectorLaws.{hamming_axioms, l1_axioms, max_axioms}
use Rattle.vector_kinds.specs.Kinds.{kind_of, dim_of}

pub kind_axioms : (s : Space) → IsSpace (vector_space (kind_of s) (dim_of s))
kind_axioms (Hamming m) = hamming_axioms m.dim m.some m.few
kind_axioms (L1 m) = l1_axioms m.dim m.some m.few
kind_axioms (Max m) = max_axioms m.dim m.some m.few
