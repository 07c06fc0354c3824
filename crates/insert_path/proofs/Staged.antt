-- Staged nodes seen after other calls.
use Rattle.std.proofs.Common.{◌≡◌, ℕ, List, [], ◌∷◌, ◌++◌, refl, subst}
use Rattle.metric_laws.specs.Space.{Space}
use Rattle.tree_shape.specs.declared.entry.LeafEntry.{LeafEntry}
use Rattle.tree_shape.specs.declared.entry.Node.{Node}
use Rattle.tree_growth.specs.Dealing.{Ball}
use Rattle.insert_path.specs.declared.grew.Grew.{Grew}
use Rattle.insert_path.specs.Descent.{Plan, IsStaged}

-- the same by another name of the space and of the entries
pub staged_by : {E : Type 0} (q : Space → Plan) (s t : Space) (ball : E → Ball) (set : E → ℕ → E) (make : List E → Node) (es fs : List E) (old new : List Node) (g : Grew) →
    s ≡ t → fs ≡ es → IsStaged (q s) ball set make fs old new g → IsStaged (q t) ball set make es old new g
staged_by q s t ball set make es fs old new g same is staged =
    subst (λ (x : Space). IsStaged (q x) ball set make es old new g) same (subst (λ (xs : List _). IsStaged (q s) ball set make xs old new g) is staged)

pub leaf_added : (id tag d e : ℕ) (p q : List ℕ) (es fs : List LeafEntry) → fs ≡ es ++ record { id = id; tag = tag; parent = d; point = p } ∷ [] → d ≡ e → p ≡ q →
    fs ≡ es ++ record { id = id; tag = tag; parent = e; point = q } ∷ []
leaf_added id tag d e p q es fs is far point = rw (is, far, point) refl
