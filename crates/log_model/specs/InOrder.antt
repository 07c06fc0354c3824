-- Lists put in ascending order, each value once.
use Rattle.std.specs.Prelude.{Bool, List, [], ◌∷◌, if◌then◌else◌, nat_lt, ◌==◌, ◌&&◌, ◌||◌}
use Rattle.scan_model.specs.declared.hit.Hit.{Hit}
use Rattle.scan_model.specs.declared.hit.Pair.{Pair}

-- `x` put in its place among ascending values; nothing changes where `x` is one of them
abbrev pub put_once : {X : Type 0} → (X → X → Bool) → X → List X → List X
put_once before x [] = x ∷ []
put_once before x (y ∷ ys) = if before x y then x ∷ y ∷ ys else (if before y x then y ∷ put_once before x ys else y ∷ ys)

-- the values in ascending order, equal values once
abbrev pub in_order : {X : Type 0} → (X → X → Bool) → List X → List X
in_order before [] = []
in_order before (x ∷ xs) = put_once before x (in_order before xs)

-- nearer, or as near and with the lower id
abbrev pub hit_before : Hit → Hit → Bool
hit_before a b = nat_lt a.dist b.dist || ((a.dist == b.dist) && nat_lt a.id b.id)

-- by the left id, then by the right id, then by the distance
abbrev pub pair_before : Pair → Pair → Bool
pair_before a b = nat_lt a.left b.left || ((a.left == b.left) && (nat_lt a.right b.right || ((a.right == b.right) && nat_lt a.dist b.dist)))
