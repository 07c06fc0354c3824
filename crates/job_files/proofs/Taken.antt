-- What was left to read, and what was read of it.
use Rattle.std.proofs.Common.{◌≡◌, List, [], ℕ, Option, Some, None, refl}
use Rattle.std.specs.Prelude.{IfSome}
use Rattle.std.specs.Io.KnownBytes.{Consumes, IsAtEnd}
use Rattle.std.proofs.KnownBytes.{Consumes-all}

-- what holds of all holds of what is there
pub always : {A : Type 0} (o : Option A) (P : A → Type 0) → ((x : A) → P x) → IfSome o P
always None P all = tt
always (Some x) P all = all x

pub weaker : {A : Type 0} (o : Option A) (P Q : A → Type 0) → ((x : A) → P x → Q x) → IfSome o P → IfSome o Q
weaker None P Q step some = tt
weaker (Some x) P Q step some = step x some

-- all bytes that were left were read
pub read_whole : (old new : Option (List ℕ)) (bs : List ℕ) → Consumes old new bs → IsAtEnd new → IfSome old (λ xs. bs ≡ xs)
read_whole old new bs took end = Consumes-all old new bs [] bs took end refl
