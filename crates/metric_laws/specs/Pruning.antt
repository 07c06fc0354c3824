-- The tests by which a search rules out answers, and why they may.
use Rattle.std.specs.Prelude.{ℕ, ◌+◌, ◌-◌, ◌<◌, ◌≤◌, Bool, List, IsTrue, min, nat_lt}
use Rattle.metric_laws.specs.Space.{Space, IsSpace, bound}

-- the distance of two numbers
abbrev pub gap : ℕ → ℕ → ℕ
gap a b = (a - b) + (b - a)

-- no point of a sphere is within r of a query that is d from its centre
abbrev pub centre_rules_out : ℕ → ℕ → ℕ → Bool
centre_rules_out d r radius = nat_lt (r + radius) d

-- the same, known from the distances of the query and of the centre to a third point
abbrev pub parent_rules_out : ℕ → ℕ → ℕ → ℕ → Bool
parent_rules_out dp stored r radius = nat_lt (r + radius) (gap dp stored)

-- no point of one sphere is within r of one of another whose centre is d away
abbrev pub pair_rules_out : ℕ → ℕ → ℕ → ℕ → Bool
pair_rules_out d r ra rb = nat_lt (r + ra + rb) d

-- the sum, at most the bound
abbrev pub capped : ℕ → ℕ → ℕ
capped a b = min (a + b) bound

-- in every space: an object o within the radius of the centre e is beyond r of the query q
abbrev pub CentreRulesOut : Type 0
CentreRulesOut =
    (s : Space) → IsSpace s → (e o q : List ℕ) → IsTrue (s.is_point e) → IsTrue (s.is_point o) → IsTrue (s.is_point q) →
    (r radius : ℕ) → s.dist o e ≤ radius → IsTrue (centre_rules_out (s.dist e q) r radius) → r < s.dist o q

-- the same, where the distances to a routing point p are known
abbrev pub ParentRulesOut : Type 0
ParentRulesOut =
    (s : Space) → IsSpace s → (p e o q : List ℕ) → IsTrue (s.is_point p) → IsTrue (s.is_point e) → IsTrue (s.is_point o) → IsTrue (s.is_point q) →
    (r radius : ℕ) → s.dist o e ≤ radius → IsTrue (parent_rules_out (s.dist p q) (s.dist e p) r radius) → r < s.dist o q

-- the same of an object x within ra of the centre a and an object y within rb of the centre b
abbrev pub PairRulesOut : Type 0
PairRulesOut =
    (s : Space) → IsSpace s → (a b x y : List ℕ) → IsTrue (s.is_point a) → IsTrue (s.is_point b) → IsTrue (s.is_point x) → IsTrue (s.is_point y) →
    (r ra rb : ℕ) → s.dist x a ≤ ra → s.dist y b ≤ rb → IsTrue (pair_rules_out (s.dist a b) r ra rb) → r < s.dist x y
