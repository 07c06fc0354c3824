-- New nodes on their pages can be committed.
use Rattle.std.proofs.Common.{◌≡◌, ◌⊎◌, ℕ, zero, suc, ◌+◌, ◌-◌, ◌*◌, ◌^◌, ◌<◌, ◌≤◌, Bool, true, false, List, [], ◌∷◌, refl, sym, ap, ◌∙◌, arith, length, map, subst, get_or, inl, inr}
use Rattle.std.specs.Prelude.{IsTrue, nat_le, if◌then◌else◌, ◌==◌, ◌&&◌}
use Rattle.std.specs.List.{AllByRecursion, range_with_len}
use Rattle.std.proofs.lemmas.Bool.Decides.{nat_tests}
use Rattle.metric_laws.specs.Lists.{IsIn}
use Rattle.metric_laws.proofs.Published.{all_weaker}
use Rattle.tree_shape.specs.declared.entry.Node.{Node}
use Rattle.tree_shape.specs.declared.live.Live.{Live}
use Rattle.tree_shape.specs.Tree.{Nodes, times, IsNodePage}
use Rattle.tree_shape.proofs.Published.{times-past}
use Rattle.node_page.specs.Heads.{is_limit}
use Rattle.node_page.specs.Nodes.{IsValidNode}
use Rattle.node_page.specs.Opening.{IsValidLive}
use Rattle.node_page.specs.declared.head.Head.{Head}
use Rattle.page_store.specs.declared.staging.Placed.{Placed}
use Rattle.page_store.specs.declared.staging.StagedNode.{StagedNode}
use Rattle.page_store.specs.Reading.{IsWithin}
use Rattle.page_store.specs.Staging.{pages_of, IsFree}
use Rattle.page_store.specs.Numbers.{number_at, numbered, AreNumbers}
use Rattle.page_store.specs.Placing.{live_pages, AreOutside, IsPlacement}
use Rattle.page_store.proofs.Standing.{pages_from, in_get, in_times}
use Rattle.page_store.proofs.Given.{lower_or, number_in, number_out, number_within, pages_numbered, numbered_long, pages_range, end_given}

-- no head allows more objects
pub limit_small : (limit : ℕ) → IsTrue (is_limit limit) → limit ≤ 2 ^ 24
unfolding is_limit
limit_small limit told = cases (nat_le 1 limit) (nat_le limit 16777216) refl told
  where
    cases : (a b : Bool) → nat_le limit 16777216 ≡ b → IsTrue (a && b) → limit ≤ 2 ^ 24
    cases true true e told = let l : limit ≤ 16777216 = grind (arith, nat_tests) in l
    cases true false e told = cc
    cases false b e told = cc

-- pages that are given lie outside the live tree
pub given_out : (nodes : Nodes) (t : Live) (numbers : List ℕ) → AreOutside nodes t numbers → AllByRecursion (IsNodePage t) (live_pages nodes t) → (i : ℕ) → times (number_at numbers t.pages i) (live_pages nodes t) ≡ 0
given_out nodes t numbers outside within i =
    lower_or i (length numbers)
    (λ l. rw (number_in numbers t.pages i l) (at numbers i outside l))
    (λ h. let a = number_out numbers t.pages i h in
    times-past (live_pages nodes t) (number_at numbers t.pages i) t.pages (all_weaker (IsNodePage t) (λ n. n < t.pages) (live_pages nodes t) (λ n k. k.1) within) (omega (arith, a)))
  where
    at : (xs : List ℕ) (i : ℕ) → AllByRecursion (λ n. times n (live_pages nodes t) ≡ 0) xs → i < length xs → times (get_or xs i 0) (live_pages nodes t) ≡ 0
    at [] i all low = absurd (omega arith)
    at (x ∷ xs) zero all low = all.0
    at (x ∷ xs) (suc i) all low = at xs i all.1 (omega arith)

pub given_free : (number : ℕ → ℕ) (pages : List ℕ) (page i : ℕ) (ns : List Node) → ((j : ℕ) → times (number j) pages ≡ 0) → IsIn page pages → IsFree (numbered number i ns) page
given_free number pages page i [] out k = tt
given_free number pages page i (n ∷ ns) out k =
    ((λ same. let some = in_times page pages k in let none = ap (λ (p : ℕ). times p pages) (sym same) ∙ out i in absurd (omega (arith, some, none))), given_free number pages page (i + 1) ns out k)

pub given_apart : (number : ℕ → ℕ) (pages : List ℕ) (n i : ℕ) (ns : List Node) → ((j : ℕ) → times (number j) pages ≡ 0) → 1 ≤ times n (pages_from number i ns) → times n pages ≡ 0
given_apart number pages n i [] out k = absurd (omega arith)
given_apart number pages n i (x ∷ ns) out k = cases (number i == n) refl (given_apart number pages n (i + 1) ns out) k
  where
    cases : (b : Bool) → (number i == n) ≡ b → (1 ≤ times n (pages_from number (i + 1) ns) → times n pages ≡ 0) → 1 ≤ (if b then 1 else 0) + times n (pages_from number (i + 1) ns) → times n pages ≡ 0
    cases true e ih k = ap (λ (p : ℕ). times p pages) (let s : n ≡ number i = grind (arith, nat_tests) in s) ∙ out i
    cases false e ih k = ih (omega arith)

pub given_each : (Q : ℕ → Type 0) (number : ℕ → ℕ) (i k : ℕ) (ns : List Node) → k ≡ i + length ns → ((j : ℕ) → j < k → Q (number j)) → AllByRecursion Q (pages_from number i ns)
given_each Q number i k [] e each = tt
given_each Q number i k (n ∷ ns) e each = (each i (omega (arith, e)), given_each Q number (i + 1) k ns (omega (arith, e)) each)

-- the staged pages lie outside the live tree
pub staged_out : (nodes : Nodes) (t : Live) (numbers : List ℕ) (ns : List Node) (staged : List StagedNode) → staged ≡ numbered (number_at numbers t.pages) 0 ns → AreOutside nodes t numbers → AllByRecursion (IsNodePage t) (live_pages nodes t) →
    AreOutside nodes t (pages_of staged)
staged_out nodes t numbers ns staged is outside within =
    subst (AreOutside nodes t) (sym (ap pages_of is ∙ pages_numbered (number_at numbers t.pages) 0 ns))
    (given_each (λ n. times n (live_pages nodes t) ≡ 0) (number_at numbers t.pages) 0 (length ns) ns (omega arith) (λ j low. given_out nodes t numbers outside within j))

all_numbered : (Q : ℕ → Type 0) (R : Node → Type 0) (number : ℕ → ℕ) (i k : ℕ) (ns : List Node) → k ≡ i + length ns → ((j : ℕ) → j < k → Q (number j)) → AllByRecursion R ns → AllByRecursion (λ s. Q s.page × R s.node) (numbered number i ns)
all_numbered Q R number i k [] e each all = tt
all_numbered Q R number i k (n ∷ ns) e each all = ((each i (omega (arith, e)), all.0), all_numbered Q R number (i + 1) k ns (omega (arith, e)) each all.1)

-- each page is one of the given numbers, or a page after the end
all_given : (numbers : List ℕ) (first i : ℕ) (ns : List Node) → AllByRecursion (λ (s : StagedNode). IsIn s.page numbers ⊎ (first ≤ s.page)) (numbered (number_at numbers first) i ns)
all_given numbers first i [] = tt
all_given numbers first i (n ∷ ns) = (
  lower_or i (length numbers)
      (λ l. inl (subst (λ (p : ℕ). IsIn p numbers) (sym (number_in numbers first i l)) (in_get numbers i 0 l)))
      (λ h. inr (let a = number_out numbers first i h in omega (arith, a))),
  all_given numbers first (i + 1) ns,
)

-- what is placed can be committed
pub is_placement : (head : Head) (t : Live) (numbers : List ℕ) (nodes : List Node) (root height added : ℕ) (placed : Placed) →
    placed.staged ≡ numbered (number_at numbers t.pages) 0 nodes →
    placed.next ≡ record { side = 1 - t.side; generation = t.generation + 1; root = root; height = height; count = t.count + added; pages = t.pages + (length nodes - length numbers) } →
    3 ≤ t.pages → t.pages + (length nodes - length numbers) ≤ 2 ^ 24 → t.count + added ≤ head.limit → t.generation < 2 ^ 48 - 1 → AreNumbers t.pages numbers →
    (i : ℕ) × (i < length nodes) × (root ≡ number_at numbers t.pages i) → height ≤ 14 → AllByRecursion (IsValidNode head.dim) nodes → IsPlacement head t numbers added placed
is_placement head t numbers nodes root height added placed staged next three room count generation are given high writable = record {
  side = ap (λ (n : Live). n.side) next;
  generation = ap (λ (n : Live). n.generation) next;
  count = ap (λ (n : Live). n.count) next;
  pages = ap (λ (n : Live). n.pages) next ∙ ap (λ (k : ℕ). t.pages + (k - length numbers)) (sym long);
  valid = subst (λ (n : Live). IsValidLive head.limit (n.pages * 4096) n) (sym next) (record {
    low_generation = omega arith;
    high_generation = omega (arith, generation);
    low_root = (let w = within given.0 given.1 in let e = given.2 in let a = w.0 in omega (arith, a, e));
    high_root = (let w = within given.0 given.1 in let e = given.2 in let b = w.1 in omega (arith, b, e));
    height = high;
    count = count;
    low_pages = (let w = within given.0 given.1 in let a = w.0 in let b = w.1 in omega (arith, a, b));
    high_pages = room;
    room = omega arith;
  });
  numbered = ap pages_of staged ∙ pages_numbered (number_at numbers t.pages) 0 nodes ∙ pages_range (number_at numbers t.pages) 0 nodes ∙ ap (λ (k : ℕ). map (number_at numbers t.pages) (range_with_len 0 k)) (sym long);
  nodes = subst (λ (k : ℕ). AllByRecursion (λ s. IsWithin k s.page × IsValidNode head.dim s.node) placed.staged) (sym (ap (λ (n : Live). n.pages) next))
      (subst (AllByRecursion (λ s. IsWithin (t.pages + (length nodes - length numbers)) s.page × IsValidNode head.dim s.node)) (sym staged)
      (all_numbered (IsWithin (t.pages + (length nodes - length numbers))) (IsValidNode head.dim) (number_at numbers t.pages) 0 (length nodes) nodes (omega arith) within writable));
  given = subst (AllByRecursion (λ s. IsIn s.page numbers ⊎ (t.pages ≤ s.page))) (sym staged) (all_given numbers t.pages 0 nodes);
  new_pages = λ page low below. subst (IsIn page) (sym (ap pages_of staged ∙ pages_numbered (number_at numbers t.pages) 0 nodes))
      (end_given numbers t.pages nodes page low (let e = ap (λ (n : Live). n.pages) next in omega (arith, below, e)));
}
  where
    long : length placed.staged ≡ length nodes
    long = ap length staged ∙ numbered_long (number_at numbers t.pages) 0 nodes

    within : (i : ℕ) → i < length nodes → IsWithin (t.pages + (length nodes - length numbers)) (number_at numbers t.pages i)
    within i low = number_within numbers t.pages are three i (length nodes) low
