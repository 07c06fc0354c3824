-- At its turn an object is put into the nearest group with room, and the seeds stay in their own.
use Rattle.std.proofs.Common.{◌≡◌, ℕ, zero, suc, ◌+◌, ◌-◌, ◌*◌, ◌/◌, ◌<◌, ◌≤◌, inl, inr, Bool, true, false, List, [], ◌∷◌, refl, sym, ap, ◌∙◌, arith, length, get_or, subst, Option, Some, None}
use Rattle.std.specs.Prelude.{◌==◌, if◌then◌else◌, nat_lt, replicate}
use Rattle.std.specs.List.{AllByRecursion}
use Rattle.std.proofs.Math.ListN.{set}
use Rattle.std.proofs.lemmas.Bool.Decides.{nat_tests}
use Rattle.std.proofs.lemmas.Bool.{cases_eq}
use Rattle.std.proofs.lemmas.List.{get_or-set_other}
use Rattle.tree_growth.specs.declared.rules.Member.{Member}
use Rattle.tree_growth.specs.Groups.{Far, nearer, nearest_from, chosen, counted, one_more, placed_from, seeds_from, seed_of, member_of, in_group, is_candidate, candidate_from, moved_to, received, filled_from}
use Rattle.tree_growth.specs.Nearest.{placed, put_before, TakesNearest, ObjectsTakeNearest, SeedsStay}
use Rattle.tree_growth.proofs.Loaded.{placed_low}
use Rattle.tree_growth.proofs.Sized.{nearest_some, nearest_none, HasRoom, Ascends, ascends_fit, total, total_full, total_more, length_more, get_more, candidate_some, IsFound, seeds_ascend, length_seeds, ones_long, ones_total, ones_at}

-- no further, and at an equal distance of no greater number
abbrev NotAfter : ℕ × ℕ → ℕ × ℕ → Type 0
NotAfter b c = (b.0 ≤ c.0) × (b.0 ≡ c.0 → b.1 ≤ c.1)

itself : (b c : ℕ × ℕ) → b ≡ c → NotAfter b c
itself b c e = (let x : b.0 ≡ c.0 = ap (λ (y : ℕ × ℕ). y.0) e in omega arith, λ same. (let x : b.1 ≡ c.1 = ap (λ (y : ℕ × ℕ). y.1) e in omega arith))

onward : (b c : ℕ × ℕ) (d i : ℕ) → NotAfter b c → c.0 ≤ d → c.1 ≤ i → NotAfter b (d, i)
onward b c d i (le, tie) far low = (omega arith, λ same. (let t = tie (omega arith) in omega arith))

-- what the best so far is: it comes from a group before, at that group's distance
abbrev IsKnown : Far → ℕ → ℕ → Option (ℕ × ℕ) → Type 0
IsKnown far k a best = (c : ℕ × ℕ) → best ≡ Some c → (c.1 ≤ a) × (c.0 ≡ far k c.1)

record IsFirst (far : Far) (room k a : ℕ) (best : Option (ℕ × ℕ)) (counts : List ℕ) (b : ℕ × ℕ) : Type 0 where
  known : (c : ℕ × ℕ) → best ≡ Some c → NotAfter b c
  each : (p : ℕ) → p < length counts → get_or counts p 0 < room → NotAfter b (far k (a + p), a + p)
  dist : b.0 ≡ far k b.1

known_one : (far : Far) (k a : ℕ) → IsKnown far k (a + 1) (Some (far k a, a))
known_one far k a c e =
    let is : (far k a, a) ≡ c = cc in
    let x : far k a ≡ c.0 = ap (λ (y : ℕ × ℕ). y.0) is in
    let y : a ≡ c.1 = ap (λ (y : ℕ × ℕ). y.1) is in
    (omega arith, sym x ∙ ap (far k) y)

first_by : (far : Far) (room k a : ℕ) (best : Option (ℕ × ℕ)) (counts : List ℕ) (b : ℕ × ℕ) → IsKnown far k a best → nearest_from far room k a best counts ≡ Some b → IsFirst far room k a best counts b
first_by far room k a best [] b known e = record {
  known = λ c is. itself b c (let h : Some b ≡ Some c = sym e ∙ is in cc);
  each = λ p low. absurd (omega arith);
  dist = (known b e).1;
}
first_by far room k a best (n ∷ counts) b known e = by_room (λ after knows is. first_by far room k (a + 1) after counts b knows is) (nat_lt n room) refl best known e
  where
    shift : (best : Option (ℕ × ℕ)) → IsKnown far k a best → IsKnown far k (a + 1) best
    shift best known c is = (let l = (known c is).0 in omega arith, (known c is).1)

    -- the rest, and the first of these counts
    with_first : (best after : Option (ℕ × ℕ)) → IsFirst far room k (a + 1) after counts b → ((c : ℕ × ℕ) → best ≡ Some c → NotAfter b c) → (n < room → NotAfter b (far k a, a)) → IsFirst far room k a best (n ∷ counts) b
    with_first best after rest old here = record { known = old; each = each; dist = rest.dist }
      where
        each : (p : ℕ) → p < suc (length counts) → get_or (n ∷ counts) p 0 < room → NotAfter b (far k (a + p), a + p)
        each zero low free = let e : a ≡ a + 0 = omega arith in subst (λ (x : ℕ). NotAfter b (far k x, x)) e (here free)
        each (suc p) low free = let e : (a + 1) + p ≡ a + suc p = omega arith in subst (λ (x : ℕ). NotAfter b (far k x, x)) e (rest.each p (omega arith) free)

    by_room : ((after : Option (ℕ × ℕ)) → IsKnown far k (a + 1) after → nearest_from far room k (a + 1) after counts ≡ Some b → IsFirst far room k (a + 1) after counts b) →
        (t : Bool) → nat_lt n room ≡ t → (best : Option (ℕ × ℕ)) → IsKnown far k a best → nearest_from far room k (a + 1) (nearer (nat_lt n room) (far k a) a best) counts ≡ Some b → IsFirst far room k a best (n ∷ counts) b
    by_room rec false t best known e =
        let rest = rec best (shift best known) (subst (λ (x : Bool). nearest_from far room k (a + 1) (nearer x (far k a) a best) counts ≡ Some b) t e) in
        with_first best best rest rest.known (λ free. absurd (let h : nat_lt n room ≡ true = grind (arith, nat_tests) in let clash : true ≡ false = sym h ∙ t in cc))
    by_room rec true t None known e =
        let rest = rec (Some (far k a, a)) (known_one far k a) (subst (λ (x : Bool). nearest_from far room k (a + 1) (nearer x (far k a) a None) counts ≡ Some b) t e) in
        with_first None (Some (far k a, a)) rest (λ c is. absurd (cc)) (λ free. rest.known (far k a, a) refl)
    by_room rec true t (Some c) known e = by_dist rec (nat_lt (far k a) c.0) refl (subst (λ (x : Bool). nearest_from far room k (a + 1) (nearer x (far k a) a (Some c)) counts ≡ Some b) t e)
      where
        same : (d : ℕ × ℕ) → Some c ≡ Some d → c ≡ d
        same d is = cc

        by_dist : ((after : Option (ℕ × ℕ)) → IsKnown far k (a + 1) after → nearest_from far room k (a + 1) after counts ≡ Some b → IsFirst far room k (a + 1) after counts b) →
            (u : Bool) → nat_lt (far k a) c.0 ≡ u → nearest_from far room k (a + 1) (if nat_lt (far k a) c.0 then Some (far k a, a) else Some c) counts ≡ Some b → IsFirst far room k a (Some c) (n ∷ counts) b
        by_dist rec true u e =
            let rest = rec (Some (far k a, a)) (known_one far k a) (subst (λ (x : Bool). nearest_from far room k (a + 1) (if x then Some (far k a, a) else Some c) counts ≡ Some b) u e) in
            let new = rest.known (far k a, a) refl in
            let lt : far k a < c.0 = grind (arith, nat_tests) in
            with_first (Some c) (Some (far k a, a)) rest (λ d is. subst (NotAfter b) (same d is) ((let l = new.0 in omega arith), (λ tie. absurd (let l = new.0 in omega arith)))) (λ free. new)
        by_dist rec false u e =
            let rest = rec (Some c) (shift (Some c) known) (subst (λ (x : Bool). nearest_from far room k (a + 1) (if x then Some (far k a, a) else Some c) counts ≡ Some b) u e) in
            let le : c.0 ≤ far k a = grind (arith, nat_tests) in
            with_first (Some c) (Some c) rest rest.known (λ free. onward b c (far k a) a (rest.known c refl) le (known c refl).0)

-- each of these objects, from place k on over these counts, is put into the nearest group with room
record TakeFrom (far : Far) (room k : ℕ) (counts : List ℕ) (ps : List Member) (j a : ℕ) : Type 0 where
  room_left : get_or counts a 0 + put_before ps j a < room
  nearest : (b : ℕ) → b < length counts → get_or counts b 0 + put_before ps j b < room → NotAfter (far (k + j) a, a) (far (k + j) b, b)

abbrev AllTake : Far → ℕ → ℕ → List ℕ → List Member → Type 0
AllTake far room k counts ps = (j a : ℕ) (d : Member) → j < length ps → get_or ps j d ≡ member_of a → TakeFrom far room k counts ps j a

group_is : (a b : ℕ) → member_of a ≡ member_of b → a ≡ b
group_is a b e = ap (λ (m : Member). m.group) e

take_member : (far : Far) (room g k : ℕ) (counts : List ℕ) (rest : List ℕ → List Member) → length counts ≡ g → total counts < g * room →
    ((cs : List ℕ) → length cs ≡ g → total cs ≡ total counts + 1 → AllTake far room (k + 1) cs (rest cs)) →
    AllTake far room k counts (member_of (chosen (nearest_from far room k 0 None counts)) ∷ rest (counted (nearest_from far room k 0 None counts) counts))
take_member far room g k counts rest long spare rec = go (nearest_from far room k 0 None counts) refl
  where
    go : (best : Option (ℕ × ℕ)) → nearest_from far room k 0 None counts ≡ best → AllTake far room k counts (member_of (chosen best) ∷ rest (counted best counts))
    go None e = absurd (let f = total_full room counts (nearest_none far room k 0 counts e) in let h : length counts * room ≡ g * room = ap (λ (x : ℕ). x * room) long in omega arith)
    go (Some b) e = elim (nearest_some far room k 0 None counts b e) [
      | inl other ↦ absurd (let h : None ≡ Some b = other in cc)
      | inr r ↦ put r (first_by far room k 0 None counts b (λ c is. absurd (cc)) e)
    ]
      where
        put : HasRoom room 0 counts b → IsFirst far room k 0 None counts b → AllTake far room k counts (member_of b.1 ∷ rest (one_more b.1 counts))
        put r first = each
          where
            place : r.place ≡ b.1
            place = let h = r.is in omega arith

            inside : b.1 < length counts
            inside = subst (λ (x : ℕ). x < length counts) place r.inside

            free : get_or counts b.1 0 < room
            free = subst (λ (x : ℕ). get_or counts x 0 < room) place r.free

            each : AllTake far room k counts (member_of b.1 ∷ rest (one_more b.1 counts))
            each zero a d low is =
                let same : b.1 ≡ a = group_is b.1 a is in
                subst (λ (x : ℕ). TakeFrom far room k counts (member_of b.1 ∷ rest (one_more b.1 counts)) 0 x) same (record {
                  room_left = omega (arith, free);
                  nearest = λ c inside_c free_c.
                      let here : k + 0 ≡ k = omega arith in
                      let zeroth : 0 + c ≡ c = omega arith in
                      let f = subst (λ (x : ℕ). NotAfter b (far k x, x)) zeroth (first.each c inside_c (omega arith)) in
                      let at : b.0 ≡ far (k + 0) b.1 = first.dist ∙ ap (λ (x : ℕ). far x b.1) (sym here) in
                      let there : far k c ≡ far (k + 0) c = ap (λ (x : ℕ). far x c) (sym here) in
                      (let l = f.0 in omega arith, λ tie. f.1 (omega arith));
                })
            each (suc j) a d low is =
                let R = rec (one_more b.1 counts) (length_more b.1 counts ∙ long) (total_more b.1 counts inside) j a d (omega arith) is in
                let step : (k + 1) + j ≡ k + suc j = omega arith in
                record {
                  room_left = (let h = R.room_left in let m = get_more b.1 a counts inside in omega arith);
                  nearest = λ c inside_c free_c.
                      subst (λ (x : ℕ). NotAfter (far x a, a) (far x c, c)) step
                      (R.nearest c (omega (arith, length_more b.1 counts)) (let m = get_more b.1 c counts inside in omega arith));
                }

take_seed : (far : Far) (room k i : ℕ) (counts : List ℕ) (ps : List Member) → AllTake far room (k + 1) counts ps → AllTake far room k counts (seed_of i ∷ ps)
take_seed far room k i counts ps all zero a d low is = absurd (let h : true ≡ false = ap (λ (m : Member). m.is_seed) is in cc)
take_seed far room k i counts ps all (suc j) a d low is =
    let R = all j a d (omega arith) is in
    let step : (k + 1) + j ≡ k + suc j = omega arith in
    record {
      room_left = (let h = R.room_left in omega arith);
      nearest = λ c inside free. subst (λ (x : ℕ). NotAfter (far x a, a) (far x c, c)) step (R.nearest c inside (omega arith));
    }

all_take : (far : Far) (room g end k i : ℕ) (seeds counts : List ℕ) (left : ℕ) → k + left ≡ end → Ascends k end seeds → length counts ≡ g →
    total counts + left ≤ g * room + length seeds → AllTake far room k counts (placed_from far room k seeds i counts left)
all_take far room g end k i seeds counts zero sum up long spare = λ j a d low is. absurd (omega arith)
all_take far room g end k i [] counts (suc left) sum up long spare =
    take_member far room g k counts (λ cs. placed_from far room (k + 1) [] i cs left) long (omega arith)
    (λ cs l t. all_take far room g end (k + 1) i [] cs left (omega arith) (omega arith) l (omega arith))
all_take far room g end k i (s ∷ seeds) counts (suc left) sum up long spare =
    cases (s == k) refl
    (λ same. all_take far room g end (k + 1) (i + 1) seeds counts left (omega arith) (subst (λ (j : ℕ). Ascends (j + 1) end seeds) same up.1) long (omega arith))
    (λ above cs l t. all_take far room g end (k + 1) i (s ∷ seeds) cs left (omega arith) (omega arith, up.1) l (omega arith))
  where
    cases : (b : Bool) → (s == k) ≡ b → (s ≡ k → AllTake far room (k + 1) counts (placed_from far room (k + 1) seeds (i + 1) counts left)) →
        (k + 1 ≤ s → (cs : List ℕ) → length cs ≡ g → total cs ≡ total counts + 1 → AllTake far room (k + 1) cs (placed_from far room (k + 1) (s ∷ seeds) i cs left)) →
        AllTake far room k counts (if b then seed_of i ∷ placed_from far room (k + 1) seeds (i + 1) counts left
        else member_of (chosen (nearest_from far room k 0 None counts)) ∷ placed_from far room (k + 1) (s ∷ seeds) i (counted (nearest_from far room k 0 None counts) counts) left)
    cases true e now later = take_seed far room k i counts (placed_from far room (k + 1) seeds (i + 1) counts left) (now (grind (arith, nat_tests)))
    cases false e now later =
        let above : k + 1 ≤ s = let h = up.0 in grind (arith, nat_tests) in
        let is_point = ascends_fit (s + 1) end seeds up.1 in
        take_member far room g k counts (λ cs. placed_from far room (k + 1) (s ∷ seeds) i cs left) long (omega arith) (later above)

placed_long : (far : Far) (room k i : ℕ) (seeds counts : List ℕ) (left : ℕ) → length (placed_from far room k seeds i counts left) ≡ left
placed_long far room k i seeds counts zero = refl
placed_long far room k i [] counts (suc left) = ap suc (placed_long far room (k + 1) i [] (counted (nearest_from far room k 0 None counts) counts) left)
placed_long far room k i (s ∷ seeds) counts (suc left) =
    cases (s == k) (placed_long far room (k + 1) (i + 1) seeds counts left) (placed_long far room (k + 1) i (s ∷ seeds) (counted (nearest_from far room k 0 None counts) counts) left)
  where
    cases : (b : Bool) → length (placed_from far room (k + 1) seeds (i + 1) counts left) ≡ left → length (placed_from far room (k + 1) (s ∷ seeds) i (counted (nearest_from far room k 0 None counts) counts) left) ≡ left →
        length (if b then seed_of i ∷ placed_from far room (k + 1) seeds (i + 1) counts left
        else member_of (chosen (nearest_from far room k 0 None counts)) ∷ placed_from far room (k + 1) (s ∷ seeds) i (counted (nearest_from far room k 0 None counts) counts) left) ≡ suc left
    cases true now later = ap suc now
    cases false now later = ap suc later

all_get : {X : Type 0} (P : X → Type 0) (xs : List X) (k : ℕ) (d : X) → AllByRecursion P xs → k < length xs → P (get_or xs k d)
all_get P [] k d all low = absurd (omega arith)
all_get P (x ∷ xs) zero d all low = all.0
all_get P (x ∷ xs) (suc k) d all low = all_get P xs k d all.1 (omega arith)

pub objects_take_nearest : ObjectsTakeNearest
objects_take_nearest far room g n some big spare k a low is =
    let seeds = length_seeds n g 0 g in
    let ones = ones_total g in
    let long = placed_long far room 0 0 (seeds_from n g 0 g) (replicate g 1) n in
    let T = all_take far room g n 0 0 (seeds_from n g 0 g) (replicate g 1) n (omega arith) (seeds_ascend n g 0 g 0 some big (omega arith) (omega arith)) (ones_long g) (omega arith) k a (seed_of 0) (omega arith) is in
    let groups = (placed_low far room g some 0 0 (seeds_from n g 0 g) (replicate g 1) n (omega arith) (ones_long g)).1 in
    let in_range : (get_or (placed far room g n) k (seed_of 0)).group < g = all_get (λ (m : Member). m.group < g) (placed far room g n) k (seed_of 0) groups (omega arith) in
    ends T (subst (λ (m : Member). m.group < g) is in_range)
  where
    ends : TakeFrom far room 0 (replicate g 1) (placed far room g n) k a → a < g → TakesNearest far room g (placed far room g n) k a
    ends T inside = record {
      room_left = omega (arith, T.room_left, ones_at g a inside);
      nearest = λ b low_b free.
          let here : 0 + k ≡ k = omega arith in
          let long = ones_long g in
          subst (λ (x : ℕ). NotAfter (far x a, a) (far x b, b)) here (T.nearest b (omega arith) (omega (arith, free, ones_at g b low_b)));
    }

-- ---- the seeds

seeds_at : (n g i left j : ℕ) → j < left → get_or (seeds_from n g i left) j 0 ≡ (i + j) * n / g
seeds_at n g i zero j low = absurd (omega arith)
seeds_at n g i (suc left) zero low = ap (λ (x : ℕ). x * n / g) (let e : i ≡ i + 0 = omega arith in e)
seeds_at n g i (suc left) (suc j) low = seeds_at n g (i + 1) left j (omega arith) ∙ ap (λ (x : ℕ). x * n / g) (let e : (i + 1) + j ≡ i + suc j = omega arith in e)

ascends_low : (k end : ℕ) (ss : List ℕ) → Ascends k end ss → (j : ℕ) → j < length ss → (k ≤ get_or ss j 0) × (get_or ss j 0 < end)
ascends_low k end [] up j low = absurd (omega arith)
ascends_low k end (s ∷ ss) up zero low = (up.0, let f = ascends_fit (s + 1) end ss up.1 in omega arith)
ascends_low k end (s ∷ ss) up (suc j) low = let ih = ascends_low (s + 1) end ss up.1 j (omega arith) in (let h = up.0 in let i = ih.0 in omega arith, ih.1)

-- the j-th of these seeds, whose place is m places behind k, is in its own group
abbrev SeedAt : ℕ → ℕ → List ℕ → List Member → Type 0
SeedAt k i seeds ps = (j m : ℕ) (d : Member) → j < length seeds → get_or seeds j 0 ≡ k + m → get_or ps m d ≡ seed_of (i + j)

seed_first : (end k i s : ℕ) (seeds : List ℕ) (ps : List Member) → s ≡ k → Ascends (s + 1) end seeds → SeedAt (k + 1) (i + 1) seeds ps → SeedAt k i (s ∷ seeds) (seed_of i ∷ ps)
seed_first end k i s seeds ps here up rest zero zero d low is = ap seed_of (let e : i ≡ i + 0 = omega arith in e)
seed_first end k i s seeds ps here up rest zero (suc m) d low is = absurd (omega arith)
seed_first end k i s seeds ps here up rest (suc j) zero d low is = absurd (let h = (ascends_low (s + 1) end seeds up j (omega arith)).0 in omega arith)
seed_first end k i s seeds ps here up rest (suc j) (suc m) d low is = rest j m d (omega arith) (omega arith) ∙ ap seed_of (let e : (i + 1) + j ≡ i + suc j = omega arith in e)

seed_later : (end k i s : ℕ) (seeds : List ℕ) (p : Member) (ps : List Member) → k + 1 ≤ s → Ascends (s + 1) end seeds → SeedAt (k + 1) i (s ∷ seeds) ps → SeedAt k i (s ∷ seeds) (p ∷ ps)
seed_later end k i s seeds p ps above up rest j zero d low is = absurd (let h = (ascends_low s end (s ∷ seeds) (omega arith, up) j low).0 in omega arith)
seed_later end k i s seeds p ps above up rest j (suc m) d low is = rest j m d low (is ∙ (let e : k + suc m ≡ (k + 1) + m = omega arith in e))

seeds_placed : (far : Far) (room end k i : ℕ) (seeds counts : List ℕ) (left : ℕ) → k + left ≡ end → Ascends k end seeds → SeedAt k i seeds (placed_from far room k seeds i counts left)
seeds_placed far room end k i seeds counts zero sum up = λ j m d low is. absurd (let h = (ascends_low k end seeds up j low).1 in omega arith)
seeds_placed far room end k i [] counts (suc left) sum up = λ j m d low is. absurd (omega arith)
seeds_placed far room end k i (s ∷ seeds) counts (suc left) sum up =
    cases (s == k) refl
    (λ same. seeds_placed far room end (k + 1) (i + 1) seeds counts left (omega arith) (subst (λ (j : ℕ). Ascends (j + 1) end seeds) same up.1))
    (λ above. seeds_placed far room end (k + 1) i (s ∷ seeds) (counted (nearest_from far room k 0 None counts) counts) left (omega arith) (omega arith, up.1))
  where
    cases : (b : Bool) → (s == k) ≡ b → (s ≡ k → SeedAt (k + 1) (i + 1) seeds (placed_from far room (k + 1) seeds (i + 1) counts left)) →
        (k + 1 ≤ s → SeedAt (k + 1) i (s ∷ seeds) (placed_from far room (k + 1) (s ∷ seeds) i (counted (nearest_from far room k 0 None counts) counts) left)) →
        SeedAt k i (s ∷ seeds) (if b then seed_of i ∷ placed_from far room (k + 1) seeds (i + 1) counts left
        else member_of (chosen (nearest_from far room k 0 None counts)) ∷ placed_from far room (k + 1) (s ∷ seeds) i (counted (nearest_from far room k 0 None counts) counts) left)
    cases true e now later =
        let same : s ≡ k = grind (arith, nat_tests) in
        seed_first end k i s seeds (placed_from far room (k + 1) seeds (i + 1) counts left) same up.1 (now same)
    cases false e now later =
        let above : k + 1 ≤ s = let h = up.0 in grind (arith, nat_tests) in
        seed_later end k i s seeds (member_of (chosen (nearest_from far room k 0 None counts))) (placed_from far room (k + 1) (s ∷ seeds) i (counted (nearest_from far room k 0 None counts) counts) left) above up.1 (later above)

-- the filling takes no seed away
module _ (far : Far) (least : ℕ) (s i : ℕ) where
  abbrev IsSeedAt : List Member → Type 0
  IsSeedAt ps = get_or ps s (member_of 0) ≡ seed_of i

  moved_keeps : (a : ℕ) (best : Option (ℕ × ℕ)) (ps : List Member) → candidate_from far least a ps 0 None ps ≡ best → IsSeedAt ps → IsSeedAt (moved_to a best ps)
  moved_keeps a None ps e is = is
  moved_keeps a (Some b) ps e is = elim (candidate_some far least a ps 0 None ps (member_of 0) b e) [
    | inl other ↦ absurd (let h : None ≡ Some b = other in cc)
    | inr found ↦ elim (cases_eq s b.1) [
      | inl same ↦ absurd (taken found (let h = found.is in omega arith))
      | inr differ ↦ get_or-set_other ps b.1 s (member_of a) (member_of 0) differ ∙ is
    ]
  ]
    where
      taken : (found : IsFound least ps 0 ps (member_of 0) b) → found.place ≡ s → ⊥
      taken found here =
          let there : is_candidate least ps (get_or ps s (member_of 0)) ≡ true = subst (λ (x : ℕ). is_candidate least ps (get_or ps x (member_of 0)) ≡ true) here found.candidate in
          let seed : is_candidate least ps (seed_of i) ≡ true = subst (λ (m : Member). is_candidate least ps m ≡ true) is there in
          let clash : false ≡ true = seed in
          cc

  received_keeps : (a n : ℕ) (ps : List Member) → IsSeedAt ps → IsSeedAt (received far least a n ps)
  received_keeps a zero ps is = is
  received_keeps a (suc n) ps is = received_keeps a n (moved_to a (candidate_from far least a ps 0 None ps) ps) (moved_keeps a (candidate_from far least a ps 0 None ps) ps refl is)

  filled_keeps : (a n : ℕ) (ps : List Member) → IsSeedAt ps → IsSeedAt (filled_from far least a n ps)
  filled_keeps a zero ps is = is
  filled_keeps a (suc n) ps is = filled_keeps (a + 1) n (received far least a (least - in_group a ps) ps) (received_keeps a (least - in_group a ps) ps is)

pub seeds_stay : SeedsStay
seeds_stay far least room g n some big i low =
    let long = length_seeds n g 0 g in
    let zeroth : 0 + i ≡ i = omega arith in
    let place : get_or (seeds_from n g 0 g) i 0 ≡ 0 + i * n / g =
    seeds_at n g 0 g i low ∙ ap (λ (x : ℕ). x * n / g) zeroth ∙ (let e : i * n / g ≡ 0 + i * n / g = omega arith in e) in
    let here = seeds_placed far room n 0 0 (seeds_from n g 0 g) (replicate g 1) n (omega arith) (seeds_ascend n g 0 g 0 some big (omega arith) (omega arith)) i (i * n / g) (member_of 0) (omega arith) place in
    filled_keeps far least (i * n / g) i 0 g (placed far room g n) (here ∙ ap seed_of zeroth)
