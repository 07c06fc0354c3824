-- Free and held pages across a commit.
use Rattle.std.proofs.Common.{◌≡◌, ℕ, zero, suc, ◌+◌, ◌-◌, ◌≤◌, ◌<◌, ◌⊎◌, ◌||◌, Bool, true, false, List, [], ◌∷◌, inl, inr, refl, sym, ap, subst, ◌∙◌, arith, length, map, take, drop, min, get_or}
use Rattle.std.specs.Prelude.{◌↔◌, nat_lt, if◌then◌else◌}
use Rattle.std.specs.List.{AllByRecursion, range_with_len}
use Rattle.std.proofs.lemmas.Bool.{cases_lt}
use Rattle.std.proofs.lemmas.Bool.Decides.{nat_tests}
use Rattle.std.proofs.lemmas.List.{get_or-take, length-take}
use Rattle.metric_laws.specs.Lists.{IsIn}
use Rattle.metric_laws.proofs.Published.{all_in, all_each, in-append_left, in-map, map-in}
use Rattle.tree_shape.specs.Tree.{times}
use Rattle.page_store.specs.Numbers.{Ascends, AreNumbers, number_at}
use Rattle.page_store.specs.Reading.{IsWithin}
use Rattle.page_store.specs.Staging.{pages_of}
use Rattle.page_store.proofs.Published.{number_in, number_out, placements_new}
use Rattle.free_pages.specs.declared.held.Held.{Held}
use Rattle.free_pages.specs.Keeping.{FreePages, IsFreeOrHeld, IsKept, is_kept, is_pinned_below, put_by, with_left, with_page, without_pin}
use Rattle.free_pages.specs.Commits.{with_all_left, after_commit, FreePagesAreNumbers, PlacementsExchange, CommitsKeepWithin, CommitsKeepBeside, CommitsKeepOutside, IsGuarded, PinsGuard}
use Rattle.free_pages.proofs.Ascending.{least_numbers}
use Rattle.free_pages.proofs.Members.{leaving_keeps, while_pinned, pins_keep, pages_in, in_range, range_in}
use Rattle.free_pages.proofs.Whole.{in_from_times, times_from_in}

-- ---- the first of a list, and the rest

in_take : {X : Type 0} (n : ℕ) (xs : List X) (x : X) → IsIn x (take n xs) → IsIn x xs
in_take zero xs x i = absurd i
in_take (suc n) [] x i = absurd i
in_take (suc n) (y ∷ xs) x i = elim i [ inl s ↦ inl s | inr w ↦ inr (in_take n xs x w) ]

in_drop : {X : Type 0} (n : ℕ) (xs : List X) (x : X) → IsIn x (drop n xs) → IsIn x xs
in_drop zero xs x i = i
in_drop (suc n) [] x i = absurd i
in_drop (suc n) (y ∷ xs) x i = inr (in_drop n xs x i)

taken_or_left : {X : Type 0} (n : ℕ) (xs : List X) (x : X) → IsIn x xs → IsIn x (take n xs) ⊎ IsIn x (drop n xs)
taken_or_left zero xs x i = inr i
taken_or_left (suc n) [] x i = absurd i
taken_or_left (suc n) (y ∷ xs) x i = elim i [
  | inl s ↦ inl (inl s)
  | inr w ↦ elim (taken_or_left n xs x w) [ inl t ↦ inl (inr t) | inr d ↦ inr d ]
]

above : (low x : ℕ) (xs : List ℕ) → Ascends low xs → IsIn x xs → low ≤ x
above low x [] up i = absurd i
above low x (y ∷ xs) up i = elim i [ inl s ↦ (let h = up.0 in omega arith) | inr w ↦ (let h = up.0 in let k = above (y + 1) x xs up.1 w in omega arith) ]

not_both : (low n x : ℕ) (xs : List ℕ) → Ascends low xs → IsIn x (take n xs) → IsIn x (drop n xs) → ⊥
not_both low zero x xs up t d = t
not_both low (suc n) x [] up t d = t
not_both low (suc n) x (y ∷ xs) up t d = elim t [
  | inl s ↦ (let k = above (y + 1) x xs up.1 (in_drop n xs x d) in absurd (omega arith))
  | inr w ↦ not_both (y + 1) n x xs up.1 w d
]

place_in : (x : ℕ) (xs : List ℕ) → IsIn x xs → (i : ℕ) × (i < length xs) × (x ≡ get_or xs i 0)
place_in x [] i = absurd i
place_in x (y ∷ xs) i = elim i [
  | inl s ↦ (0, omega arith, s)
  | inr w ↦ let k = place_in x xs w in let l = k.1 in (suc k.0, omega arith, k.2)
]

get_in : (xs : List ℕ) (i : ℕ) → i < length xs → IsIn (get_or xs i 0) xs
get_in [] i low = absurd (omega arith)
get_in (x ∷ xs) zero low = inl refl
get_in (x ∷ xs) (suc i) low = inr (get_in xs i (omega arith))

-- ---- what is free or held after a commit

all_left : (generation : ℕ) (left : List ℕ) (f : FreePages) (p : ℕ) → IsFreeOrHeld (with_all_left generation left f) p ↔ (IsIn p left ⊎ IsFreeOrHeld f p)
all_left generation [] f p = (λ i. inr i, λ i. elim i [ inl n ↦ absurd n | inr w ↦ w ])
all_left generation (page ∷ left) f p =
    let rest = all_left generation left (with_left f page generation) p in
    let one = (leaving_keeps f page generation p).1 in (
      λ i. elim (rest.0 i) [ inl l ↦ inl (inr l) | inr w ↦ elim (one.0 w) [ inl s ↦ inl (inl s) | inr u ↦ inr u ] ],
      λ i. elim i [ inl l ↦ elim l [ inl s ↦ rest.1 (inr (one.1 (inl s))) | inr w ↦ rest.1 (inl w) ] | inr u ↦ rest.1 (inr (one.1 (inr u))) ],
    )

without_used : (used : ℕ) (f : FreePages) (p : ℕ) → IsFreeOrHeld (record f { free = drop used f.free }) p → IsFreeOrHeld f p
without_used used f p i = elim i [ inl d ↦ inl (in_drop used f.free p d) | inr h ↦ inr h ]

unused : (used : ℕ) (f : FreePages) (p : ℕ) → IsKept f → IsFreeOrHeld (record f { free = drop used f.free }) p → IsIn p (take used f.free) → ⊥
unused used f p kept i t = elim i [
  | inl d ↦ not_both 0 used p f.free kept.free_ascend t d
  | inr h ↦ while_pinned.apart f p kept (in_take used f.free p t) h
]

pub keep_within : CommitsKeepWithin
keep_within pages next_pages used generation f staged left ex within page i = elim ((all_left generation left (record f { free = drop used f.free }) page).0 i) [
  | inl l ↦ (let w = all_in (IsWithin pages) left page ex.left_within l in let a = w.0 in let b = w.1 in let m = ex.more in (a, omega arith))
  | inr k ↦ (let w = within page (without_used used f page k) in let a = w.0 in let b = w.1 in let m = ex.more in (a, omega arith))
]

pub keep_beside : CommitsKeepBeside
keep_beside pages next_pages used generation f staged left tree next_tree kept ex within beside from apart page i stands = elim ((all_left generation left (record f { free = drop used f.free }) page).0 i) [
  | inl l ↦ apart page l stands
  | inr k ↦ elim (from page stands) [
    | inl old ↦ beside page (without_used used f page k) old
    | inr new ↦ elim (all_in (λ (p : ℕ). IsIn p (take used f.free) ⊎ (pages ≤ p)) staged page ex.given new) [
      | inl t ↦ unused used f page kept k t
      | inr high ↦ (let w = within page (without_used used f page k) in let b = w.1 in absurd (omega arith))
    ]
  ]
]

pub none_in : (page : ℕ) (xs : List ℕ) → (IsIn page xs → ⊥) → times page xs ≡ 0
none_in page xs never = none (times page xs) refl
  where
    none : (n : ℕ) → times page xs ≡ n → n ≡ 0
    none zero e = refl
    none (suc n) e = absurd (never (in_from_times page xs (omega arith)))

pub keep_outside : CommitsKeepOutside
keep_outside pages next_pages used generation f staged left tree next_tree kept ex outside once inside balance page = (there, back)
  where
    k : FreePages
    k = record f { free = drop used f.free }

    -- no page of the old tree is a new one
    old_or_new : IsIn page tree → IsIn page staged → ⊥
    old_or_new old new = elim (all_in (λ (p : ℕ). IsIn p (take used f.free) ⊎ (pages ≤ p)) staged page ex.given new) [
      | inl t ↦ ((outside page).0 (inl (in_take used f.free page t))).1 old
      | inr high ↦ (let w = all_in (IsWithin pages) tree page inside old in let b = w.1 in absurd (omega arith))
    ]

    few : times page tree + times page staged ≤ 1
    few = decide (times page tree) refl
      where
        decide : (n : ℕ) → times page tree ≡ n → times page tree + times page staged ≤ 1
        decide zero e = let o = ex.once page in omega arith
        decide (suc n) e =
            let z = none_in page staged (λ new. old_or_new (in_from_times page tree (omega arith)) new) in
            let o = once page in omega arith

    from_left : IsIn page left → IsWithin next_pages page × (IsIn page next_tree → ⊥)
    from_left l =
        let w = all_in (IsWithin pages) left page ex.left_within l in
        let a = w.0 in
        let b = w.1 in
        let m = ex.more in
        ((a, omega arith), λ stands. (let one = times_from_in page left l in let two = times_from_in page next_tree stands in let e = balance page in let s = few in absurd (omega arith)))

    from_kept : IsFreeOrHeld (record f { free = drop used f.free }) page → IsWithin next_pages page × (IsIn page next_tree → ⊥)
    from_kept w =
        let o = (outside page).0 (without_used used f page w) in
        let a = o.0.0 in
        let b = o.0.1 in
        let m = ex.more in (
          (a, omega arith),
          λ stands.
              let z = none_in page tree o.1 in
              let two = times_from_in page next_tree stands in
              let e = balance page in
              let some : 1 ≤ times page staged = omega arith in
              elim (all_in (λ (p : ℕ). IsIn p (take used f.free) ⊎ (pages ≤ p)) staged page ex.given (in_from_times page staged some)) [
                | inl t ↦ unused used f page kept w t
                | inr high ↦ absurd (omega arith)
              ],
        )

    there : IsFreeOrHeld (after_commit used left generation f) page → IsWithin next_pages page × (IsIn page next_tree → ⊥)
    there i = elim ((all_left generation left (record f { free = drop used f.free }) page).0 i) [ inl l ↦ from_left l | inr w ↦ from_kept w ]

    not_new : (IsIn page next_tree → ⊥) → (IsIn page left → ⊥) → (IsIn page tree → ⊥) × (IsIn page staged → ⊥)
    not_new out unleft =
        let a = none_in page next_tree out in
        let b = none_in page left unleft in
        let e = balance page in (
          λ old. (let s = times_from_in page tree old in absurd (omega arith)),
          λ new. (let s = times_from_in page staged new in absurd (omega arith)),
        )

    still : IsWithin next_pages page → (IsIn page tree → ⊥) → (IsIn page staged → ⊥) → IsFreeOrHeld (record f { free = drop used f.free }) page
    still within old new = elim (cases_lt page pages) [
      | inl low ↦ (let a = within.0 in elim ((outside page).1 ((a, low), old)) [
        | inl free ↦ elim (taken_or_left used f.free page free) [ inl t ↦ absurd (new (ex.uses page t)) | inr d ↦ inl d ]
        | inr held ↦ inr held
      ])
      | inr high ↦ absurd (new (ex.fresh page high within.1))
    ]

    back : IsWithin next_pages page × (IsIn page next_tree → ⊥) → IsFreeOrHeld (after_commit used left generation f) page
    back both = (all_left generation left (record f { free = drop used f.free }) page).1 (decide (times page left) refl)
      where
        decide : (n : ℕ) → times page left ≡ n → IsIn page left ⊎ IsFreeOrHeld (record f { free = drop used f.free }) page
        decide (suc n) e = inl (in_from_times page left (omega arith))
        decide zero e =
            let no = not_new both.1 (λ l. (let s = times_from_in page left l in absurd (omega arith))) in
            inr (still both.0 no.0 no.1)

-- ---- what is handed in, and what is placed there

pub free_numbers : FreePagesAreNumbers
free_numbers pages n f kept within = least_numbers pages n f.free kept.free_ascend (all_each (IsWithin pages) f.free (λ page i. within page (inl i)))

pub placements_exchange : PlacementsExchange
placements_exchange head t n added f placed kept within three left placement = record {
  given = all_each (λ (p : ℕ). IsIn p (take used f.free) ⊎ (t.pages ≤ p)) (pages_of placed.staged) given;
  uses = uses;
  more = let e = placement.pages in omega arith;
  fresh = placement.new_pages;
  once = (placements_new head t [] numbers added placed tt are (λ page i n. n) placement).once;
  left_within = left;
}
  where
    numbers : List ℕ
    numbers = take n f.free

    used : ℕ
    used = min (length placed.staged) (length (take n f.free))

    are : AreNumbers t.pages (take n f.free)
    are = free_numbers t.pages n f kept within

    at_place : (i : ℕ) → i < used → number_at (take n f.free) t.pages i ≡ get_or (take used f.free) i 0
    at_place i low =
        let l = length-take n f.free in
        let a = number_in (take n f.free) t.pages i (omega arith) in
        let b = get_or-take n f.free i 0 (omega arith) in
        let c = get_or-take used f.free i 0 low in
        a ∙ b ∙ sym c

    long : length (take used f.free) ≡ used
    long = let a = length-take used f.free in let b = length-take n f.free in omega arith

    number : (i : ℕ) → i < length placed.staged → IsIn (number_at (take n f.free) t.pages i) (take used f.free) ⊎ (t.pages ≤ number_at (take n f.free) t.pages i)
    number i low = elim (cases_lt i (length (take n f.free))) [
      | inl less ↦ (let u : i < used = omega arith in let l = long in inl (subst (λ (p : ℕ). IsIn p (take used f.free)) (sym (at_place i u)) (get_in (take used f.free) i (omega arith))))
      | inr more ↦ (let e = number_out (take n f.free) t.pages i more in inr (omega arith))
    ]

    given : (page : ℕ) → IsIn page (pages_of placed.staged) → IsIn page (take used f.free) ⊎ (t.pages ≤ page)
    given page i =
        let m = in-map (number_at (take n f.free) t.pages) (range_with_len 0 (length placed.staged)) page (subst (λ (ps : List ℕ). IsIn page ps) placement.numbered i) in
        let r = in_range (length placed.staged) 0 m.0 m.1 in
        let low = r.1 in
        subst (λ (p : ℕ). IsIn p (take used f.free) ⊎ (t.pages ≤ p)) (sym m.2) (number m.0 (omega arith))

    uses : (page : ℕ) → IsIn page (take used f.free) → IsIn page (pages_of placed.staged)
    uses page i =
        let p = place_in page (take used f.free) i in
        let l = long in
        let low = p.1 in
        let u : p.0 < used = omega arith in
        let e : page ≡ number_at (take n f.free) t.pages p.0 = p.2 ∙ sym (at_place p.0 u) in
        subst (λ (ps : List ℕ). IsIn page ps) (sym placement.numbered)
        (subst (λ (q : ℕ). IsIn q (map (number_at (take n f.free) t.pages) (range_with_len 0 (length placed.staged)))) (sym e)
        (map-in (number_at (take n f.free) t.pages) (range_with_len 0 (length placed.staged)) p.0 (range_in (length placed.staged) 0 p.0 (omega arith) (omega arith))))

-- ---- what a pin guards

below_in : (generation next : ℕ) (pins : List ℕ) → IsIn generation pins → generation < next → is_pinned_below next pins ≡ true
below_in generation next [] i low = absurd i
below_in generation next (pin ∷ pins) i low = elim i [
  | inl s ↦ (let e : nat_lt pin next ≡ true = grind (arith, nat_tests) in rw e refl)
  | inr w ↦ rw (below_in generation next pins w low) (or_true (nat_lt pin next))
]
  where
    or_true : (b : Bool) → (b || true) ≡ true
    or_true true = refl
    or_true false = refl

from_put : (v h : Held) (held : List Held) → IsIn h (put_by (λ h. h.page) v held) → (h ≡ v) ⊎ IsIn h held
from_put v h [] i = i
from_put v h (g ∷ held) i = tested (nat_lt v.page g.page) (nat_lt g.page v.page) i (from_put v h held)
  where
    tested : (a b : Bool) → IsIn h (if a then v ∷ g ∷ held else (if b then g ∷ put_by (λ h. h.page) v held else g ∷ held)) →
        (IsIn h (put_by (λ h. h.page) v held) → (h ≡ v) ⊎ IsIn h held) → (h ≡ v) ⊎ ((h ≡ g) ⊎ IsIn h held)
    tested true b i ih = i
    tested false true i ih = elim i [ inl s ↦ inr (inl s) | inr w ↦ elim (ih w) [ inl s ↦ inl s | inr u ↦ inr (inr u) ] ]
    tested false false i ih = inr i

pub pins_left : (f : FreePages) (page generation : ℕ) → (with_left f page generation).pins ≡ f.pins
pins_left f page generation = tested (is_pinned_below generation f.pins) (is_kept f page)
  where
    tested : (a b : Bool) →
        (if a then (if b then f else record f { held = put_by (λ h. h.page) (record { page = page; generation = generation }) f.held; spare = f.spare - 1 })
        else (if b then f else record f { free = with_page page f.free; spare = f.spare - 1 })).pins ≡ f.pins
    tested true true = refl
    tested true false = refl
    tested false true = refl
    tested false false = refl

held_left : (f : FreePages) (page generation : ℕ) (h : Held) → IsIn h (with_left f page generation).held → (h ≡ record { page = page; generation = generation }) ⊎ IsIn h f.held
held_left f page generation h = tested (is_pinned_below generation f.pins) (is_kept f page)
  where
    tested : (a b : Bool) →
        IsIn h (if a then (if b then f else record f { held = put_by (λ h. h.page) (record { page = page; generation = generation }) f.held; spare = f.spare - 1 })
        else (if b then f else record f { free = with_page page f.free; spare = f.spare - 1 })).held → (h ≡ record { page = page; generation = generation }) ⊎ IsIn h f.held
    tested true true i = inr i
    tested true false i = from_put (record { page = page; generation = generation }) h f.held i
    tested false true i = inr i
    tested false false i = inr i

one_left : (pages generation next : ℕ) (f : FreePages) (tree : List ℕ) (page : ℕ) → generation < next → IsGuarded pages generation f tree → IsGuarded pages generation (with_left f page next) tree
one_left pages generation next f tree page low guard = record {
  pinned = subst (λ (pins : List ℕ). IsIn generation pins) (sym (pins_left f page next)) guard.pinned;
  within = guard.within;
  unfree = λ p i free. guard.unfree p i (subst (λ (ps : List ℕ). IsIn p ps) ((while_pinned.left f page next (below_in generation next f.pins guard.pinned low)).0) free);
  later = λ h i stands. elim (held_left f page next h i) [
    | inl s ↦ (let e = ap (λ (x : Held). x.generation) s in omega arith)
    | inr w ↦ guard.later h w stands
  ];
}

many_left : (pages generation next : ℕ) (left : List ℕ) (f : FreePages) (tree : List ℕ) → generation < next → IsGuarded pages generation f tree → IsGuarded pages generation (with_all_left next left f) tree
many_left pages generation next [] f tree low guard = guard
many_left pages generation next (page ∷ left) f tree low guard = many_left pages generation next left (with_left f page next) tree low (one_left pages generation next f tree page low guard)

wider : (pages next_pages : ℕ) (tree : List ℕ) → pages ≤ next_pages → AllByRecursion (IsWithin pages) tree → AllByRecursion (IsWithin next_pages) tree
wider pages next_pages [] more all = tt
wider pages next_pages (p ∷ tree) more all = (let a = all.0.0 in let b = all.0.1 in (a, omega arith), wider pages next_pages tree more all.1)

pub guard : PinsGuard
guard = record {
  begin = λ pages generation f tree pinned within beside. record {
    pinned = pinned;
    within = within;
    unfree = λ p i free. beside p (inl free) i;
    later = λ h i stands. absurd (beside h.page (inr (pages_in h.page h f.held i refl)) stands);
  };
  commit = λ pages next_pages used generation next f tree left low more old. many_left next_pages generation next left (record f { free = drop used f.free }) tree low (record {
    pinned = old.pinned;
    within = wider pages next_pages tree more old.within;
    unfree = λ p i free. old.unfree p i (in_drop used f.free p free);
    later = old.later;
  });
  unwritten = λ pages next_pages used generation f tree staged left old ex page new stands. elim (all_in (λ (p : ℕ). IsIn p (take used f.free) ⊎ (pages ≤ p)) staged page ex.given new) [
    | inl t ↦ old.unfree page stands (in_take used f.free page t)
    | inr high ↦ (let w = all_in (IsWithin pages) tree page old.within stands in let b = w.1 in absurd (omega arith))
  ];
  pin = λ pages generation other f tree old. record {
    pinned = in-append_left f.pins (other ∷ []) generation old.pinned;
    within = old.within;
    unfree = old.unfree;
    later = old.later;
  };
  unpin = λ pages generation other f tree pinned old. record {
    pinned = pinned;
    within = old.within;
    unfree = λ p i free. elim ((pins_keep f (without_pin other f.pins) p).1.0 free) [
      | inl was ↦ old.unfree p i was
      | inr h ↦
          let low = old.later h.0 h.1 (subst (λ (q : ℕ). IsIn q tree) (sym h.2) i) in
          let e = below_in generation h.0.generation (without_pin other f.pins) pinned low in
          let n = h.3 in absurd (cc)
    ];
    later = λ h i stands. old.later h ((while_pinned.pins f (without_pin other f.pins) h).0 i).0 stands;
  };
}
