-- Which pages are free or held.
use Rattle.std.proofs.Common.{◌≡◌, ℕ, zero, suc, ◌+◌, ◌-◌, ◌≤◌, ◌<◌, ◌⊎◌, ◌||◌, Bool, true, false, cond, List, [], ◌∷◌, inl, inr, refl, sym, ap, subst, ◌∙◌, arith}
use Rattle.std.specs.Prelude.{◌↔◌, ◌==◌, nat_lt, not, map, filter, if◌then◌else◌}
use Rattle.std.specs.List.{range_with_len}
use Rattle.std.proofs.lemmas.Bool.{cases_lt}
use Rattle.std.proofs.lemmas.Bool.Decides.{nat_tests}
use Rattle.metric_laws.specs.Lists.{IsIn}
use Rattle.metric_laws.proofs.Published.{all_in}
use Rattle.tree_shape.specs.Tree.{times}
use Rattle.free_pages.specs.declared.held.Held.{Held}
use Rattle.free_pages.specs.Keeping.{FreePages, IsFreeOrHeld, IsKept, held_pages, is_among, is_kept, is_pinned_below, put_by, released, still_held, with_free, with_held, with_left, with_page, with_pages}
use Rattle.free_pages.specs.Laws.{HeldWhilePinned, LeavingKeepsPages, OutsideIsOutside, PinsKeepPages}
use Rattle.free_pages.proofs.Whole.{in_from_times, times_from_in}

-- ---- elements of a filter

module _ {X : Type 0} (p : X → Bool) where
  in_filter : (x : X) (xs : List X) → IsIn x (filter p xs) → IsIn x xs × (p x ≡ true)
  in_filter x [] i = absurd i
  in_filter x (y ∷ ys) i = pass (p y) refl i (in_filter x ys)
    where
      pass : (b : Bool) → p y ≡ b → IsIn x (cond b (y ∷ filter p ys) (filter p ys)) → (IsIn x (filter p ys) → IsIn x ys × (p x ≡ true)) → ((x ≡ y) ⊎ IsIn x ys) × (p x ≡ true)
      pass true e i ih = elim i [ inl s ↦ (inl s, ap p s ∙ e) | inr w ↦ (inr (ih w).0, (ih w).1) ]
      pass false e i ih = (inr (ih i).0, (ih i).1)

  filter_in : (x : X) (xs : List X) → IsIn x xs → p x ≡ true → IsIn x (filter p xs)
  filter_in x [] i passes = absurd i
  filter_in x (y ∷ ys) i passes = pass (p y) refl i (λ w. filter_in x ys w passes)
    where
      pass : (b : Bool) → p y ≡ b → (x ≡ y) ⊎ IsIn x ys → (IsIn x ys → IsIn x (filter p ys)) → IsIn x (cond b (y ∷ filter p ys) (filter p ys))
      pass true e i ih = elim i [ inl s ↦ inl s | inr w ↦ inr (ih w) ]
      pass false e i ih = elim i [ inl s ↦ (let t = ap p s in absurd (cc)) | inr w ↦ ih w ]

-- ---- the pages outside a tree

pub in_range : (n a page : ℕ) → IsIn page (range_with_len a n) → (a ≤ page) × (page < a + n)
in_range zero a page i = absurd i
in_range (suc n) a page i = elim i [
  | inl s ↦ (omega arith, omega arith)
  | inr w ↦ let b = in_range n (a + 1) page w in let l = b.0 in let h = b.1 in (omega arith, omega arith)
]

pub range_in : (n a page : ℕ) → a ≤ page → page < a + n → IsIn page (range_with_len a n)
range_in zero a page le lt = absurd (omega arith)
range_in (suc n) a page le lt = elim (cases_lt a page) [
  | inl more ↦ inr (range_in n (a + 1) page (omega arith) (omega arith))
  | inr same ↦ inl (omega arith)
]

not_in : (m : ℕ) → (m == 0) ≡ true → 1 ≤ m → ⊥
not_in m e le = let z : m ≡ 0 = grind (arith, nat_tests) in absurd (omega arith)

none_from : (m : ℕ) → (1 ≤ m → ⊥) → (m == 0) ≡ true
none_from zero never = refl
none_from (suc m) never = absurd (never (omega arith))

pub outside_is : OutsideIsOutside
outside_is pages tree page = (
  λ i.
      let both = in_filter (λ (q : ℕ). times q tree == 0) page (range_with_len 3 (pages - 3)) i in
      let b = in_range (pages - 3) 3 page both.0 in
      let l = b.0 in
      let h = b.1 in
      ((l, omega arith), λ t. not_in (times page tree) both.1 (times_from_in page tree t)),
  λ both.
      let l = both.0.0 in
      let h = both.0.1 in
      filter_in (λ (q : ℕ). times q tree == 0) page (range_with_len 3 (pages - 3)) (range_in (pages - 3) 3 page l (omega arith))
      (none_from (times page tree) (λ some. both.1 (in_from_times page tree some))),
)

-- ---- a page more

module _ {X : Type 0} (key : X → ℕ) where
  in_put : (v : X) (k : ℕ) (xs : List X) → IsIn k (map key (put_by key v xs)) ↔ ((k ≡ key v) ⊎ IsIn k (map key xs))
  in_put v k [] = (λ i. i, λ i. i)
  in_put v k (x ∷ xs) = tested (nat_lt (key v) (key x)) refl (nat_lt (key x) (key v)) refl (in_put v k xs)
    where
      tested : (a : Bool) → nat_lt (key v) (key x) ≡ a → (b : Bool) → nat_lt (key x) (key v) ≡ b → IsIn k (map key (put_by key v xs)) ↔ ((k ≡ key v) ⊎ IsIn k (map key xs)) →
          IsIn k (map key (if a then v ∷ x ∷ xs else (if b then x ∷ put_by key v xs else x ∷ xs))) ↔ ((k ≡ key v) ⊎ ((k ≡ key x) ⊎ IsIn k (map key xs)))
      tested true e b f ih = (λ i. i, λ i. i)
      tested false e true f ih = (
        λ i. elim i [ inl s ↦ inr (inl s) | inr w ↦ elim (ih.0 w) [ inl s ↦ inl s | inr u ↦ inr (inr u) ] ],
        λ i. elim i [ inl s ↦ inr (ih.1 (inl s)) | inr w ↦ elim w [ inl s ↦ inl s | inr u ↦ inr (ih.1 (inr u)) ] ],
      )
      tested false e false f ih =
          let same : key v ≡ key x = grind (arith, nat_tests) in
          (λ i. inr i, λ i. elim i [ inl s ↦ inl (s ∙ same) | inr w ↦ w ])

map_id : (xs : List ℕ) → map (λ n. n) xs ≡ xs
map_id [] = refl
map_id (x ∷ xs) = ap (λ (r : List ℕ). x ∷ r) (map_id xs)

in_with_page : (page k : ℕ) (xs : List ℕ) → IsIn k (with_page page xs) ↔ ((k ≡ page) ⊎ IsIn k xs)
in_with_page page k xs =
    let both = in_put (λ (n : ℕ). n) page k xs in
    subst (λ (ys : List ℕ). IsIn k ys ↔ ((k ≡ page) ⊎ IsIn k xs)) (map_id (with_page page xs))
    (subst (λ (ys : List ℕ). IsIn k (map (λ n. n) (with_page page xs)) ↔ ((k ≡ page) ⊎ IsIn k ys)) (map_id xs) both)

in_with_pages : (k : ℕ) (more xs : List ℕ) → IsIn k (with_pages more xs) ↔ (IsIn k more ⊎ IsIn k xs)
in_with_pages k [] xs = (λ i. inr i, λ i. elim i [ inl n ↦ absurd n | inr w ↦ w ])
in_with_pages k (page ∷ more) xs =
    let rest = in_with_pages k more (with_page page xs) in
    let one = in_with_page page k xs in (
      λ i. elim (rest.0 i) [ inl m ↦ inl (inr m) | inr w ↦ elim (one.0 w) [ inl s ↦ inl (inl s) | inr u ↦ inr u ] ],
      λ i. elim i [ inl m ↦ elim m [ inl s ↦ rest.1 (inr (one.1 (inl s))) | inr u ↦ rest.1 (inl u) ] | inr w ↦ rest.1 (inr (one.1 (inr w))) ],
    )

-- ---- what is left or given back

some_of : (m : ℕ) → not (m == 0) ≡ true → 1 ≤ m
some_of zero e = absurd (cc)
some_of (suc m) e = omega arith

either : (a b : Bool) → (a || b) ≡ true → (a ≡ true) ⊎ (b ≡ true)
either true b e = inl refl
either false b e = inr e

kept_is : (f : FreePages) (page : ℕ) → is_kept f page ≡ true → IsFreeOrHeld f page
kept_is f page e = elim (either (is_among page f.free) (is_among page (held_pages f.held)) e) [
  | inl free ↦ inl (in_from_times page f.free (some_of (times page f.free) free))
  | inr held ↦ inr (in_from_times page (held_pages f.held) (some_of (times page (held_pages f.held)) held))
]

after_freed : (f : FreePages) (page p : ℕ) → IsFreeOrHeld (with_free f page) p ↔ ((p ≡ page) ⊎ IsFreeOrHeld f p)
after_freed f page p = tested (is_kept f page) refl
  where
    tested : (b : Bool) → is_kept f page ≡ b → IsFreeOrHeld (if b then f else record f { free = with_page page f.free; spare = f.spare - 1 }) p ↔ ((p ≡ page) ⊎ IsFreeOrHeld f p)
    tested true e = (λ i. inr i, λ i. elim i [ inl s ↦ subst (IsFreeOrHeld f) (sym s) (kept_is f page e) | inr w ↦ w ])
    tested false e =
        let one = in_with_page page p f.free in (
          λ i. elim i [ inl w ↦ elim (one.0 w) [ inl s ↦ inl s | inr u ↦ inr (inl u) ] | inr h ↦ inr (inr h) ],
          λ i. elim i [ inl s ↦ inl (one.1 (inl s)) | inr w ↦ elim w [ inl u ↦ inl (one.1 (inr u)) | inr h ↦ inr h ] ],
        )

after_held : (f : FreePages) (page generation p : ℕ) → IsFreeOrHeld (with_held f page generation) p ↔ ((p ≡ page) ⊎ IsFreeOrHeld f p)
after_held f page generation p = tested (is_kept f page) refl
  where
    tested : (b : Bool) → is_kept f page ≡ b →
        IsFreeOrHeld (if b then f else record f { held = put_by (λ h. h.page) (record { page = page; generation = generation }) f.held; spare = f.spare - 1 }) p ↔ ((p ≡ page) ⊎ IsFreeOrHeld f p)
    tested true e = (λ i. inr i, λ i. elim i [ inl s ↦ subst (IsFreeOrHeld f) (sym s) (kept_is f page e) | inr w ↦ w ])
    tested false e =
        let one = in_put (λ (h : Held). h.page) (record { page = page; generation = generation }) p f.held in (
          λ i. elim i [ inl u ↦ inr (inl u) | inr w ↦ elim (one.0 w) [ inl s ↦ inl s | inr h ↦ inr (inr h) ] ],
          λ i. elim i [ inl s ↦ inr (one.1 (inl s)) | inr w ↦ elim w [ inl u ↦ inl u | inr h ↦ inr (one.1 (inr h)) ] ],
        )

after_left : (f : FreePages) (page generation p : ℕ) → IsFreeOrHeld (with_left f page generation) p ↔ ((p ≡ page) ⊎ IsFreeOrHeld f p)
after_left f page generation p = tested (is_pinned_below generation f.pins)
  where
    tested : (b : Bool) → IsFreeOrHeld (if b then with_held f page generation else with_free f page) p ↔ ((p ≡ page) ⊎ IsFreeOrHeld f p)
    tested true = after_held f page generation p
    tested false = after_freed f page p

pub leaving_keeps : LeavingKeepsPages
leaving_keeps f page generation p = (after_freed f page p, after_left f page generation p)

-- ---- with other pins

pub in_pages : (p : ℕ) (held : List Held) → IsIn p (held_pages held) → (h : Held) × IsIn h held × (h.page ≡ p)
in_pages p [] i = absurd i
in_pages p (h ∷ held) i = elim i [
  | inl s ↦ (h, inl refl, sym s)
  | inr w ↦ let r = in_pages p held w in (r.0, inr r.1, r.2)
]

pub pages_in : (p : ℕ) (h : Held) (held : List Held) → IsIn h held → h.page ≡ p → IsIn p (held_pages held)
pages_in p h [] i s = absurd i
pages_in p h (g ∷ held) i s = elim i [ inl e ↦ inl (sym s ∙ ap (λ (x : Held). x.page) e) | inr w ↦ inr (pages_in p h held w s) ]

not_true : (b : Bool) → not b ≡ true → b ≡ false
not_true true e = absurd (cc)
not_true false e = refl

not_false : (b : Bool) → b ≡ false → not b ≡ true
not_false true e = absurd (cc)
not_false false e = refl

pub pins_keep : PinsKeepPages
pins_keep f pins p = ((all, back), (frees, freed_by))
  where
    frees : IsIn p (with_pages (released pins f.held) f.free) → IsIn p f.free ⊎ ((h : Held) × IsIn h f.held × (h.page ≡ p) × (is_pinned_below h.generation pins ≡ false))
    frees i = elim ((in_with_pages p (released pins f.held) f.free).0 i) [
      | inl r ↦
          let h = in_pages p (filter (λ h. not (is_pinned_below h.generation pins)) f.held) r in
          let q = in_filter (λ (h : Held). not (is_pinned_below h.generation pins)) h.0 f.held h.1 in
          inr (h.0, q.0, h.2, not_true (is_pinned_below h.0.generation pins) q.1)
      | inr w ↦ inl w
    ]

    freed_by : IsIn p f.free ⊎ ((h : Held) × IsIn h f.held × (h.page ≡ p) × (is_pinned_below h.generation pins ≡ false)) → IsIn p (with_pages (released pins f.held) f.free)
    freed_by i = (in_with_pages p (released pins f.held) f.free).1 (elim i [
      | inl w ↦ inr w
      | inr h ↦ inl (pages_in p h.0 (filter (λ h. not (is_pinned_below h.generation pins)) f.held)
          (filter_in (λ (h : Held). not (is_pinned_below h.generation pins)) h.0 f.held h.1 (not_false (is_pinned_below h.0.generation pins) h.3)) h.2)
    ])

    all : IsIn p (with_pages (released pins f.held) f.free) ⊎ IsIn p (held_pages (still_held pins f.held)) → IsIn p f.free ⊎ IsIn p (held_pages f.held)
    all i = elim i [
      | inl w ↦ elim (frees w) [ inl u ↦ inl u | inr h ↦ inr (pages_in p h.0 f.held h.1 h.2) ]
      | inr s ↦
          let h = in_pages p (still_held pins f.held) s in
          inr (pages_in p h.0 f.held (in_filter (λ (h : Held). is_pinned_below h.generation pins) h.0 f.held h.1).0 h.2)
    ]

    held_or_freed : (h : Held) → IsIn h f.held → h.page ≡ p → (b : Bool) → is_pinned_below h.generation pins ≡ b → IsIn p (with_pages (released pins f.held) f.free) ⊎ IsIn p (held_pages (still_held pins f.held))
    held_or_freed h i s true e = inr (pages_in p h (still_held pins f.held) (filter_in (λ (h : Held). is_pinned_below h.generation pins) h f.held i e) s)
    held_or_freed h i s false e = inl (freed_by (inr (h, i, s, e)))

    back : IsIn p f.free ⊎ IsIn p (held_pages f.held) → IsIn p (with_pages (released pins f.held) f.free) ⊎ IsIn p (held_pages (still_held pins f.held))
    back i = elim i [
      | inl w ↦ inl (freed_by (inl w))
      | inr q ↦ let h = in_pages p f.held q in held_or_freed h.0 h.1 h.2 (is_pinned_below h.0.generation pins) refl
    ]

-- ---- while a pin is below

module _ (v : Held) where
  -- what was put in is there, unless its page was
  put_in : (held : List Held) → (times v.page (held_pages held) == 0) ≡ true → IsIn v (put_by (λ h. h.page) v held)
  put_in [] none = inl refl
  put_in (h ∷ held) none = tested (nat_lt v.page h.page) refl (nat_lt h.page v.page) refl (put_in held)
    where
      tested : (a : Bool) → nat_lt v.page h.page ≡ a → (b : Bool) → nat_lt h.page v.page ≡ b → ((times v.page (held_pages held) == 0) ≡ true → IsIn v (put_by (λ h. h.page) v held)) →
          IsIn v (if a then v ∷ h ∷ held else (if b then h ∷ put_by (λ h. h.page) v held else h ∷ held))
      tested true e b f ih = inl refl
      tested false e true f ih =
          let z : times v.page (held_pages (h ∷ held)) ≡ 0 = grind (arith, nat_tests) in
          let r : times v.page (held_pages held) ≡ 0 = omega arith in
          inr (ih (ap (λ (m : ℕ). m == 0) r))
      tested false e false f ih =
          let same : (h.page == v.page) ≡ true = grind (arith, nat_tests) in
          let one : ◌≡◌ {A = ℕ} (if h.page == v.page then 1 else 0) 1 = ap (λ (b : Bool). if b then 1 else 0) same in
          let z : times v.page (held_pages (h ∷ held)) ≡ 0 = grind (arith, nat_tests) in
          absurd (omega arith)

  put_keeps : (h : Held) (held : List Held) → IsIn h held → IsIn h (put_by (λ h. h.page) v held)
  put_keeps h [] i = absurd i
  put_keeps h (g ∷ held) i = tested (nat_lt v.page g.page) (nat_lt g.page v.page) (put_keeps h held)
    where
      tested : (a b : Bool) → (IsIn h held → IsIn h (put_by (λ h. h.page) v held)) → IsIn h (if a then v ∷ g ∷ held else (if b then g ∷ put_by (λ h. h.page) v held else g ∷ held))
      tested true b ih = inr i
      tested false true ih = elim i [ inl s ↦ inl s | inr w ↦ inr (ih w) ]
      tested false false ih = i

none_kept : (f : FreePages) (page : ℕ) → is_kept f page ≡ false → (times page (held_pages f.held) == 0) ≡ true
none_kept f page e = second (is_among page f.free) (times page (held_pages f.held) == 0) e
  where
    second : (a b : Bool) → (a || not b) ≡ false → b ≡ true
    second true b e = absurd (cc)
    second false true e = refl
    second false false e = absurd (cc)

left_held : (f : FreePages) (page generation : ℕ) → is_pinned_below generation f.pins ≡ true →
    ((with_left f page generation).free ≡ f.free) × ((is_kept f page ≡ true) ⊎ IsIn (record { page = page; generation = generation }) (with_left f page generation).held)
left_held f page generation pinned = rw pinned (tested (is_kept f page) refl)
  where
    tested : (b : Bool) → is_kept f page ≡ b →
        ((if b then f else record f { held = put_by (λ h. h.page) (record { page = page; generation = generation }) f.held; spare = f.spare - 1 }).free ≡ f.free)
        × ((b ≡ true) ⊎ IsIn (record { page = page; generation = generation }) (if b then f else record f { held = put_by (λ h. h.page) (record { page = page; generation = generation }) f.held; spare = f.spare - 1 }).held)
    tested true e = (refl, inl refl)
    tested false e = (refl, inr (put_in (record { page = page; generation = generation }) f.held (none_kept f page e)))

held_stay : (f : FreePages) (page generation : ℕ) (h : Held) → IsIn h f.held → IsIn h (with_left f page generation).held
held_stay f page generation h i = tested (is_pinned_below generation f.pins) (is_kept f page)
  where
    tested : (a b : Bool) →
        IsIn h (if a then (if b then f else record f { held = put_by (λ h. h.page) (record { page = page; generation = generation }) f.held; spare = f.spare - 1 })
        else (if b then f else record f { free = with_page page f.free; spare = f.spare - 1 })).held
    tested true true = i
    tested true false = put_keeps (record { page = page; generation = generation }) h f.held i
    tested false true = i
    tested false false = i

held_apart : (f : FreePages) (page : ℕ) → IsKept f → IsIn page f.free → IsIn page (held_pages f.held) → ⊥
held_apart f page kept free held =
    let h = in_pages page f.held held in
    let none = all_in (λ (h : Held). times h.page f.free ≡ 0) f.held h.0 kept.apart h.1 in
    let some = times_from_in h.0.page f.free (subst (λ (p : ℕ). IsIn p f.free) (sym h.2) free) in
    absurd (omega arith)

pub while_pinned : HeldWhilePinned
while_pinned = record {
  left = left_held;
  stay = held_stay;
  pins = λ f pins h. (
    λ i. in_filter (λ (h : Held). is_pinned_below h.generation pins) h f.held i,
    λ both. filter_in (λ (h : Held). is_pinned_below h.generation pins) h f.held both.0 both.1,
  );
  apart = held_apart;
}
