-- Pins, and the held pages that they hold no longer.
use Rattle.std.proofs.Common.{◌≡◌, ◌≢◌, ℕ, zero, suc, ◌+◌, ◌<◌, ◌||◌, Bool, true, false, cond, List, [], ◌∷◌, ◌++◌, length, get_or, Option, Some, None, refl, sym, ap, subst, ◌∙◌, arith, append_assoc, rules}
use Rattle.std.specs.Prelude.{◌==◌, nat_lt, not, filter, remove, min, IsTrue, if◌then◌else◌}
use Rattle.std.specs.List.{AllByRecursion}
use Rattle.std.specs.Option.{option_to_list}
use Rattle.std.proofs.lemmas.Bool.Decides.{nat_tests}
use Rattle.std.proofs.lemmas.List.{append-nil, map-append}
use Rattle.std.proofs.lemmas.List.Elements.{filter-append, filter_agree}
use Rattle.std.proofs.lemmas.List.Folds.{list_any-append}
use Rattle.metric_laws.proofs.Published.{all_weaker, all_filter}
use Rattle.tree_shape.specs.Tree.{times}
use Rattle.page_store.specs.Numbers.{Ascends}
use Rattle.free_pages.specs.declared.held.Held.{Held}
use Rattle.free_pages.specs.Keeping.{FreePages, IsKept, held_pages, is_kept, is_among, is_pinned_below, put_by, with_page, with_pages, with_pins, without_pin, released, still_held}
use Rattle.free_pages.specs.Stored.{is_below, held_below, freed_below, IsReleasing}
use Rattle.free_pages.proofs.Ascending.{ascends_weaker, ascends_filter, ascends_put, ascends_with_page, ascends_with_pages, parted, times-with_page, times-with_pages}

-- ---- pins

pub below_lesser : (a b generation : ℕ) → nat_lt (min b a) generation ≡ (nat_lt b generation || nat_lt a generation)
below_lesser a b generation = grind (arith, nat_tests)

pub without_at : (i g : ℕ) (pins : List ℕ) → ((k : ℕ) → k < i → get_or pins k 0 ≢ g) → i < length pins → get_or pins i 0 ≡ g → without_pin g pins ≡ remove pins i
without_at i g [] before within is = absurd (omega arith)
without_at zero g (pin ∷ pins) before within is = let e : (pin == g) ≡ true = grind (arith, nat_tests) in rw e refl
without_at (suc i) g (pin ∷ pins) before within is =
    let other = before 0 (omega arith) in
    let e : (pin == g) ≡ false = grind (arith, nat_tests) in
    rw e (ap (λ (r : List ℕ). pin ∷ r) (without_at i g pins (λ k lt. before (suc k) (omega arith)) (omega arith) is))

pub without_none : (g : ℕ) (pins : List ℕ) → ((k : ℕ) → k < length pins → get_or pins k 0 ≢ g) → without_pin g pins ≡ pins
without_none g [] none = refl
without_none g (pin ∷ pins) none =
    let other = none 0 (omega arith) in
    let e : (pin == g) ≡ false = grind (arith, nat_tests) in
    rw e (ap (λ (r : List ℕ). pin ∷ r) (without_none g pins (λ k lt. none (suc k) (omega arith))))

-- ---- one held page after another

pub releasing_none : (least : Option ℕ) (free : List ℕ) (held : List Held) → IsReleasing least free held free held (length held)
releasing_none least free held = record { done = []; rest = held; whole = refl; queue = sym (append-nil held); released = sym (append-nil free); count = refl }

no_rest : {X : Type 0} (xs : List X) → length xs ≡ 0 → xs ≡ []
no_rest [] e = refl
no_rest (x ∷ xs) e = absurd (omega arith)

pub releasing_all : (least : Option ℕ) (old_free : List ℕ) (old_held : List Held) (free : List ℕ) (held : List Held) → IsReleasing least old_free old_held free held 0 →
    (free ≡ old_free ++ freed_below least old_held) × (held ≡ held_below least old_held)
releasing_all least old_free old_held free held way =
    let none = no_rest way.rest way.count in
    let all : way.done ≡ old_held = sym (way.whole ∙ ap (λ (r : List Held). way.done ++ r) none ∙ append-nil way.done) in (
      way.released ∙ ap (λ (d : List Held). old_free ++ freed_below least d) all,
      way.queue ∙ ap (λ (r : List Held). r ++ held_below least way.done) none ∙ ap (held_below least) all,
    )

-- the first of a queue whose front has `left` more after it
first_rest : (rest back : List Held) (first : Held) (queue : List Held) (left : ℕ) → length rest ≡ left + 1 → first ∷ queue ≡ rest ++ back → (more : List Held) × (rest ≡ first ∷ more) × (queue ≡ more ++ back) × (length more ≡ left)
first_rest [] back first queue left count is = absurd (omega arith)
first_rest (r ∷ rest) back first queue left count is = (rest, (let e : r ∷ rest ≡ first ∷ rest = (cc) in e), (cc), omega arith)

module _ (least : Option ℕ) (old_free : List ℕ) (old_held : List Held) (free : List ℕ) (first : Held) (queue : List Held) (left : ℕ) (way : IsReleasing least old_free old_held free (first ∷ queue) (left + 1)) where
  abbrev parts : (more : List Held) × (way.rest ≡ first ∷ more) × (queue ≡ more ++ held_below least way.done) × (length more ≡ left)
  parts = first_rest way.rest (held_below least way.done) first queue left way.count way.queue

  whole : old_held ≡ (way.done ++ first ∷ []) ++ parts.0
  whole = way.whole ∙ ap (λ (r : List Held). way.done ++ r) parts.1 ∙ sym (append_assoc way.done (first ∷ []) parts.0)

  kept_more : is_below least first.generation ≡ true → held_below least (way.done ++ first ∷ []) ≡ held_below least way.done ++ first ∷ []
  kept_more below = filter-append (λ h. is_below least h.generation) way.done (first ∷ []) ∙ ap (λ (b : Bool). held_below least way.done ++ cond b (first ∷ []) []) below

  pub releasing_back : is_below least first.generation ≡ true → IsReleasing least old_free old_held free (queue ++ first ∷ []) left
  releasing_back below = record {
    done = way.done ++ first ∷ [];
    rest = parts.0;
    whole = whole;
    queue = ap (λ (q : List Held). q ++ first ∷ []) parts.2 ∙ append_assoc parts.0 (held_below least way.done) (first ∷ []) ∙ ap (λ (q : List Held). parts.0 ++ q) (sym (kept_more below));
    released = way.released ∙ ap (λ (r : List ℕ). old_free ++ r) (sym (same below));
    count = parts.3;
  }
    where
      same : is_below least first.generation ≡ true → freed_below least (way.done ++ first ∷ []) ≡ freed_below least way.done
      same below = ap held_pages (filter-append (λ h. not (is_below least h.generation)) way.done (first ∷ []) ∙ ap (λ (b : Bool). filter (λ h. not (is_below least h.generation)) way.done ++ cond (not b) (first ∷ []) []) below
          ∙ append-nil (filter (λ h. not (is_below least h.generation)) way.done))

  pub releasing_free : is_below least first.generation ≡ false → IsReleasing least old_free old_held (free ++ first.page ∷ []) queue left
  releasing_free above = record {
    done = way.done ++ first ∷ [];
    rest = parts.0;
    whole = whole;
    queue = parts.2 ∙ ap (λ (q : List Held). parts.0 ++ q) (sym same);
    released = ap (λ (xs : List ℕ). xs ++ first.page ∷ []) way.released ∙ append_assoc old_free (freed_below least way.done) (first.page ∷ []) ∙ ap (λ (r : List ℕ). old_free ++ r) (sym more);
    count = parts.3;
  }
    where
      same : held_below least (way.done ++ first ∷ []) ≡ held_below least way.done
      same = filter-append (λ h. is_below least h.generation) way.done (first ∷ []) ∙ ap (λ (b : Bool). held_below least way.done ++ cond b (first ∷ []) []) above ∙ append-nil (held_below least way.done)

      more : freed_below least (way.done ++ first ∷ []) ≡ freed_below least way.done ++ first.page ∷ []
      more = ap held_pages (filter-append (λ h. not (is_below least h.generation)) way.done (first ∷ []) ∙ ap (λ (b : Bool). filter (λ h. not (is_below least h.generation)) way.done ++ cond (not b) (first ∷ []) []) above)
          ∙ map-append (λ (h : Held). h.page) (filter (λ h. not (is_below least h.generation)) way.done) (first ∷ [])

-- ---- what stays kept

abbrev Apart : List ℕ → List Held → Type 0
Apart free held = AllByRecursion (λ h. times h.page free ≡ 0) held

both : {X : Type 0} (P Q R : X → Type 0) (xs : List X) → ((x : X) → P x → Q x → R x) → AllByRecursion P xs → AllByRecursion Q xs → AllByRecursion R xs
both P Q R [] f p q = tt
both P Q R (x ∷ xs) f p q = (f x p.0 q.0, both P Q R xs f p.1 q.1)

all_passing : {X : Type 0} (p : X → Bool) (xs : List X) → AllByRecursion (λ x. IsTrue (p x)) (filter p xs)
all_passing p [] = tt
all_passing p (x ∷ xs) = pass (p x) refl (all_passing p xs)
  where
    pass : (b : Bool) → p x ≡ b → AllByRecursion (λ x. IsTrue (p x)) (filter p xs) → AllByRecursion (λ x. IsTrue (p x)) (cond b (x ∷ filter p xs) (filter p xs))
    pass true e rest = ((let t : IsTrue (p x) = search rules in t), rest)
    pass false e rest = rest

-- a page that isn't held is none of the held ones'
not_held : (page : ℕ) (held : List Held) → times page (held_pages held) ≡ 0 → AllByRecursion (λ h. page ≢ h.page) held
not_held page [] none = tt
not_held page (h ∷ held) none = (differs, not_held page held (omega arith))
  where
    differs : page ≢ h.page
    differs same = let e : (h.page == page) ≡ true = grind (arith, nat_tests) in let z : ◌≡◌ {A = ℕ} (if h.page == page then 1 else 0) 1 = ap (λ (b : Bool). if b then 1 else 0) e in absurd (omega arith)

none_of : (m : ℕ) → not (m == 0) ≡ false → m ≡ 0
none_of m e = grind (arith, nat_tests)

or_none : (a b : Bool) → (a || b) ≡ false → (a ≡ false) × (b ≡ false)
or_none true b e = absurd (cc)
or_none false b e = (refl, e)

pub not_kept : (f : FreePages) (page : ℕ) → is_kept f page ≡ false → (times page f.free ≡ 0) × (times page (held_pages f.held) ≡ 0)
not_kept f page e = let p = or_none (is_among page f.free) (is_among page (held_pages f.held)) e in (none_of (times page f.free) p.0, none_of (times page (held_pages f.held)) p.1)

pub kept_take : (f : FreePages) (r : Option ℕ) (rest : List ℕ) → f.free ≡ option_to_list r ++ rest → IsKept f → IsKept (record f { free = rest })
kept_take f None rest is kept = record {
  free_ascend = subst (Ascends 0) is kept.free_ascend;
  held_ascend = kept.held_ascend;
  apart = subst (λ (xs : List ℕ). Apart xs f.held) is kept.apart;
  pinned = kept.pinned;
}
kept_take f (Some page) rest is kept =
    let up : Ascends 0 (page ∷ rest) = subst (Ascends 0) is kept.free_ascend in
    let apart : Apart (page ∷ rest) f.held = subst (λ (xs : List ℕ). Apart xs f.held) is kept.apart in
    record {
      free_ascend = ascends_weaker 0 (page + 1) rest (omega arith) up.1;
      held_ascend = kept.held_ascend;
      apart = all_weaker (λ (h : Held). times h.page (page ∷ rest) ≡ 0) (λ (h : Held). times h.page rest ≡ 0) f.held (λ h none. omega arith) apart;
      pinned = kept.pinned;
    }

pub kept_free : (f : FreePages) (page spare newest : ℕ) → is_kept f page ≡ false → IsKept f → IsKept (record f { free = with_page page f.free; spare = spare; newest = newest })
kept_free f page spare newest new kept = record {
  free_ascend = ascends_with_page page f.free kept.free_ascend;
  held_ascend = kept.held_ascend;
  apart = both (λ (h : Held). page ≢ h.page) (λ (h : Held). times h.page f.free ≡ 0) (λ (h : Held). times h.page (with_page page f.free) ≡ 0) f.held
      (λ h other none. times-with_page h.page page f.free other ∙ none) (not_held page f.held (not_kept f page new).1) kept.apart;
  pinned = kept.pinned;
}

pub kept_pin : (f : FreePages) (generation : ℕ) → IsKept f → IsKept (record f { pins = f.pins ++ generation ∷ [] })
kept_pin f generation kept = record {
  free_ascend = kept.free_ascend;
  held_ascend = kept.held_ascend;
  apart = kept.apart;
  pinned = all_weaker (λ (h : Held). IsTrue (is_pinned_below h.generation f.pins)) (λ (h : Held). IsTrue (is_pinned_below h.generation (f.pins ++ generation ∷ []))) f.held (λ h pinned. more h.generation pinned) kept.pinned;
}
  where
    more : (g : ℕ) → IsTrue (is_pinned_below g f.pins) → IsTrue (is_pinned_below g (f.pins ++ generation ∷ []))
    more g pinned = let e = list_any-append (λ pin. nat_lt pin g) f.pins (generation ∷ []) in
        subst IsTrue (sym e) (left (is_pinned_below g f.pins) (is_pinned_below g (generation ∷ [])) pinned)
      where
        left : (a b : Bool) → IsTrue a → IsTrue (a || b)
        left true b t = t
        left false b t = search rules

-- all pass but one that was put in, and that passes
all_put : (P : Held → Type 0) (v : Held) (held : List Held) → P v → AllByRecursion P held → AllByRecursion P (put_by (λ h. h.page) v held)
all_put P v [] p all = (p, tt)
all_put P v (h ∷ held) p all = tested (nat_lt v.page h.page) (nat_lt h.page v.page) (all_put P v held p all.1)
  where
    tested : (a b : Bool) → AllByRecursion P (put_by (λ h. h.page) v held) → AllByRecursion P (if a then v ∷ h ∷ held else (if b then h ∷ put_by (λ h. h.page) v held else h ∷ held))
    tested true b rest = (p, all)
    tested false true rest = (all.0, rest)
    tested false false rest = all

pub kept_hold : (f : FreePages) (page generation spare newest : ℕ) → is_kept f page ≡ false → is_pinned_below generation f.pins ≡ true → IsKept f →
    IsKept (record f { held = put_by (λ h. h.page) (record { page = page; generation = generation }) f.held; spare = spare; newest = newest })
kept_hold f page generation spare newest new pinned kept =
    let v : Held = record { page = page; generation = generation } in
    record {
      free_ascend = kept.free_ascend;
      held_ascend = ascends_put (λ (h : Held). h.page) 0 v f.held (omega arith) kept.held_ascend;
      apart = all_put (λ (h : Held). times h.page f.free ≡ 0) v f.held (not_kept f page new).0 kept.apart;
      pinned = all_put (λ (h : Held). IsTrue (is_pinned_below h.generation f.pins)) v f.held (let t : IsTrue (is_pinned_below generation f.pins) = search rules in t) kept.pinned;
    }

pub kept_pins : (f : FreePages) (pins : List ℕ) → IsKept f → IsKept (with_pins f pins)
kept_pins f pins kept =
    let p = λ (h : Held). is_pinned_below h.generation pins in
    record {
      free_ascend = ascends_with_pages (released pins f.held) f.free kept.free_ascend;
      held_ascend = ascends_filter (λ (h : Held). h.page) p 0 f.held kept.held_ascend;
      apart = both (λ (h : Held). times h.page (released pins f.held) ≡ 0) (λ (h : Held). times h.page f.free ≡ 0) (λ (h : Held). times h.page (with_pages (released pins f.held) f.free) ≡ 0) (still_held pins f.held)
          (λ h none free. times-with_pages h.page (released pins f.held) f.free none ∙ free) (parted (λ (h : Held). h.page) p 0 f.held kept.held_ascend) (all_filter (λ (h : Held). times h.page f.free ≡ 0) p f.held kept.apart);
      pinned = all_passing p f.held;
    }

-- ---- by the least pin

pub still_held_is : (least : Option ℕ) (pins : List ℕ) (held : List Held) → ((g : ℕ) → is_below least g ≡ is_pinned_below g pins) → held_below least held ≡ still_held pins held
still_held_is least pins held same = filter_agree (λ (h : Held). is_below least h.generation) (λ (h : Held). is_pinned_below h.generation pins) (λ h. same h.generation) held

pub released_is : (least : Option ℕ) (pins : List ℕ) (held : List Held) → ((g : ℕ) → is_below least g ≡ is_pinned_below g pins) → freed_below least held ≡ released pins held
released_is least pins held same = ap held_pages (filter_agree (λ (h : Held). not (is_below least h.generation)) (λ (h : Held). not (is_pinned_below h.generation pins)) (λ h. ap not (same h.generation)) held)
