-- Lists in ascending order are determined by their members.
use Rattle.std.proofs.Common.{◌≡◌, ◌⊎◌, Bool, true, false, cond, List, [], ◌∷◌, refl, sym, inl, inr, ◌∙◌}
use Rattle.std.specs.Prelude.{IsTrue, if◌then◌else◌, filter}
use Rattle.std.specs.List.{AllByRecursion}
use Rattle.metric_laws.specs.Lists.{IsIn}
use Rattle.metric_laws.proofs.Published.{in-filter}
use Rattle.scan_model.specs.Laws.{Ascends}
use Rattle.log_model.specs.InOrder.{put_once, in_order}

-- what the lemmas need of an order
pub record IsOrder (X : Type 0) (before : X → X → Bool) : Type 0 where
  pub trans : (a b c : X) → IsTrue (before a b) → IsTrue (before b c) → IsTrue (before a c)
  pub irreflexive : (a : X) → IsTrue (before a a) → ⊥
  pub total : (a b : X) → before a b ≡ false → before b a ≡ false → a ≡ b

module _ {X : Type 0} (before : X → X → Bool) (order : IsOrder X before) where
  abbrev pub Before : X → X → Type 0
  Before a b = IsTrue (before a b)

  abbrev pub IsRising : List X → Type 0
  IsRising xs = Ascends Before xs

  -- what the first of an ascending list says of the others
  pub before_all : (x : X) (xs : List X) → AllByRecursion (Before x) xs → (z : X) → IsIn z xs → Before x z
  before_all x [] all z within = absurd within
  before_all x (y ∷ ys) all z within = elim within [ inl e ↦ rw e all.0 | inr below ↦ before_all x ys all.1 z below ]

  pub all_before : (x : X) (xs : List X) → ((z : X) → IsIn z xs → Before x z) → AllByRecursion (Before x) xs
  all_before x [] h = tt
  all_before x (y ∷ ys) h = (h y (inl refl), all_before x ys (λ z k. h z (inr k)))

  -- what is put in is the value and the old ones, and no other
  pub in-put_once : (h : X) (xs : List X) (z : X) → IsIn z (put_once before h xs) → (z ≡ h) ⊎ IsIn z xs
  in-put_once h [] z k = k
  in-put_once h (x ∷ xs) z k = cases (before h x) (before x h) (put_once before h xs) (in-put_once h xs z) k
    where
      cases : (b c : Bool) (rest : List X) → (IsIn z rest → (z ≡ h) ⊎ IsIn z xs) → IsIn z (if b then h ∷ x ∷ xs else (if c then x ∷ rest else x ∷ xs)) → (z ≡ h) ⊎ IsIn z (x ∷ xs)
      cases true c rest ih k = k
      cases false true rest ih k = elim k [ inl e ↦ inr (inl e) | inr w ↦ elim (ih w) [ inl e ↦ inl e | inr u ↦ inr (inr u) ] ]
      cases false false rest ih k = inr k

  -- the old ones stay
  pub put_once-keeps : (h : X) (xs : List X) (z : X) → IsIn z xs → IsIn z (put_once before h xs)
  put_once-keeps h [] z k = absurd k
  put_once-keeps h (x ∷ xs) z k = cases (before h x) (before x h) (put_once before h xs) (put_once-keeps h xs z) k
    where
      cases : (b c : Bool) (rest : List X) → (IsIn z xs → IsIn z rest) → IsIn z (x ∷ xs) → IsIn z (if b then h ∷ x ∷ xs else (if c then x ∷ rest else x ∷ xs))
      cases true c rest ih k = inr k
      cases false true rest ih k = elim k [ inl e ↦ inl e | inr w ↦ inr (ih w) ]
      cases false false rest ih k = k

  -- the value is there
  pub put_once-has : (h : X) (xs : List X) → IsIn h (put_once before h xs)
  put_once-has h [] = inl refl
  put_once-has h (x ∷ xs) = cases (before h x) (before x h) (put_once before h xs) (put_once-has h xs) refl refl
    where
      cases : (b c : Bool) (rest : List X) → IsIn h rest → before h x ≡ b → before x h ≡ c → IsIn h (if b then h ∷ x ∷ xs else (if c then x ∷ rest else x ∷ xs))
      cases true c rest ih e f = inl refl
      cases false true rest ih e f = inr ih
      cases false false rest ih e f = inl (order.total h x e f)

  -- the order stays
  pub rising-put_once : (h : X) (xs : List X) → IsRising xs → IsRising (put_once before h xs)
  rising-put_once h [] up = (tt, tt)
  rising-put_once h (x ∷ xs) up =
      cases (before h x) (before x h) (put_once before h xs) (rising-put_once h xs up.1) (in-put_once h xs) refl refl
    where
      cases : (b c : Bool) (rest : List X) → IsRising rest → ((z : X) → IsIn z rest → (z ≡ h) ⊎ IsIn z xs) →
          before h x ≡ b → before x h ≡ c → IsRising (if b then h ∷ x ∷ xs else (if c then x ∷ rest else x ∷ xs))
      cases true c rest ih from e f = ((e, all_before h xs (λ z k. order.trans h x z e (before_all x xs up.0 z k))), up)
      cases false true rest ih from e f =
          (all_before x rest (λ z k. elim (from z k) [ inl same ↦ rw same f | inr old ↦ before_all x xs up.0 z old ]), ih)
      cases false false rest ih from e f = up

  pub rising-in_order : (hs : List X) → IsRising (in_order before hs)
  rising-in_order [] = tt
  rising-in_order (h ∷ hs) = rising-put_once h (in_order before hs) (rising-in_order hs)

  pub in-in_order : (hs : List X) (z : X) → IsIn z (in_order before hs) → IsIn z hs
  in-in_order [] z k = k
  in-in_order (h ∷ hs) z k = elim (in-put_once h (in_order before hs) z k) [ inl e ↦ inl e | inr w ↦ inr (in-in_order hs z w) ]

  pub in_order-keeps : (hs : List X) (z : X) → IsIn z hs → IsIn z (in_order before hs)
  in_order-keeps [] z k = k
  in_order-keeps (h ∷ hs) z k =
      elim k [ inl e ↦ rw e (put_once-has h (in_order before hs)) | inr w ↦ put_once-keeps h (in_order before hs) z (in_order-keeps hs z w) ]

  -- two ascending lists with the same members are one
  pub rising_same : (xs ys : List X) → IsRising xs → IsRising ys → ((z : X) → IsIn z xs → IsIn z ys) → ((z : X) → IsIn z ys → IsIn z xs) → xs ≡ ys
  rising_same [] [] up vp to from = refl
  rising_same [] (y ∷ ys) up vp to from = absurd (from y (inl refl))
  rising_same (x ∷ xs) [] up vp to from = absurd (to x (inl refl))
  rising_same (x ∷ xs) (y ∷ ys) up vp to from =
      let head : x ≡ y = heads (to x (inl refl)) (from y (inl refl)) in
      let tails : xs ≡ ys = rising_same xs ys up.1 vp.1 (onward head) (back head) in
      λ i. head i ∷ tails i
    where
      heads : IsIn x (y ∷ ys) → IsIn y (x ∷ xs) → x ≡ y
      heads k m = elim k [
        | inl e ↦ e
        | inr w ↦ elim m [
          | inl e ↦ sym e
          | inr u ↦
              absurd (order.irreflexive x (order.trans x y x (before_all x xs up.0 y u) (before_all y ys vp.0 x w)))
        ]
      ]

      onward : x ≡ y → (z : X) → IsIn z xs → IsIn z ys
      onward e z k = elim (to z (inr k)) [
        | inr w ↦ w
        | inl f ↦
            absurd (order.irreflexive x (let g : z ≡ x = f ∙ sym e in rw g at (before_all x xs up.0 z k)))
      ]

      back : x ≡ y → (z : X) → IsIn z ys → IsIn z xs
      back e z k = elim (from z (inr k)) [
        | inr w ↦ w
        | inl f ↦
            absurd (order.irreflexive y (let g : z ≡ y = f ∙ e in rw g at (before_all y ys vp.0 z k)))
      ]

  pub rising-filter : (p : X → Bool) (xs : List X) → IsRising xs → IsRising (filter p xs)
  rising-filter p [] up = tt
  rising-filter p (x ∷ xs) up = cases (p x) (rising-filter p xs up.1)
    where
      cases : (b : Bool) → IsRising (filter p xs) → IsRising (cond b (x ∷ filter p xs) (filter p xs))
      cases true ih = (all_before x (filter p xs) (λ z k. before_all x xs up.0 z (in-filter p xs z k).0), ih)
      cases false ih = ih
