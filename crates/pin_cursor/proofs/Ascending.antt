-- Lists in ascending order: there is one for what is in them.
use Rattle.std.proofs.Common.{◌≡◌, ℕ, ◌≤◌, Bool, true, false, cond, List, [], ◌∷◌, refl, sym, ap, inl, inr, arith, ◌∙◌, length, subst}
use Rattle.std.specs.Prelude.{if◌then◌else◌, IsPermutation}
use Rattle.std.specs.declared.cmp.Ordering.{Ordering}
use Rattle.std.specs.declared.cmp.Ordering.TheVariants.{Less, Equal, Greater}
use Rattle.std.specs.Cmp.{IsTotalOrder, IsStrictWeakOrder, tied_itself}
use Rattle.std.specs.List.{AllByRecursion}
use Rattle.std.specs.Ordering.{is_eq, is_lt, ordering_reverse}
use Rattle.std.proofs.lemmas.List.Sorted.{ranks_by, length_permutation, IsPermutation-cons, IsPermutation-refl, IsPermutation-swap, IsPermutation-trans}
use Rattle.metric_laws.specs.Lists.{IsIn}
use Rattle.metric_laws.proofs.Published.{all_in, all_each, all_weaker}
use Rattle.nearest_search.specs.Counts.{total}
use Rattle.nearest_search.specs.Least.{IsLeast}
use Rattle.nearest_search.proofs.Published.{in-permutation_back, total-permutation}
use Rattle.pin_cursor.specs.Lines.{IsAscending, put_in, line_of}

-- two at the front change places
two_turned : {X : Type 0} (x y : X) (xs : List X) → IsPermutation (x ∷ y ∷ xs) (y ∷ x ∷ xs)
two_turned x y xs = IsPermutation-swap (x ∷ y ∷ xs) (y ∷ x ∷ xs) 0 1 (omega arith) (omega arith) refl

module _ {X : Type 0} (order : X → X → Ordering) where
  pub put_in-moves : (x : X) (xs : List X) → IsPermutation (x ∷ xs) (put_in order x xs)
  put_in-moves x [] = IsPermutation-refl (x ∷ [])
  put_in-moves x (y ∷ ys) = cases (is_lt (order y x)) (put_in-moves x ys)
    where
      cases : (b : Bool) → IsPermutation (x ∷ ys) (put_in order x ys) → IsPermutation (x ∷ y ∷ ys) (cond b (y ∷ put_in order x ys) (x ∷ y ∷ ys))
      cases true deep =
          IsPermutation-trans (x ∷ y ∷ ys) (y ∷ x ∷ ys) (y ∷ put_in order x ys) (two_turned x y ys) (IsPermutation-cons y (x ∷ ys) (put_in order x ys) deep)
      cases false deep = IsPermutation-refl (x ∷ y ∷ ys)

  pub line_moves : (xs : List X) → IsPermutation xs (line_of order xs)
  line_moves [] = IsPermutation-refl []
  line_moves (x ∷ xs) =
      IsPermutation-trans (x ∷ xs) (x ∷ line_of order xs) (put_in order x (line_of order xs)) (IsPermutation-cons x xs (line_of order xs) (line_moves xs)) (put_in-moves x (line_of order xs))

  pub line_length : (xs : List X) → length (line_of order xs) ≡ length xs
  line_length xs = length_permutation xs (line_of order xs) (line_moves xs)

  -- what none of a list is less than stands first
  pub put_first : (x : X) (xs : List X) → AllByRecursion (λ y. is_lt (order y x) ≡ false) xs → put_in order x xs ≡ x ∷ xs
  put_first x [] first = refl
  put_first x (y ∷ ys) first = rw first.0 refl

  pub line_front : (x : X) (xs : List X) → ((y : X) → IsIn y xs → is_lt (order y x) ≡ false) → line_of order (x ∷ xs) ≡ x ∷ line_of order xs
  line_front x xs first =
      put_first x (line_of order xs) (all_each (λ y. is_lt (order y x) ≡ false) (line_of order xs) (λ y k. first y (in-permutation_back xs (line_of order xs) y (line_moves xs) k)))

  pub line_stays : (xs : List X) → IsAscending order xs → line_of order xs ≡ xs
  line_stays [] up = refl
  line_stays (x ∷ xs) up = ap (put_in order x) (line_stays xs up.1) ∙ put_first x xs up.0

  module _ (o : IsTotalOrder order) where
    weak : IsStrictWeakOrder (λ x y. is_lt (order x y))
    weak = ranks_by o (λ x. x)

    not_itself : (x : X) → is_lt (order x x) ≡ false
    not_itself x = ap is_lt (tied_itself o x)

    put_last : (y x : X) (xs : List X) → is_lt (order x y) ≡ false → AllByRecursion (λ z. is_lt (order z y) ≡ false) xs → AllByRecursion (λ z. is_lt (order z y) ≡ false) (put_in order x xs)
    put_last y x [] later all = (later, tt)
    put_last y x (z ∷ zs) later all = cases (is_lt (order z x)) (put_last y x zs later all.1)
      where
        cases : (b : Bool) → AllByRecursion (λ w. is_lt (order w y) ≡ false) (put_in order x zs) → AllByRecursion (λ w. is_lt (order w y) ≡ false) (cond b (z ∷ put_in order x zs) (x ∷ z ∷ zs))
        cases true deep = (all.0, deep)
        cases false deep = (later, all)

    pub put_in-ascends : (x : X) (xs : List X) → IsAscending order xs → IsAscending order (put_in order x xs)
    put_in-ascends x [] up = (tt, tt)
    put_in-ascends x (y ∷ ys) up = cases (is_lt (order y x)) refl (put_in-ascends x ys up.1)
      where
        cases : (b : Bool) → is_lt (order y x) ≡ b → IsAscending order (put_in order x ys) → IsAscending order (cond b (y ∷ put_in order x ys) (x ∷ y ∷ ys))
        cases true is deep = (put_last y x ys (weak.one_way y x is) up.0, deep)
        cases false is deep = (
          (is, all_weaker (λ z. is_lt (order z y) ≡ false) (λ z. is_lt (order z x) ≡ false) ys (λ z later. weak.chain z y x later is) up.0),
          up,
        )

    pub line_ascends : (xs : List X) → IsAscending order (line_of order xs)
    line_ascends [] = tt
    line_ascends (x ∷ xs) = put_in-ascends x (line_of order xs) (line_ascends xs)

    pub line_again : (xs : List X) → line_of order (line_of order xs) ≡ line_of order xs
    line_again xs = line_stays (line_of order xs) (line_ascends xs)

    pub least_first : (x : X) (xs : List X) → IsAscending order (x ∷ xs) → IsLeast order x (x ∷ xs)
    least_first x xs up = record {
      among = inl refl;
      least = λ y k. elim k [ inl e ↦ rw e (not_itself x) | inr w ↦ all_in (λ z. is_lt (order z x) ≡ false) xs y up.0 w ];
    }

    pub least_ascends : (x : X) (xs ys : List X) → IsAscending order xs → xs ≡ x ∷ ys → IsLeast order x xs
    least_ascends x xs ys up is = subst (IsLeast order x) (sym is) (least_first x ys (subst (IsAscending order) is up))

    module _ (ties_equal : (x y : X) → order x y ≡ Equal → x ≡ y) where
      neither : (r : Ordering) → is_lt r ≡ false → is_lt (ordering_reverse r) ≡ false → r ≡ Equal
      neither Less a b = absurd (cc)
      neither Equal a b = refl
      neither Greater a b = absurd (cc)

      pub same_least : (x y : X) → is_lt (order x y) ≡ false → is_lt (order y x) ≡ false → x ≡ y
      same_least x y a b = ties_equal x y (neither (order x y) a (ap is_lt (sym (o.antisymm y x)) ∙ b))

      -- ---- by counts

      -- 1 for what ties with x
      abbrev one_like : X → X → ℕ
      one_like x y = if is_eq (order x y) then 1 else 0

      member : (x : X) (ys : List X) → 1 ≤ total (one_like x) ys → IsIn x ys
      member x [] some = absurd (omega arith)
      member x (y ∷ ys) some = cases (is_eq (order x y)) refl (λ deep. member x ys deep)
        where
          tie : (r : Ordering) → is_eq r ≡ true → r ≡ Equal
          tie Less is = absurd (cc)
          tie Equal is = refl
          tie Greater is = absurd (cc)

          cases : (b : Bool) → is_eq (order x y) ≡ b → (1 ≤ total (one_like x) ys → IsIn x ys) → IsIn x (y ∷ ys)
          cases true is deep = inl (ties_equal x y (tie (order x y) is))
          cases false is deep = inr (deep (let z : one_like x y ≡ 0 = rw is refl in omega arith))

      own_one : (x : X) → one_like x x ≡ 1
      own_one x = rw (tied_itself o x) refl

      counted : (x : X) (xs ys : List X) → ((g : X → ℕ) → total g (x ∷ xs) ≡ total g ys) → IsIn x ys
      counted x xs ys same = member x ys (let s = same (one_like x) in let one = own_one x in omega arith)

      least_of : (x y : X) (ys : List X) → IsAscending order (y ∷ ys) → IsIn x (y ∷ ys) → is_lt (order x y) ≡ false
      least_of x y ys up k = (least_first y ys up).least x k

      pub one_order : (xs ys : List X) → IsAscending order xs → IsAscending order ys → ((g : X → ℕ) → total g xs ≡ total g ys) → xs ≡ ys
      one_order [] [] up vp same = refl
      one_order [] (y ∷ ys) up vp same = absurd (counted y ys [] (λ g. sym (same g)))
      one_order (x ∷ xs) [] up vp same = absurd (counted x xs [] same)
      one_order (x ∷ xs) (y ∷ ys) up vp same =
          let e : x ≡ y = same_least x y (least_of x y ys vp (counted x xs (y ∷ ys) same)) (least_of y x xs up (counted y ys (x ∷ xs) (λ g. sym (same g)))) in
          (λ i. e i ∷ one_order xs ys up.1 vp.1 (λ g. let s = same g in let f : g x ≡ g y = ap g e in omega arith) i)

      -- what is moved is the same line
      pub line_same : (xs ys : List X) → IsPermutation xs ys → line_of order xs ≡ line_of order ys
      line_same xs ys moved =
          one_order (line_of order xs) (line_of order ys) (line_ascends xs) (line_ascends ys)
          (λ g. sym (total-permutation g xs (line_of order xs) (line_moves xs)) ∙ total-permutation g xs ys moved ∙ total-permutation g ys (line_of order ys) (line_moves ys))
