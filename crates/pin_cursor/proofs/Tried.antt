-- What a line's heap holds, and lines that are tried.
use Rattle.std.proofs.Common.{◌≡◌, get_or, ◌+◌, ◌<◌, true, false, List, [], ◌∷◌, ◌++◌, Option, Some, None, Result, Ok, Err, refl, sym, ap, inl, inr, arith, ◌∙◌, length, drop, subst}
use Rattle.std.specs.Prelude.{map, IfNone, IfOk, IfSome, OnSome, IsPermutation}
use Rattle.std.specs.BinaryHeap.{IsUpperBound}
use Rattle.std.specs.Cmp.{IsTotalOrder, IsStrictWeakOrder}
use Rattle.std.specs.Ordering.{is_lt}
use Rattle.std.specs.declared.cmp.Ordering.{Ordering}
use Rattle.std.specs.declared.cmp.Ordering.TheVariants.{Equal}
use Rattle.std.specs.declared.cmp.Reverse.{Reverse}
use Rattle.std.proofs.lemmas.List.{append-nil}
use Rattle.std.proofs.lemmas.List.Sorted.{ranks_by, IsPermutation-append, IsPermutation-append_right, IsPermutation-map, IsPermutation-middle, IsPermutation-refl, IsPermutation-sym, IsPermutation-trans}
use Rattle.metric_laws.specs.Lists.{IsIn}
use Rattle.metric_laws.proofs.Published.{all_in, in-append, length_map}
use Rattle.log_model.proofs.Published.{map-append}
use Rattle.nearest_search.specs.Least.{IsLeast}
use Rattle.nearest_search.proofs.Published.{in-permutation_back}
use Rattle.pin_cursor.specs.Lines.{IsAscending, comes_first, line_of}
use Rattle.pin_cursor.proofs.Ascending.{least_ascends, line_ascends, line_front, line_length, line_moves, line_same, line_stays}

-- what a heap holds
abbrev pub held : {X : Type 0} → List (Reverse X) → List X
held rs = map (λ r. r.0) rs

-- a list with a first gives it
pub taken_is : {X : Type 0} (r : Option X) (x : X) (xs ys rest : List X) → xs ≡ x ∷ ys → IfNone r (xs ≡ []) → IfSome r (λ y. xs ≡ y ∷ rest) → xs ≡ x ∷ rest
taken_is None x xs ys rest is none some = absurd (cc)
taken_is (Some y) x xs ys rest is none some = cc

pub taken_one : {X : Type 0} (r : Option X) (P : Type 0) (x : X) (xs ys : List X) → xs ≡ x ∷ ys → IfNone r (xs ≡ []) → OnSome r P → P
taken_one None P x xs ys is none some = absurd (cc)
taken_one (Some y) P x xs ys is none some = some

-- what is taken, where there is memory
pub ok_taken : {X E : Type 0} (r : Result (Option X) E) {P Q : Option X → Type 0} → IfOk r P → ((taken : Option X) → P taken → Q taken) → IfOk r Q
ok_taken (Ok taken) holds then = then taken holds
ok_taken (Err e) holds then = tt

pub taken_moves : {X : Type 0} (xs rest : List X) (taken : Option X) → IfSome taken (λ x. xs ≡ x ∷ rest) → IfSome taken (λ x. IsPermutation xs (x ∷ rest))
taken_moves xs rest None some = tt
taken_moves xs rest (Some x) some = subst (IsPermutation xs) some (IsPermutation-refl xs)

module _ {X : Type 0} (order : X → X → Ordering) where
  none_before : (top : Reverse X) (rs : List (Reverse X)) → IsUpperBound (λ x y. order y.0 x.0) top rs → (y : X) → IsIn y (held rs) → is_lt (order y top.0) ≡ false
  none_before top [] up y k = absurd k
  none_before top (r ∷ rs) up y k = elim k [ inl e ↦ rw e up.0 | inr w ↦ none_before top rs up.1 y w ]

  pub held_length : (rs : List (Reverse X)) → length (line_of order (held rs)) ≡ length rs
  held_length rs = line_length order (held rs) ∙ length_map (λ (r : Reverse X). r.0) rs

  -- one was added to a line
  pub one_longer : (x : X) (xs more : List X) → more ≡ line_of order (x ∷ xs) → length more ≡ length xs + 1
  one_longer x xs more is = let l = line_length order (x ∷ xs) in let e : length more ≡ length (line_of order (x ∷ xs)) = ap length is in omega arith

  -- a heap's top stands first
  pub top_first : (top : Reverse X) (rs : List (Reverse X)) → IsUpperBound (λ x y. order y.0 x.0) top rs → 0 < length rs → get_or rs 0 top ≡ top →
      line_of order (held rs) ≡ top.0 ∷ drop 1 (line_of order (held rs))
  top_first top [] up some is = absurd (omega arith)
  top_first top (r ∷ rs) up some is =
      let front : line_of order (held (r ∷ rs)) ≡ r.0 ∷ line_of order (held rs) =
      line_front order r.0 (held rs) (λ y k. subst (λ (t : Reverse X). is_lt (order y t.0) ≡ false) (sym is) (none_before top rs up.1 y k)) in
      front ∙ ap (λ (t : Reverse X). t.0 ∷ line_of order (held rs)) is ∙ ap (λ l. top.0 ∷ drop 1 l) (sym front)

  module _ (o : IsTotalOrder order) (ties_equal : (x y : X) → order x y ≡ Equal → x ≡ y) where
    -- the top was taken
    pub line_popped : (top : Reverse X) (rs rest : List (Reverse X)) → IsPermutation rs (top ∷ rest) → IsUpperBound (λ x y. order y.0 x.0) top rs → line_of order (held rs) ≡ top.0 ∷ line_of order (held rest)
    line_popped top rs rest popped up =
        let moved = IsPermutation-map (λ (r : Reverse X). r.0) rs (top ∷ rest) popped in
        line_same order o ties_equal (held rs) (top.0 ∷ held rest) moved
        ∙ line_front order top.0 (held rest) (λ y k. none_before top rs up y (in-permutation_back (held rs) (top.0 ∷ held rest) y moved (inr k)))

    -- one was added
    pub line_pushed : (x : Reverse X) (rs more : List (Reverse X)) (xs : List X) → IsPermutation (x ∷ rs) more → line_of order (held rs) ≡ xs → line_of order (held more) ≡ line_of order (x.0 ∷ xs)
    line_pushed x rs more xs pushed is =
        line_same order o ties_equal (held more) (x.0 ∷ xs)
        (IsPermutation-trans (held more) (x.0 ∷ held rs) (x.0 ∷ xs) (IsPermutation-sym (x.0 ∷ held rs) (held more) (IsPermutation-map (λ (r : Reverse X). r.0) (x ∷ rs) more pushed))
        (IsPermutation-append_right (x.0 ∷ []) (held rs) xs (subst (IsPermutation (held rs)) is (line_moves order (held rs)))))

    -- all of another heap were added
    pub line_joined : (rs us both : List (Reverse X)) (xs ys : List X) → IsPermutation (rs ++ us) both → line_of order (held rs) ≡ xs → line_of order (held us) ≡ ys → line_of order (held both) ≡ line_of order (xs ++ ys)
    line_joined rs us both xs ys joined is are =
        line_same order o ties_equal (held both) (xs ++ ys)
        (IsPermutation-trans (held both) (held rs ++ held us) (xs ++ ys)
        (IsPermutation-sym (held rs ++ held us) (held both) (subst (λ l. IsPermutation l (held both)) (map-append (λ (r : Reverse X). r.0) rs us) (IsPermutation-map (λ (r : Reverse X). r.0) (rs ++ us) both joined)))
        (IsPermutation-append (held rs) xs (held us) ys (subst (IsPermutation (held rs)) is (line_moves order (held rs))) (subst (IsPermutation (held us)) are (line_moves order (held us)))))

    -- ---- lines that are tried

    -- nothing was taken or added
    pub tried_begun : (xs none : List X) → IsAscending order xs → none ≡ [] → line_of order (xs ++ none) ≡ xs
    tried_begun xs none up is = ap (λ l. line_of order (xs ++ l)) is ∙ ap (line_of order) (append-nil xs) ∙ line_stays order xs up

    -- one of what was left was taken: the line as it was handed over is the same
    pub handed_same : (x : X) (xs rest taken more : List X) → xs ≡ x ∷ rest → more ≡ line_of order (x ∷ taken) → line_of order (rest ++ more) ≡ line_of order (xs ++ taken)
    handed_same x xs rest taken more is are =
        line_same order o ties_equal (rest ++ more) (xs ++ taken)
        (IsPermutation-sym (xs ++ taken) (rest ++ more)
        (subst (λ l. IsPermutation (l ++ taken) (rest ++ more)) (sym is)
        (IsPermutation-trans (x ∷ (rest ++ taken)) (rest ++ x ∷ taken) (rest ++ more) (IsPermutation-sym (rest ++ x ∷ taken) (x ∷ (rest ++ taken)) (IsPermutation-middle rest x taken))
        (IsPermutation-append_right rest (x ∷ taken) more (subst (IsPermutation (x ∷ taken)) (sym are) (line_moves order (x ∷ taken)))))))

    -- one was added to what waits
    pub waits_added : (x : X) (xs added more : List X) → more ≡ line_of order (x ∷ added) → line_of order (xs ++ more) ≡ line_of order (x ∷ line_of order (xs ++ added))
    waits_added x xs added more are =
        line_same order o ties_equal (xs ++ more) (x ∷ line_of order (xs ++ added))
        (IsPermutation-trans (xs ++ more) (xs ++ x ∷ added) (x ∷ line_of order (xs ++ added))
        (IsPermutation-append_right xs more (x ∷ added) (IsPermutation-sym (x ∷ added) more (subst (IsPermutation (x ∷ added)) (sym are) (line_moves order (x ∷ added)))))
        (IsPermutation-trans (xs ++ x ∷ added) (x ∷ (xs ++ added)) (x ∷ line_of order (xs ++ added)) (IsPermutation-middle xs x added)
        (IsPermutation-append_right (x ∷ []) (xs ++ added) (line_of order (xs ++ added)) (line_moves order (xs ++ added)))))

    weak : IsStrictWeakOrder (λ x y. is_lt (order x y))
    weak = ranks_by o (λ x. x)

    -- what is less than none of either comes first of both
    front_of_both : (x : X) (xs ys : List X) → ((y : X) → IsIn y xs → is_lt (order y x) ≡ false) → ((y : X) → IsIn y ys → is_lt (order y x) ≡ false) → line_of order (x ∷ (xs ++ ys)) ≡ x ∷ line_of order (xs ++ ys)
    front_of_both x xs ys one other = line_front order x (xs ++ ys) (λ y k. elim (in-append xs ys y k) [ inl here ↦ one y here | inr there ↦ other y there ])

    -- none of an ascending list is less than what its first is not less than
    all_later : (x y : X) (ys : List X) → IsAscending order (y ∷ ys) → is_lt (order y x) ≡ false → (z : X) → IsIn z (y ∷ ys) → is_lt (order z x) ≡ false
    all_later x y ys up later z k =
        elim k [
          | inl e ↦ rw e later
          | inr w ↦ weak.chain z y x (all_in (λ v. is_lt (order v y) ≡ false) ys z up.0 w) later
        ]

    -- the first of what was left is taken
    pub taken_left : (x : X) (xs rest added : List X) → IsAscending order xs → IsAscending order added → comes_first order added xs ≡ false → xs ≡ x ∷ rest → line_of order (xs ++ added) ≡ x ∷ line_of order (rest ++ added)
    taken_left x xs rest added up vp later is =
        subst (λ l. line_of order (l ++ added) ≡ x ∷ line_of order (rest ++ added)) (sym is)
        (front_of_both x rest added (λ y k. all_in (λ v. is_lt (order v x) ≡ false) rest y (subst (IsAscending order) is up).0 k) (others added vp (subst (λ l. comes_first order added l ≡ false) is later)))
      where
        others : (added : List X) → IsAscending order added → comes_first order added (x ∷ rest) ≡ false → (y : X) → IsIn y added → is_lt (order y x) ≡ false
        others [] vp later y k = absurd k
        others (a ∷ bs) vp later y k = all_later x a bs vp later y k

    -- the first of what was added is taken
    pub taken_added : (x : X) (xs added rest : List X) → IsAscending order xs → IsAscending order added → comes_first order added xs ≡ true → added ≡ x ∷ rest → line_of order (xs ++ added) ≡ x ∷ line_of order (xs ++ rest)
    taken_added x xs added rest up vp before is =
        subst (λ l. line_of order (xs ++ l) ≡ x ∷ line_of order (xs ++ rest)) (sym is)
        (line_same order o ties_equal (xs ++ x ∷ rest) (x ∷ (xs ++ rest)) (IsPermutation-middle xs x rest)
        ∙ front_of_both x xs rest (others xs up (subst (λ l. comes_first order l xs ≡ true) is before)) (λ y k. all_in (λ v. is_lt (order v x) ≡ false) rest y (subst (IsAscending order) is vp).0 k))
      where
        others : (xs : List X) → IsAscending order xs → comes_first order (x ∷ rest) xs ≡ true → (y : X) → IsIn y xs → is_lt (order y x) ≡ false
        others [] up before y k = absurd k
        others (z ∷ zs) up before y k = all_later x z zs up (weak.one_way x z before) y k

    -- nothing waits
    pub none_waits : (xs added : List X) → comes_first order added xs ≡ false → xs ≡ [] → line_of order (xs ++ added) ≡ []
    none_waits xs added later is = subst (λ l. line_of order (l ++ added) ≡ []) (sym is) (empty added (subst (λ l. comes_first order added l ≡ false) is later))
      where
        empty : (added : List X) → comes_first order added [] ≡ false → line_of order added ≡ []
        empty [] later = refl
        empty (a ∷ bs) later = absurd (cc)

    -- what is taken first is the least
    pub least_taken : (x : X) (xs rest : List X) → line_of order xs ≡ x ∷ rest → IsLeast order x (line_of order xs)
    least_taken x xs rest is = least_ascends order o x (line_of order xs) rest (line_ascends order o xs) is
