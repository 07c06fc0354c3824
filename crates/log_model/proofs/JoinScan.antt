-- On two sound trees a sound join log names the double loop's answers, and there is one least log.
use Rattle.std.proofs.Common.{◌≡◌, ℕ, suc, ◌+◌, ◌<◌, List, [], ◌∷◌, refl, sym, inl, inr, arith, ◌∙◌, subst, min, None, get_or}
use Rattle.std.specs.Prelude.{IsTrue, map}
use Rattle.std.specs.List.{AllByRecursion}
use Rattle.metric_laws.specs.Space.{Space, IsSpace, bound}
use Rattle.metric_laws.specs.Lists.{IsIn}
use Rattle.metric_laws.proofs.Published.{all_in, in-map, map-in}
use Rattle.scan_model.specs.declared.hit.Pair.{Pair}
use Rattle.scan_model.specs.Join.{join_pairs}
use Rattle.scan_model.specs.Laws.{IsJoinAnswer}
use Rattle.scan_model.proofs.Published.{join_answers}
use Rattle.tree_shape.specs.declared.live.Live.{Live}
use Rattle.tree_shape.specs.declared.entry.LeafEntry.{LeafEntry}
use Rattle.tree_shape.specs.Fill.{root_least}
use Rattle.tree_shape.specs.Tree.{Nodes, IsSoundTree, objects, points_from, points_by_id}
use Rattle.tree_shape.proofs.Published.{objects_fit}
use Rattle.log_model.specs.InOrder.{in_order, pair_before}
use Rattle.log_model.specs.SoundJoin.{join_at, root_pair}
use Rattle.log_model.specs.Laws.{SoundJoinLogsAreComplete}
use Rattle.log_model.proofs.Order.{rising_same, rising-in_order, in-in_order, in_order-keeps}
use Rattle.log_model.proofs.Orders.{pair_order, rising_pairs}
use Rattle.log_model.proofs.ByScan.{AreIds, id_below, at_id, length-points}
use Rattle.log_model.proofs.JoinNames.{Thing, thing_of, things_at, IsPairIn, IsSoundNeed, join_names}

abbrev AllFit : Space → List LeafEntry → Type 0
AllFit s es = AllByRecursion (λ o. IsTrue (s.is_point o.point)) es

-- an object of a sound tree by its id
thing_point : (s : Space) (es : List LeafEntry) (count : ℕ) → AreIds es count → AllFit s es → (x : Thing) → IsIn x (map thing_of es) →
    (x.id < count) × (get_or (points_from es 0 count) x.id [] ≡ x.point) × IsTrue (s.is_point x.point)
thing_point s es count ids fit x i =
    let from = in-map thing_of es x i in
    let there = id_below es count ids from.0 from.1 in
    subst (λ (y : Thing). (y.id < count) × (get_or (points_from es 0 count) y.id [] ≡ y.point) × IsTrue (s.is_point y.point)) (sym from.2)
    (there.0, there.1, all_in (λ o. IsTrue (s.is_point o.point)) es from.0 fit from.1)

point_thing : (s : Space) (es : List LeafEntry) (count : ℕ) → AreIds es count → AllFit s es → (id : ℕ) → id < count →
    IsIn (record { id = id; point = get_or (points_from es 0 count) id [] }) (map thing_of es) × IsTrue (s.is_point (get_or (points_from es 0 count) id []))
point_thing s es count ids fit id low =
    let here = at_id es count ids id low in
    let same : ◌≡◌ {A = Thing} (thing_of here.0) (record { id = id; point = get_or (points_from es 0 count) id [] }) = (λ i. record { id = here.2 i; point = sym here.3 i }) in (
      subst (λ (y : Thing). IsIn y (map thing_of es)) same (map-in thing_of es here.0 here.1),
      subst (λ (p : List ℕ). IsTrue (s.is_point p)) (sym here.3) (all_in (λ o. IsTrue (s.is_point o.point)) es here.0 fit here.1),
    )

module _ (s : Space) (axioms : IsSpace s) (ds es : List LeafEntry) (b c r : ℕ) (ids : AreIds ds b) (jds : AreIds es c) (fit : AllFit s ds) (git : AllFit s es) where
  answer_from_pair : (z : Pair) → IsPairIn s (min r bound) (map thing_of ds) (map thing_of es) z → IsJoinAnswer s (points_from ds 0 b) (points_from es 0 c) r z
  answer_from_pair z p =
      let x = thing_point s ds b ids fit p.x p.x_in in
      let y = thing_point s es c jds git p.y p.y_in in
      let answer : IsJoinAnswer s (points_from ds 0 b) (points_from es 0 c) r (record { left = p.x.id; right = p.y.id; dist = s.dist p.x.point p.y.point }) = record {
        left_object = rw (length-points ds 0 b) x.0;
        right_object = rw (length-points es 0 c) y.0;
        dist = (λ i. s.dist (sym x.1 i) (sym y.1 i));
        within = (let n = p.near in omega arith);
      } in
      rw p.is answer

  pair_from_answer : (z : Pair) → IsJoinAnswer s (points_from ds 0 b) (points_from es 0 c) r z → IsPairIn s (min r bound) (map thing_of ds) (map thing_of es) z
  pair_from_answer z answer =
      let low : z.left < b = (let o = answer.left_object in rw (length-points ds 0 b) at o) in
      let high : z.right < c = (let o = answer.right_object in rw (length-points es 0 c) at o) in
      let x = point_thing s ds b ids fit z.left low in
      let y = point_thing s es c jds git z.right high in
      let top = axioms.bounded (get_or (points_from ds 0 b) z.left []) (get_or (points_from es 0 c) z.right []) x.1 y.1 in
      let dist : z.dist ≡ s.dist (get_or (points_from ds 0 b) z.left []) (get_or (points_from es 0 c) z.right []) = answer.dist in
      let within = answer.within in
      record {
        x = record { id = z.left; point = get_or (points_from ds 0 b) z.left [] };
        y = record { id = z.right; point = get_or (points_from es 0 c) z.right [] };
        x_in = x.0;
        y_in = y.0;
        near = omega arith;
        is = (λ i. record { left = z.left; right = z.right; dist = dist i });
      }

-- the pair of roots
module _ (s : Space) (left right : Nodes) (l r : Live) (lsound : IsSoundTree s left l) (rsound : IsSoundTree s right r) where
  pub roots_sound : IsSoundNeed s left right (root_pair l r)
  roots_sound = record {
    left_sound = record { height = l.height; least = root_least l.height; rank_is = (omega arith); sound = lsound.parts; is_point = tt; covers = tt };
    right_sound = record { height = r.height; least = root_least r.height; rank_is = (omega arith); sound = rsound.parts; is_point = tt; covers = tt };
    apart_is = refl;
  }

pub join_complete : SoundJoinLogsAreComplete
join_complete s left right l r log axioms lsound rsound wise =
    wise.answers_are
    ∙ rising_same pair_before pair_order (in_order pair_before wise.hits) (join_pairs s (points_by_id left l) (points_by_id right r) log.r)
    (rising-in_order pair_before pair_order wise.hits)
    (rising_pairs (join_pairs s (points_by_id left l) (points_by_id right r) log.r) (join_answers s (points_by_id left l) (points_by_id right r) log.r).0)
    (λ z k. ((join_answers s (points_by_id left l) (points_by_id right r) log.r).1 z).1
    (answer_from_pair s axioms (objects left l) (objects right r) l.count r.count log.r lsound.ids rsound.ids fit git z (named z (in-in_order pair_before pair_order wise.hits z k))))
    (λ z k. in_order-keeps pair_before pair_order wise.hits z
    (names z (pair_from_answer s axioms (objects left l) (objects right r) l.count r.count log.r lsound.ids rsound.ids fit git z
    (((join_answers s (points_by_id left l) (points_by_id right r) log.r).1 z).0 k))))
  where
    fit : AllFit s (objects left l)
    fit = objects_fit s left l.height (root_least l.height) None l.root lsound.parts

    git : AllFit s (objects right r)
    git = objects_fit s right r.height (root_least r.height) None r.root rsound.parts

    one_more : (h : ℕ) → h + 1 ≡ suc h
    one_more h = omega arith

    same : (z : Pair) → IsPairIn s (min log.r bound) (things_at left (l.height + 1) l.root) (things_at right (r.height + 1) r.root) z
        ≡ IsPairIn s (min log.r bound) (map thing_of (objects left l)) (map thing_of (objects right r)) z
    same z = λ i. IsPairIn s (min log.r bound) (things_at left (one_more l.height i) l.root) (things_at right (one_more r.height i) r.root) z

    named : (z : Pair) → IsIn z wise.hits → IsPairIn s (min log.r bound) (map thing_of (objects left l)) (map thing_of (objects right r)) z
    named z k =
        elim ((join_names (join_at s log.r) axioms left right log.records (root_pair l r ∷ []) wise.hits
        ((roots_sound s left right l r lsound rsound, refl), tt) wise.walk z).0 k) [
          | inl p ↦ subst (λ (T : Type 0). T) (same z) p
          | inr w ↦ absurd w
        ]

    names : (z : Pair) → IsPairIn s (min log.r bound) (map thing_of (objects left l)) (map thing_of (objects right r)) z → IsIn z wise.hits
    names z p =
        (join_names (join_at s log.r) axioms left right log.records (root_pair l r ∷ []) wise.hits
        ((roots_sound s left right l r lsound rsound, refl), tt) wise.walk z).1 (inl (subst (λ (T : Type 0). T) (sym (same z)) p))
