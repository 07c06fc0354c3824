-- The objects of a sound tree.
use Rattle.std.proofs.Common.{◌≡◌, ℕ, zero, suc, List, [], ◌∷◌, ◌++◌, refl, sym, ap, ◌∙◌, subst, Option, Some, inl, inr}
use Rattle.std.specs.Prelude.{IsTrue}
use Rattle.std.specs.List.{AllByRecursion, flat_map}
use Rattle.metric_laws.specs.Space.{Space}
use Rattle.metric_laws.specs.Lists.{IsIn}
use Rattle.metric_laws.proofs.Published.{all_weaker, all_flat_map, in-append_left, in-append_right}
use Rattle.tree_shape.specs.declared.entry.LeafEntry.{LeafEntry}
use Rattle.tree_shape.specs.declared.entry.InnerEntry.{InnerEntry}
use Rattle.tree_shape.specs.Fill.{least_for}
use Rattle.tree_shape.specs.Tree.{Nodes, IsSoundAt, IsSoundObject, IsSoundEntry, objects_at, pages_at, leaf_entries, inner_entries, Covers}

abbrev pub Fits : Space → LeafEntry → Type 0
Fits s o = IsTrue (s.is_point o.point)

-- an entry of an inner node, in a sound tree
abbrev pub SoundSubtree : Space → Nodes → ℕ → Option (List ℕ) → InnerEntry → Type 0
SoundSubtree s nodes h above e = IsSoundEntry s above (objects_at nodes h e.child) e × IsSoundAt s nodes h (least_for s.dimension) (Some e.point) e.child

pub objects_fit : (s : Space) (nodes : Nodes) (h least : ℕ) (above : Option (List ℕ)) (page : ℕ) → IsSoundAt s nodes h least above page →
    AllByRecursion (Fits s) (objects_at nodes h page)
objects_fit s nodes zero least above page sound =
    rw sound.1 (all_weaker (IsSoundObject s above) (Fits s) sound.0 (λ o k. k.point_fits) sound.3)
objects_fit s nodes (suc h) least above page sound =
    rw sound.1 (all_flat_map (Fits s) (λ e. objects_at nodes h e.child) sound.0
    (all_weaker (SoundSubtree s nodes h above) (λ e. AllByRecursion (Fits s) (objects_at nodes h e.child)) sound.0
    (λ e k. objects_fit s nodes h (least_for s.dimension) (Some e.point) e.child k.1) sound.3))

-- two maps that agree on a list's elements
pub flat_map_agree : {X Y : Type 0} (f g : X → List Y) (xs : List X) → ((x : X) → IsIn x xs → f x ≡ g x) → flat_map f xs ≡ flat_map g xs
flat_map_agree f g [] h = refl
flat_map_agree f g (x ∷ xs) h = ap (λ r. r ++ flat_map f xs) (h x (inl refl)) ∙ ap (λ r. g x ++ r) (flat_map_agree f g xs (λ y k. h y (inr k)))

pub in-flat_map : {X Y : Type 0} (f : X → List Y) (xs : List X) (x : X) (y : Y) → IsIn x xs → IsIn y (f x) → IsIn y (flat_map f xs)
in-flat_map f [] x y k l = absurd k
in-flat_map f (z ∷ xs) x y k l =
    elim k [
      | inl e ↦ in-append_left (f z) (flat_map f xs) y (subst (λ (v : _). IsIn y (f v)) e l)
      | inr w ↦ in-append_right (f z) (flat_map f xs) y (in-flat_map f xs x y w l)
    ]

pub all_within : {X : Type 0} (P Q : X → Type 0) (xs : List X) → ((x : X) → IsIn x xs → P x → Q x) → AllByRecursion P xs → AllByRecursion Q xs
all_within P Q [] h all = tt
all_within P Q (x ∷ xs) h all = (h x (inl refl) all.0, all_within P Q xs (λ y k. h y (inr k)) all.1)

-- both files have the same nodes in these pages
abbrev pub Agree : Nodes → Nodes → List ℕ → Type 0
Agree old new pages = (p : ℕ) → IsIn p pages → new p ≡ old p

module _ (old new : Nodes) where
  -- the pages of a child are pages of the node
  pub child_agrees : (h page : ℕ) → Agree old new (pages_at old (suc h) page) → (e : InnerEntry) → IsIn e (inner_entries (old page)) → Agree old new (pages_at old h e.child)
  child_agrees h page agree e k p l = agree p (inr (in-flat_map (λ e. pages_at old h e.child) (inner_entries (old page)) e p k l))

  pub objects_stay : (h page : ℕ) → Agree old new (pages_at old h page) → objects_at new h page ≡ objects_at old h page
  objects_stay zero page agree = ap leaf_entries (agree page (inl refl))
  objects_stay (suc h) page agree =
      ap (λ o. flat_map (λ e. objects_at new h e.child) (inner_entries o)) (agree page (inl refl))
      ∙ flat_map_agree (λ e. objects_at new h e.child) (λ e. objects_at old h e.child) (inner_entries (old page)) (λ e k. objects_stay h e.child (child_agrees h page agree e k))

  pub same_pages : (h page : ℕ) → Agree old new (pages_at old h page) → pages_at new h page ≡ pages_at old h page
  same_pages zero page agree = refl
  same_pages (suc h) page agree =
      ap (λ o. page ∷ flat_map (λ e. pages_at new h e.child) (inner_entries o)) (agree page (inl refl))
      ∙ ap (λ r. page ∷ r) (flat_map_agree (λ e. pages_at new h e.child) (λ e. pages_at old h e.child) (inner_entries (old page)) (λ e k. same_pages h e.child (child_agrees h page agree e k)))

  pub still_sound : (s : Space) (h page : ℕ) → Agree old new (pages_at old h page) → (least : ℕ) (above : Option (List ℕ)) → IsSoundAt s old h least above page → IsSoundAt s new h least above page
  still_sound s zero page agree least above sound = (sound.0, agree page (inl refl) ∙ sound.1, sound.2, sound.3)
  still_sound s (suc h) page agree least above sound = (
    sound.0,
    agree page (inl refl) ∙ sound.1,
    sound.2,
    all_within (SoundSubtree s old h above) (SoundSubtree s new h above) sound.0
        (λ e k w. (
          record {
            point_fits = w.0.point_fits;
            parent_is = w.0.parent_is;
            covers = subst (Covers s e) (sym (objects_stay h e.child (agrees e k))) w.0.covers;
          },
          still_sound s h e.child (agrees e k) (least_for s.dimension) (Some e.point) w.1,
        )) sound.3,
  )
    where
      agrees : (e : InnerEntry) → IsIn e sound.0 → Agree old new (pages_at old h e.child)
      agrees e k = child_agrees h page agree e (subst (λ (o : _). IsIn e (inner_entries o)) (sym sound.1) k)
