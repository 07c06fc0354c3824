-- On a sound tree a query has exactly one least log.
use Rattle.std.proofs.Common.{◌≡◌, ℕ, zero, suc, List, [], ◌∷◌, ◌++◌, refl, sym, ap, subst, ◌∙◌, Option, Some, None}
use Rattle.std.specs.Prelude.{IsTrue, map}
use Rattle.std.specs.List.{AllByRecursion}
use Rattle.std.proofs.lemmas.List.{append-nil}
use Rattle.metric_laws.specs.Space.{Space, IsSpace}
use Rattle.metric_laws.proofs.Published.{all_weaker}
use Rattle.scan_model.specs.declared.hit.Hit.{Hit}
use Rattle.scan_model.specs.declared.query.Query.{Query}
use Rattle.tree_shape.specs.declared.live.Live.{Live}
use Rattle.tree_shape.specs.declared.entry.InnerEntry.{InnerEntry}
use Rattle.tree_shape.specs.declared.entry.Node.{Node}
use Rattle.tree_shape.specs.declared.entry.Node.TheVariants.{Leaf, Inner}
use Rattle.tree_shape.specs.Fill.{least_for, root_least}
use Rattle.tree_shape.specs.Tree.{Nodes, IsSoundAt, IsSoundTree, objects, points_by_id}
use Rattle.tree_shape.proofs.Published.{SoundSubtree, objects_fit}
use Rattle.log_model.specs.declared.logs.Log.{Log}
use Rattle.log_model.specs.declared.marks.Mark.{Mark}
use Rattle.log_model.specs.declared.marks.Mark.TheVariants.{Skip, Far, Near}
use Rattle.log_model.specs.declared.marks.Record.{Record}
use Rattle.log_model.specs.declared.marks.Need.{Need}
use Rattle.log_model.specs.Grammar.{query_point}
use Rattle.log_model.specs.Walk.{Search, WalksBy, AreAllowed, AreLeast, least_marks, near_ones, need_of, needs_of, hits_of, root_need}
use Rattle.log_model.specs.Sound.{IsLeastLog, search_for, selected}
use Rattle.log_model.specs.Laws.{SoundLogsAreComplete, LeastLogsAreSound, LeastLogIsOne, scan_answers}
use Rattle.log_model.proofs.Walk.{walk_names, answers_in}
use Rattle.log_model.proofs.ByScan.{complete, scan_selected}
use Rattle.log_model.proofs.Least.{walks_wider, least_allowed, least_same}

-- what a walk from the root of a sound tree names
pub root_names : (s : Space) → IsSpace s → (nodes : Nodes) (live : Live) → IsSoundTree s nodes live → (f : Search) → f.space ≡ s → IsTrue (f.space.is_point f.point) →
    (records : List Record) (hits : List Hit) → WalksBy AreAllowed f nodes (root_need live.root ∷ []) records hits → hits ≡ answers_in f (objects nodes live)
root_names s axioms nodes live sound f same is_point records hits walk =
    walk_names f (rw same axioms) is_point nodes records (record { height = live.height; least = root_least live.height; above = None; page = live.root } ∷ []) hits
    ((rw same sound.parts, tt), tt) walk
    ∙ ap (answers_in f) (append-nil (objects nodes live))

pub sound_complete : SoundLogsAreComplete
sound_complete s nodes live log axioms sound wise =
    complete s axioms (objects nodes live) live.count sound.ids (objects_fit s nodes live.height (root_least live.height) None live.root sound.parts)
    log.query log.answers wise.hits wise.point_fits
    (root_names s axioms nodes live sound (search_for s log.query log.answers) refl wise.point_fits log.records wise.hits wise.walk) wise.answers_are

pub least_sound : LeastLogsAreSound
least_sound s nodes live query log least =
    let by = least.1 in
    record {
      generation_is = by.generation_is;
      root_is = by.root_is;
      point_fits = by.point_fits;
      hits = by.hits;
      walk = walks_wider AreLeast AreAllowed (search_for s log.query log.answers) nodes (least_allowed (search_for s log.query log.answers)) (root_need live.root ∷ []) log.records by.hits by.walk;
      answers_are = by.answers_are;
    }

-- a walk with the least marks ends on a sound tree

module _ (f : Search) (nodes : Nodes) where
  -- these needs have a walk
  pub record IsWalked (ns : List Need) : Type 0 where
    pub records : List Record
    pub hits : List Hit
    pub walk : WalksBy AreLeast f nodes ns records hits

  step : (n : Need) (node : Node) → nodes n.page ≡ Some node → (ns : List Need) → IsWalked (needs_of f node (least_marks f n.above node) ++ ns) → IsWalked (n ∷ ns)
  step n node is ns rest = record {
    records = record { page = n.page; marks = least_marks f n.above node } ∷ rest.records;
    hits = hits_of f node (least_marks f n.above node) ++ rest.hits;
    walk = (node, is, refl, refl, (rest.hits, rest.walk, refl));
  }

  -- each of these pages begins a walk, whatever follows
  abbrev Begins : ℕ → Type 0
  Begins page = (above : Option ℕ) (ns : List Need) → IsWalked ns → IsWalked (record { page = page; above = above } ∷ ns)

  all_begin : (es : List InnerEntry) (marks : List Mark) → AllByRecursion (λ e. Begins e.child) es → (ns : List Need) → IsWalked ns → IsWalked (map (need_of f) (near_ones es marks) ++ ns)
  all_begin [] marks each ns rest = rest
  all_begin (e ∷ es) [] each ns rest = rest
  all_begin (e ∷ es) (Skip ∷ marks) each ns rest = all_begin es marks each.1 ns rest
  all_begin (e ∷ es) (Far ∷ marks) each ns rest = all_begin es marks each.1 ns rest
  all_begin (e ∷ es) (Near ∷ marks) each ns rest = each.0 (need_of f e).above (map (need_of f) (near_ones es marks) ++ ns) (all_begin es marks each.1 ns rest)

  pub sound_begins : (h least : ℕ) (up : Option (List ℕ)) (page : ℕ) → IsSoundAt f.space nodes h least up page → Begins page
  sound_begins zero least up page sound above ns rest = step (record { page = page; above = above }) (Leaf sound.0) sound.1 ns rest
  sound_begins (suc h) least up page sound above ns rest =
      step (record { page = page; above = above }) (Inner (suc h) sound.0) sound.1 ns
      (all_begin sound.0 (least_marks f above (Inner (suc h) sound.0))
      (all_weaker (SoundSubtree f.space nodes h up) (λ e. Begins e.child) sound.0 (λ e k. sound_begins h (least_for f.space.dimension) (Some e.point) e.child k.1) sound.3) ns rest)

module _ (s : Space) (nodes : Nodes) (live : Live) (query : Query) (axioms : IsSpace s) (sound : IsSoundTree s nodes live) (is_point : IsTrue (s.is_point (query_point query))) where
  abbrev pub answers : List Hit
  answers = scan_answers s query (points_by_id nodes live)

  abbrev pub f : Search
  f = search_for s query answers

  walked : IsWalked f nodes (root_need live.root ∷ [])
  walked = sound_begins f nodes live.height (root_least live.height) None live.root sound.parts None [] (record { records = []; hits = []; walk = refl })

  named : walked.hits ≡ answers_in f (objects nodes live)
  named = root_names s axioms nodes live sound f refl is_point walked.records walked.hits
      (walks_wider AreLeast AreAllowed f nodes (least_allowed f) (root_need live.root ∷ []) walked.records walked.hits walked.walk)

  pub exists : (log : Log) × IsLeastLog s nodes live query log
  exists = (
    record { generation = live.generation; root = live.root; query = query; answers = answers; records = walked.records },
    (
      refl,
      record {
        generation_is = refl;
        root_is = refl;
        point_fits = is_point;
        hits = walked.hits;
        walk = walked.walk;
        answers_are =
            scan_selected s axioms (objects nodes live) live.count sound.ids (objects_fit s nodes live.height (root_least live.height) None live.root sound.parts) query is_point
            ∙ ap (selected query) (sym named);
      },
    ),
  )

  pub one : (a b : Log) → IsLeastLog s nodes live query a → IsLeastLog s nodes live query b → a ≡ b
  one a b left right =
      let query_same : a.query ≡ b.query = left.0 ∙ sym right.0 in
      let first = sound_complete s nodes live a axioms sound (least_sound s nodes live query a left) in
      let second = sound_complete s nodes live b axioms sound (least_sound s nodes live query b right) in
      let answers_same : a.answers ≡ b.answers = first ∙ ap (λ (u : Query). scan_answers s u (points_by_id nodes live)) query_same ∙ sym second in
      let search_same : search_for s a.query a.answers ≡ search_for s b.query b.answers = (λ i. search_for s (query_same i) (answers_same i)) in
      let records_same = (least_same (search_for s b.query b.answers) nodes (root_need live.root ∷ []) a.records b.records left.1.hits right.1.hits
      (subst (λ (g : Search). WalksBy AreLeast g nodes (root_need live.root ∷ []) a.records left.1.hits) search_same left.1.walk) right.1.walk).0 in
      let generation_same : a.generation ≡ b.generation = left.1.generation_is ∙ sym right.1.generation_is in
      let root_same : a.root ≡ b.root = left.1.root_is ∙ sym right.1.root_is in
      λ i. record { generation = generation_same i; root = root_same i; query = query_same i; answers = answers_same i; records = records_same i }

pub least_one : LeastLogIsOne
least_one s nodes live query axioms sound is_point = (exists s nodes live query axioms sound is_point, one s nodes live query axioms sound is_point)
