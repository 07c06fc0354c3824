-- What a whole walk finds, and why it may fail on a sound tree.
use Rattle.std.proofs.Common.{◌≡◌, ℕ, ◌≤◌, ◌^◌, List, [], ◌∷◌, sym, ap, ◌∙◌, Some, None, Err, arith, length, subst, min}
use Rattle.std.specs.Prelude.{IsTrue}
use Rattle.std.proofs.lemmas.List.{length-map}
use Rattle.metric_laws.specs.Space.{Space, IsSpace, bound}
use Rattle.scan_model.specs.declared.hit.Hit.{Hit}
use Rattle.scan_model.specs.declared.query.Query.{Query}
use Rattle.scan_model.specs.declared.query.Query.TheVariants.{Range}
use Rattle.tree_shape.specs.declared.live.Live.{Live}
use Rattle.tree_shape.specs.Tree.{Nodes, IsSoundTree, points_by_id}
use Rattle.page_store.specs.declared.pages.PageFault.{PageFault}
use Rattle.page_store.specs.declared.pages.PageFault.TheVariants.{Disk, Bad, Outside, Memory, Repeats, Level}
use Rattle.page_store.specs.Reading.{nodes_of, node_or_none}
use Rattle.page_store.specs.Shelf.{Shelf, IsPassing}
use Rattle.log_model.specs.declared.logs.Found.{Found}
use Rattle.log_model.specs.declared.marks.Record.{Record}
use Rattle.log_model.specs.Grammar.{IsValidQuery}
use Rattle.log_model.specs.declared.tagged.TaggedHit.{TaggedHit}
use Rattle.log_model.specs.Walk.{Search, AreLeast, WalksBy, search_at, root_need}
use Rattle.log_model.specs.Met.{hits_among}
use Rattle.log_model.specs.Sound.{IsLeastLog, search_for, selected}
use Rattle.log_model.specs.Laws.{scan_answers}
use Rattle.log_model.proofs.Published.{valid_log, sound_complete, least_sound, reached_inside, walks_whole}
use Rattle.range_search.specs.Searched.{IsUnderWay, IsFound, Needs, HasWalkCause}

-- a log of the least walk is the least log of a range
pub range_found : (s : Space) → IsSpace s → (live : Live) (q : List ℕ) (r : ℕ) → IsTrue (s.is_point q) → live.pages ≤ 2 ^ 24 → (old new : Shelf) (u v : ℕ) (records : List Record) (tagged : List TaggedHit) →
    IsUnderWay (search_at s q (min r bound)) old new u v live.root records tagged [] → length records ≤ live.pages → (found : Found) →
    found.log.generation ≡ live.generation → found.log.root ≡ live.root → found.log.query ≡ Range q r → found.log.records ≡ records → found.log.answers ≡ selected (Range q r) (hits_among tagged) → found.hits ≡ found.log.answers →
    IsFound s live (Range q r) old new u v found
range_found s axioms live q r is_point few old new u v records tagged way fewer found generation root query are answers same =
    let hits : List Hit = hits_among tagged in
    let few_hits = way.few_hits in
    let as_many = length-map tagged (λ t. t.hit) in
    record {
      log = record {
        hits_are = same;
        generation_is = generation;
        root_is = root;
        query_is = query;
        valid = valid_log found.log hits (subst IsValidQuery (sym query) (record { some = rw (axioms.long q is_point) axioms.some_coordinates; few = rw (axioms.long q is_point) axioms.few_coordinates }))
            (rw query answers) (omega arith) (rw are (omega arith)) (rw are way.few_marks);
      };
      least = λ is_known. (
        query,
        record {
          generation_is = generation;
          root_is = root;
          point_fits = rw query is_point;
          hits = hits;
          walk = subst (λ (rs : List Record). WalksBy AreLeast (search_for s found.log.query found.log.answers) (nodes_of old.read) (root_need live.root ∷ []) rs hits) (sym are)
              (subst (λ (u : Query). WalksBy AreLeast (search_for s u found.log.answers) (nodes_of old.read) (root_need live.root ∷ []) records hits) (sym query)
              (walks_whole AreLeast (search_at s q (min r bound)) (nodes_of old.read) (root_need live.root ∷ []) records hits (way.walk is_known)));
          answers_are = rw query answers;
        },
      );
      few = rw are fewer;
      asked = rw are way.asked;
      reads = rw are way.reads;
      used = rw are way.used;
    }

-- on a sound tree the hits are the scan's
pub found_scanned : (s : Space) → IsSpace s → (live : Live) (query : Query) (nodes : Nodes) (found : Found) → found.hits ≡ found.log.answers → IsLeastLog s nodes live query found.log → IsSoundTree s nodes live →
    found.hits ≡ scan_answers s query (points_by_id nodes live)
found_scanned s axioms live query nodes found same least sound =
    same ∙ sound_complete s nodes live found.log axioms sound (least_sound s nodes live query found.log least)
    ∙ ap (λ (u : Query). scan_answers s u (points_by_id nodes live)) least.0

no_node : (f : Search) (live : Live) (old : Shelf) (page : ℕ) (fault : PageFault) → old.read page ≡ Err fault → {opened : ℕ} → Needs f (nodes_of old.read) live.root opened page → IsSoundTree f.space (nodes_of old.read) live → ⊥
no_node f live old page fault is here sound =
    let there = (reached_inside AreLeast f (nodes_of old.read) live sound here.records here.hits here.next here.rest here.walk).1 in
    let some : nodes_of old.read page ≡ Some there.0 = ap (nodes_of old.read) (sym here.is) ∙ there.1 in
    let none : nodes_of old.read page ≡ None = ap node_or_none is in
    cc

-- on a sound tree only a passing fault is refused
pub passes : (f : Search) (live : Live) (old new : Shelf) (fault : PageFault) → HasWalkCause f live old new fault → IsTrue old.is_known → IsSoundTree f.space (nodes_of old.read) live → IsPassing fault
passes f live old new Disk cause is_known sound = tt
passes f live old new Memory cause is_known sound = tt
passes f live old new (Bad page fault) cause is_known sound =
    let why = cause.1 is_known in
    absurd (no_node f live old page (Bad page fault) why.0 why.1.2 sound)
passes f live old new (Outside page) cause is_known sound =
    let why = cause.1 is_known in
    absurd (no_node f live old page (Outside page) why.0 why.1.2 sound)
passes f live old new (Repeats page) cause is_known sound =
    let here = cause.1 is_known in
    let low = (reached_inside AreLeast f (nodes_of old.read) live sound here.records here.hits here.next here.rest here.walk).0 in
    let all = here.count in
    absurd (omega arith)
passes f live old new (Level page) cause is_known sound = absurd cause
