-- A take of an ideal push leaves a machine as the source's run says.
use Rattle.std.proofs.Common.{◌≡◌, inl, inr, ◌<◌, ◌≤◌, ◌-◌, ℕ, zero, suc, Bool, true, false, List, [], ◌∷◌, length, map, refl, sym, ap, subst, ◌∙◌, Some, arith, ⊎_elim}
use Rattle.std.specs.Prelude.{◌==◌, ◌&&◌, ◌||◌, if◌then◌else◌, nat_le, nat_lt, not, slice_index}
use Rattle.std.specs.List.{AllByRecursion, filter, flat_map, list_any}
use Rattle.std.proofs.lemmas.Bool.{cases_Bool, eq-eqb, eqb-true, ne_eqb}
use Rattle.std.proofs.lemmas.List.{length-map}
use Rattle.std.proofs.lemmas.List.FromFn.{length-range_with_len}
use Rattle.vert_base.specs.declared.graph.Edge.{Edge}
use Rattle.vert_base.specs.declared.message.Name.{Name}
use Rattle.vert_base.specs.declared.message.NameKind.TheVariants as kind
use Rattle.vert_base.specs.Letters.{Letter, found, placed}
use Rattle.vert_base.specs.Names.{same_name}
use Rattle.vert_base.specs.Neighbours.{bucket, in_order, ins_of, source, target, turn_of, turned}
use Rattle.vert_base.proofs.LetterLaws.{placed_law}
use Rattle.vert_base.proofs.Orders.{in_order_below, all_append}
use Rattle.vert_tree.specs.declared.program.Sparse.{Sparse}
use Rattle.slot_merge.specs.Combine.{words_for}
use Rattle.slot_merge.specs.Filled.{AreFilled}
use Rattle.vert_eval.specs.Rounds.{Scene, emitted_over, env_at, row_at, slot_ops}
use Rattle.graph_table.proofs.FilterLaws.{all_filter, all_passes, all_weaker, filter_same}
use Rattle.chunk_split.specs.Chunks.{vertices_of}
use Rattle.circulant_plan.specs.declared.spot.Spot.{Spot}
use Rattle.circulant_plan.specs.declared.spot.Spot.TheVariants.{Tell, Judge, Begin, Scan, Close, Over}
use Rattle.circulant_plan.specs.Names.{push_name}
use Rattle.circulant_plan.specs.Ring.{lies_in}
use Rattle.vert_base.specs.Ends.{start_of}
use Rattle.circulant_plan.proofs.NameLists.{same_as_self}
use Rattle.symple_face.specs.CoreSight.{known, none, program_of}
use Rattle.symple_face.specs.CoreSparse.{key_of, told_sends, worked}
use Rattle.symple_face.specs.CoreTakes.{own_partials}
use Rattle.symple_face.specs.CoreWork.{core_take, kept}
use Rattle.symple_face.specs.Ideal.{ideal_body, ideal_send, owner_of}
use Rattle.symple_face.specs.Parts.{chunk_vertices, push_list}
use Rattle.symple_face.specs.PartsOf.{part_of, push_of}
use Rattle.symple_face.specs.Source.{Source, scene, stand}
use Rattle.symple_face.specs.State.{State}
use Rattle.symple_face.proofs.ChunkLaws.{lies_high, lies_low, lies_within}
use Rattle.round_laws.specs.FoldPushes.{IsPush, RunsSparse, TakesPushesAtOnce, TakesPushesEarly}
use Rattle.round_laws.specs.IsIdeal.{HoldsBody, IsIdeal, awaits_begin, came_words, is_open, is_worked, keys_below, rows_round, sends_came, sparse_words, words_by}
use Rattle.round_laws.specs.Partials.{partial_ops}
use Rattle.round_laws.specs.Sights.{StandsIn}
use Rattle.round_laws.specs.SparseClose.{push_buckets}
use Rattle.round_laws.proofs.FoldPushLists.{all_among, all_told, empty_push, lies_by_owner}
use Rattle.round_laws.proofs.FoldPushWalk.{worked_filled, worked_length}
use Rattle.round_laws.proofs.FoldTakes.{known_stays, totals_stay}
use Rattle.round_laws.proofs.Held.{still_found}
use Rattle.round_laws.proofs.Members.{push_members}
use Rattle.state_laws.proofs.Letters.{all_placed, apart_names}

clash : true ≡ false → ⊥
clash e = cc

-- in an open round the own rows are those before it
pub open_rows : (round : ℕ) (x : Spot) → is_open x ≡ true → rows_round round x ≡ round
open_rows round Tell going = absurd (clash (sym going))
open_rows round (Judge r) going = absurd (clash (sym going))
open_rows round (Begin r) going = refl
open_rows round (Scan r step h) going = refl
open_rows round (Close r dense) going = refl
open_rows round Over going = absurd (clash (sym going))

or_none : (b : Bool) → b ≡ (b || false)
or_none true = refl
or_none false = refl

and_none : (b : Bool) → (b && false) ≡ false
and_none true = refl
and_none false = refl

-- the edges that a machine works lead to its vertices
pub push_starts : (ends : List ℕ) (edges : List Edge) (m : ℕ) →
    AllByRecursion (λ e. start_of ends m ≤ target e) (push_of ends edges m)
push_starts ends edges m =
    all_weaker (λ e. lies_in ends m (target e) ≡ true) (λ e. start_of ends m ≤ target e)
    (λ e is. lies_low ends m (target e) is) (push_of ends edges m)
    (all_in source (in_order target (vertices_of ends) own)
    (all_in target own (all_passes (λ e. lies_in ends m (target e)) edges)))
  where
    own : List Edge
    own = filter (λ e. lies_in ends m (target e)) edges

    all_in : (key : Edge → ℕ) (xs : List Edge) → AllByRecursion (λ e. lies_in ends m (target e) ≡ true) xs →
        AllByRecursion (λ e. lies_in ends m (target e) ≡ true) (in_order key (vertices_of ends) xs)
    all_in key xs all = by (vertices_of ends)
      where
        by : (n : ℕ) → AllByRecursion (λ e. lies_in ends m (target e) ≡ true) (in_order key n xs)
        by zero = tt
        by (suc n) =
            all_append (λ e. lies_in ends m (target e) ≡ true) (in_order key n xs) (bucket key n xs) (by n)
            (all_filter (λ e. lies_in ends m (target e) ≡ true) (λ e. key e == n) xs all)

module _ (src : Source) (sparse : Sparse) (most m : ℕ) (state : State) (given : Letter)
    (runs : RunsSparse src sparse most m) (u : IsPush src m state given) where
  abbrev ends : List ℕ
  ends = src.job.graph.ends

  abbrev edges : List Edge
  edges = src.job.graph.edges

  abbrev n : ℕ
  n = src.job.graph.vertices

  abbrev r : ℕ
  r = state.at.round

  abbrev sc : Scene
  sc = scene src r

  abbrev k : ℕ
  k = u.sender

  abbrev s : State
  s = record state { part = part_of ends src.job.draws edges m; split = src.split }

  abbrev name : Name
  name = push_name r k m

  abbrev l : Letter
  l = record { name = name; body = ideal_body src name }

  abbrev empty : Letter
  empty = record { name = name; body = [] }

  abbrev push : List Edge
  push = push_of ends edges m

  own_block : (program_of src.split).sparse ≡ Some sparse
  own_block = ap (λ x. x.sparse) runs.program ∙ runs.block

  no_verdict : name.kind ≡ kind.Verdict → ⊥
  no_verdict e = cc

  abbrev came : List Letter → ℕ → Bool
  came held = sends_came src m state.at held

  -- the words that came, in an open sparse round
  open_words : (held : List Letter) (v place key : ℕ) → is_open state.at.spot ≡ true →
      came_words src m state.at held v place key ≡ push_buckets src.split sparse sc v (came held) place key
  open_words held v place key going =
      ap (λ b. if b then words_by (stand src r).ruling src m state.at held v place key else []) going
      ∙ ap (λ x. words_by x src m state.at held v place key) u.sparse
      ∙ ap (λ o. sparse_words o src m state.at held v place key) own_block

  -- ---- which sends came
  abbrev asked : ℕ → Name
  asked w = push_name r (owner_of ends w) m

  at_other : (given_letter : Letter) (w : ℕ) → given_letter.name ≡ name → (owner_of ends w == k) ≡ false →
      came (placed given_letter state.held) w ≡ came state.held w
  at_other x w is not_its =
      ap (λ o. if owner_of ends w == m then not (awaits_begin state.at.spot) else is_worked o)
      (still_found x state.held (asked w)
      (apart_names x.name (asked w)
      (λ e. clash (sym (eq-eqb (owner_of ends w) k (sym (ap (λ y. y.from) (sym is ∙ e)))) ∙ not_its))))

  at_own : (x : Letter) (w : ℕ) → x.name ≡ name → (owner_of ends w == k) ≡ true →
      came (placed x state.held) w ≡ is_worked (Some x)
  at_own x w is its =
      let owner : owner_of ends w ≡ k = eqb-true (owner_of ends w) k its in
      ap (λ j. if j == m then not (awaits_begin state.at.spot) else is_worked (found (push_name r j m)
      (placed x state.held))) owner
      ∙ ap (λ b. if b then not (awaits_begin state.at.spot) else is_worked (found name (placed x state.held)))
      (ne_eqb k m u.other)
      ∙ ap is_worked (placed_law x state.held name
      ∙ ap (λ y. if same_name y name then Some x else found name state.held) is
      ∙ ap (λ b. if b then Some x else found name state.held) (same_as_self name))

  not_before : (w : ℕ) → (owner_of ends w == k) ≡ true → came state.held w ≡ false
  not_before w its =
      let owner : owner_of ends w ≡ k = eqb-true (owner_of ends w) k its in
      ap (λ j. if j == m then not (awaits_begin state.at.spot) else is_worked (found (push_name r j m) state.held))
      owner
      ∙ ap (λ b. if b then not (awaits_begin state.at.spot) else is_worked (found name state.held)) (ne_eqb k m u.other)
      ∙ ap is_worked (ap (λ x. found x state.held) (sym u.name) ∙ u.new)

  lies_is : (w : ℕ) → w < n → lies_in ends k w ≡ (owner_of ends w == k)
  lies_is w lt = lies_by_owner most ends runs.ends k w u.machine (subst (λ x. w < x) runs.sized lt)

  abbrev now : ℕ → Bool
  now w = came (placed empty state.held) w

  apart : (w : ℕ) → w < n → (came state.held w && lies_in ends k w) ≡ false
  apart w lt =
      ap (λ b. came state.held w && b) (lies_is w lt)
      ∙ ⊎_elim
      (λ (its : (owner_of ends w == k) ≡ true).
      ap (λ b. b && (owner_of ends w == k)) (not_before w its))
      (λ (other : (owner_of ends w == k) ≡ false).
      ap (λ b. came state.held w && b) other ∙ and_none (came state.held w))
      (cases_Bool (owner_of ends w == k))

  union : (w : ℕ) → w < n → now w ≡ (came state.held w || lies_in ends k w)
  union w lt =
      ⊎_elim
      (λ (its : (owner_of ends w == k) ≡ true).
      at_own empty w refl its
      ∙ sym (ap (λ b. b || lies_in ends k w) (not_before w its) ∙ lies_is w lt ∙ its))
      (λ (other : (owner_of ends w == k) ≡ false).
      at_other empty w refl other ∙ or_none (came state.held w)
      ∙ sym (ap (λ b. came state.held w || b) (lies_is w lt ∙ other)))
      (cases_Bool (owner_of ends w == k))

  -- ---- worked at once
  module _ (is : IsIdeal src m s) (going : is_open state.at.spot ≡ true) (knows : known s ≡ true) where
    stands : StandsIn m s sc
    stands = record {
      machine = runs.machine;
      part = refl;
      sized = runs.sized;
      rows = is.rows
          ∙ ap (λ x. map (row_at (stand src x).rows) (chunk_vertices ends m)) (open_rows r state.at.spot going);
      totals = is.totals knows;
    }

    abbrev worked_state : State
    worked_state = record s {
      held = placed empty state.held;
      partials = worked s r (told_sends s k l.body) push state.partials;
    }

    filled : (v : ℕ) → lies_in ends m v ≡ true →
        AreFilled 0 (partial_ops src.split) (came_words src m state.at (placed empty state.held) v) (keys_below src)
        (own_partials worked_state v)
    filled v lies =
        let low = lies_low ends m v lies in
        let high = lies_high ends m v lies in
        let size : length state.partials ≡ slice_index ends m - start_of ends m =
        is.many ∙ length-range_with_len (start_of ends m) (slice_index ends m - start_of ends m) in
        subst (λ ws. AreFilled 0 (partial_ops src.split) ws (keys_below src) (own_partials worked_state v))
        (λ i place key. sym (open_words (placed empty state.held) v place key going) i)
        (worked_filled src sparse most m state runs stands v lies (told_sends s k l.body) (came state.held)
        (lies_in ends k) now state.partials (push_starts ends edges m)
        (all_told src most m k runs.ends runs.machine u.machine u.other r state u.words) apart union
        (omega (arith, low, high, size))
        (subst (λ ws. AreFilled 0 (partial_ops src.split) ws (keys_below src) (own_partials s v))
        (λ i place key. open_words state.held v place key going i) (is.partials v lies)))

    worked_ideal : IsIdeal src m worked_state
    worked_ideal = record {
      part = refl;
      split = refl;
      rows = is.rows;
      ruling = λ still. is.ruling (sym (known_stays s empty no_verdict) ∙ still);
      totals = λ still. totals_stay s empty no_verdict ∙ is.totals (sym (known_stays s empty no_verdict) ∙ still);
      bodies = all_placed (λ x. HoldsBody x.name.kind src state.at x) empty state.held (inl refl) is.bodies;
      many = worked_length s r (start_of ends m) (told_sends s k l.body) (omega arith) push state.partials ∙ is.many;
      partials = filled;
      ring = is.ring;
      reading = is.reading;
      reads = is.reads;
      judged = is.judged;
      report = is.report;
    }

    takes_now : IsIdeal src m (core_take s l)
    takes_now =
        subst (IsIdeal src m) (sym (ap (λ b. if b then worked_state else kept s l) knows)) worked_ideal

  -- ---- kept
  module _ (is : IsIdeal src m s) (ahead : awaits_begin state.at.spot ≡ true) (unknown : known s ≡ false) where
    -- of a source of an edge that is worked nothing comes where the push is kept
    not_kept : (w : ℕ) → w < n → list_any (λ x. x == w) (push_list ends k m edges) ≡ lies_in ends k w →
        came (placed l state.held) w ≡ came state.held w
    not_kept w lt listed =
        ⊎_elim
        (λ (its : (owner_of ends w == k) ≡ true).
        at_own l w refl its ∙ some_bytes (listed ∙ lies_is w lt ∙ its) ∙ sym (not_before w its))
        (λ (other : (owner_of ends w == k) ≡ false). at_other l w refl other)
        (cases_Bool (owner_of ends w == k))
      where
        none_listed : (us : List ℕ) → length us ≡ 0 → list_any (λ x. x == w) us ≡ false
        none_listed [] size = refl
        none_listed (x ∷ xs) size = absurd (omega arith)

        some_bytes : list_any (λ x. x == w) (push_list ends k m edges) ≡ true → (length l.body == 0) ≡ false
        some_bytes some =
            ne_eqb (length l.body) 0
            (λ e. clash (sym some ∙ none_listed (push_list ends k m edges)
            (sym (length-map (push_list ends k m edges) (ideal_send src r))
            ∙ empty_push (map (ideal_send src r) (push_list ends k m edges)) e)))

    module _ (v : ℕ) (lies : lies_in ends m v ≡ true) where
      abbrev turn : ℕ
      turn = turn_of ends v

      abbrev Same : Edge → Type 0
      Same e = came (placed l state.held) (source e) ≡ came state.held (source e)

      all_ins : AllByRecursion Same (ins_of n edges v)
      all_ins =
          subst (AllByRecursion Same)
          (push_members ends edges m v (lies_within most ends runs.ends m v runs.machine lies) lies
          ∙ ap (λ x. ins_of x edges v) (sym runs.sized))
          (all_filter Same (λ e. target e == v) push
          (both push (in_order_below source (vertices_of ends) _)
          (all_among src most m k runs.ends runs.machine u.machine u.other)))
        where
          both : (es : List Edge) → AllByRecursion (λ e. source e < vertices_of ends) es →
              AllByRecursion (λ e. list_any (λ x. x == source e) (push_list ends k m edges) ≡
              lies_in ends k (source e)) es → AllByRecursion Same es
          both [] lows listed = tt
          both (e ∷ es) lows listed = (
            not_kept (source e) (subst (λ x. source e < x) (sym runs.sized) lows.0) listed.0,
            both es lows.1 listed.1,
          )

      all_members : AllByRecursion Same (turned turn (ins_of n edges v))
      all_members =
          all_append Same (filter (λ e. nat_le turn (source e)) (ins_of n edges v))
          (filter (λ e. nat_lt (source e) turn) (ins_of n edges v))
          (all_filter Same (λ e. nat_le turn (source e)) (ins_of n edges v) all_ins)
          (all_filter Same (λ e. nat_lt (source e) turn) (ins_of n edges v) all_ins)

      buckets_stay : (place key : ℕ) →
          push_buckets src.split sparse sc v (came (placed l state.held)) place key ≡
          push_buckets src.split sparse sc v (came state.held) place key
      buckets_stay place key =
          ap (λ es. words_for place (flat_map
          (emitted_over sc (slot_ops (program_of src.split)) sparse (env_at sc v (none src.split))) es))
          (filter_same (λ e. key_of n turn (source e) == key && came (placed l state.held) (source e))
          (λ e. key_of n turn (source e) == key && came state.held (source e)) (turned turn (ins_of n edges v))
          (all_weaker Same (λ e. (key_of n turn (source e) == key && came (placed l state.held) (source e)) ≡
          (key_of n turn (source e) == key && came state.held (source e)))
          (λ e is. ap (λ b. key_of n turn (source e) == key && b) is) (turned turn (ins_of n edges v)) all_members))

      words_stay : (place key : ℕ) → came_words src m state.at (placed l state.held) v place key ≡
          came_words src m state.at state.held v place key
      words_stay place key =
          ⊎_elim
          (λ (going : is_open state.at.spot ≡ true).
          open_words (placed l state.held) v place key going ∙ buckets_stay place key
          ∙ sym (open_words state.held v place key going))
          (λ (shut : is_open state.at.spot ≡ false).
          ap (λ b. if b then words_by (stand src r).ruling src m state.at (placed l state.held) v place key else [])
          shut
          ∙ sym (ap (λ b. if b then words_by (stand src r).ruling src m state.at state.held v place key else []) shut))
          (cases_Bool (is_open state.at.spot))

    kept_ideal : IsIdeal src m (kept s l)
    kept_ideal = record {
      part = refl;
      split = refl;
      rows = is.rows;
      ruling = λ still. is.ruling (sym (known_stays s l no_verdict) ∙ still);
      totals = λ still. totals_stay s l no_verdict ∙ is.totals (sym (known_stays s l no_verdict) ∙ still);
      bodies = all_placed (λ x. HoldsBody x.name.kind src state.at x) l state.held (inr (refl, ahead)) is.bodies;
      many = is.many;
      partials = λ v lies. subst (λ ws. AreFilled 0 (partial_ops src.split) ws (keys_below src) (own_partials s v))
          (λ i place key. sym (words_stay v lies place key) i) (is.partials v lies);
      ring = is.ring;
      reading = is.reading;
      reads = is.reads;
      judged = is.judged;
      report = is.report;
    }

    takes_ahead : IsIdeal src m (core_take s l)
    takes_ahead =
        subst (IsIdeal src m)
        (sym (ap (λ b. if b then
        (let w : State = record s {
          held = placed empty state.held;
          partials = worked s r (told_sends s k l.body) push state.partials;
        } in w)
        else kept s l) unknown)) kept_ideal

  letter_is : given.body ≡ ideal_body src given.name → given ≡ l
  letter_is body = λ i. record { name = u.name i; body = (body ∙ ap (ideal_body src) u.name) i }

  state_is : IsIdeal src m state → state ≡ s
  state_is is = λ i. record state { part = is.part i; split = is.split i }

pub takes_pushes_at_once : TakesPushesAtOnce
takes_pushes_at_once src sparse most m state given runs is u knows going body =
    let same = state_is src sparse most m state given runs u is in
    subst (λ x. IsIdeal src m (core_take state x)) (sym (letter_is src sparse most m state given runs u body))
    (subst (λ x. IsIdeal src m (core_take x (l src sparse most m state given runs u))) (sym same)
    (takes_now src sparse most m state given runs u (subst (IsIdeal src m) same is) going
    (ap known (sym same) ∙ knows)))

pub takes_pushes_early : TakesPushesEarly
takes_pushes_early src sparse most m state given runs is u unknown ahead body =
    let same = state_is src sparse most m state given runs u is in
    subst (λ x. IsIdeal src m (core_take state x)) (sym (letter_is src sparse most m state given runs u body))
    (subst (λ x. IsIdeal src m (core_take x (l src sparse most m state given runs u))) (sym same)
    (takes_ahead src sparse most m state given runs u (subst (IsIdeal src m) same is) ahead
    (ap known (sym same) ∙ unknown)))
