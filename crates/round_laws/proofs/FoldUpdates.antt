-- A take of an ideal update leaves a machine as the source's run says.
use Rattle.std.proofs.Common.{◌≡◌, ◌<◌, ◌≤◌, ◌+◌, ◌-◌, ℕ, zero, suc, ℤ, Bool, true, false, List, [], ◌∷◌, ◌++◌, length, map, refl, sym, ap, subst, ◌∙◌, Option, None, Some, append-nil, arith, ⊎_elim}
use Rattle.std.specs.Prelude.{◌==◌, ◌&&◌, ◌||◌, if◌then◌else◌, is_some, nat_lt, option_to_list, replicate, slice_index, slice_index_or}
use Rattle.std.specs.List.{filter, list_any}
use Rattle.std.proofs.lemmas.Bool.{cases_Bool, eq-eqb, eqb-true, ne_eqb}
use Rattle.std.proofs.lemmas.List.{length-map}
use Rattle.std.proofs.lemmas.List.FromFn.{get_or-map-range_with_len}
use Rattle.vert_base.specs.declared.graph.Edge.{Edge}
use Rattle.vert_base.specs.declared.message.Name.{Name}
use Rattle.vert_base.specs.declared.message.NameKind.TheVariants as kind
use Rattle.vert_base.specs.Letters.{Letter, found, placed}
use Rattle.vert_base.specs.Neighbours.{ins_of}
use Rattle.vert_base.proofs.LetterLaws.{placed_law}
use Rattle.vert_tree.specs.declared.program.Dense.{Dense}
use Rattle.slot_merge.specs.declared.partial.Partial.{Partial}
use Rattle.slot_merge.specs.Filled.{AreFilled, with_more}
use Rattle.chunk_split.specs.Chunks.{AreEnds, vertices_of}
use Rattle.circulant_plan.specs.Names.{update_name}
use Rattle.circulant_plan.specs.Ring.{lies_in, members_with, order_of}
use Rattle.vert_base.specs.Ends.{start_of}
use Rattle.circulant_plan.proofs.NameLists.{same_as_self}
use Rattle.circulant_plan.proofs.ReadingLaws.{order_within}
use Rattle.circulant_plan.proofs.SpanLaws.{is_below}
use Rattle.instrument.specs.Continued.{IsSplit}
use Rattle.body_shape.specs.Update.{Sent, sents_read}
use Rattle.body_shape.proofs.UpdateLaws.{update_back}
use Rattle.symple_face.specs.CoreScan.{scanned}
use Rattle.symple_face.specs.CoreSight.{beside, is_within, own_sight, those_within}
use Rattle.symple_face.specs.CoreTakes.{own_partials, slot_count, unsent, update_list, update_of, with_sent}
use Rattle.symple_face.specs.CoreWork.{core_take, take_update}
use Rattle.symple_face.specs.Ideal.{block_env, ideal_body, ideal_sent, machines_of, state_at}
use Rattle.symple_face.specs.Parts.{PlainPart, chunk_vertices, refresh_list}
use Rattle.symple_face.specs.PartsOf.{part_of}
use Rattle.symple_face.specs.Shapes.{half_in, reduced_in}
use Rattle.symple_face.specs.Source.{Source, scene, stand}
use Rattle.symple_face.specs.State.{State}
use Rattle.symple_face.proofs.ChunkLaws.{lies_high, lies_low, lies_within}
use Rattle.symple_face.proofs.ListLaws.{other_list}
use Rattle.round_laws.specs.FoldUpdates.{IsUpdate, TakesUpdates, updated_list}
use Rattle.round_laws.specs.IdealScans.{RunsDense, step_members}
use Rattle.round_laws.specs.IsIdeal.{HoldsBody, IsIdeal, came_words, dense_words, half_at, is_past, keys_below, step_came, words_by}
use Rattle.round_laws.specs.Partials.{partial_ops, sent_words}
use Rattle.round_laws.specs.Scans.{Sees}
use Rattle.round_laws.specs.Vertices.{are_some, members_at}
use Rattle.round_laws.proofs.FoldScanHalves.{in_half}
use Rattle.round_laws.proofs.FoldTakes.{known_stays, totals_stay}
use Rattle.round_laws.proofs.Held.{still_found}
use Rattle.round_laws.proofs.IdealScans.{scans_ideal}
use Rattle.round_laws.proofs.Lists.{any-filter, any_and, any_range, any_same}
use Rattle.round_laws.proofs.Partials.{fills_sent}
use Rattle.round_laws.proofs.Sights.{beside_is}
use Rattle.round_laws.proofs.Vertices.{refreshed_law}
use Rattle.state_laws.proofs.Letters.{all_placed, apart_names}

-- ---- lists
-- a number is among those that pass a test where it passes and is among them all
pub among_kept : (test : ℕ → Bool) (v : ℕ) (xs : List ℕ) (b : Bool) → test v ≡ b →
    list_any (λ u. u == v) (filter test xs) ≡ (b && list_any (λ u. u == v) xs)
among_kept test v xs b is =
    any-filter (λ u. u == v) test xs
    ∙ any_same (λ u. test u && (u == v)) (λ u. b && (u == v)) xs (λ u.
    ⊎_elim
    (λ (here : (u == v) ≡ true). ap (λ x. x && (u == v)) (ap test (eqb-true u v here) ∙ is))
    (λ (other : (u == v) ≡ false). ap (λ x. test u && x) other ∙ none (test u) ∙ sym (none b)
    ∙ ap (λ x. b && x) (sym other))
    (cases_Bool (u == v)))
    ∙ any_and b (λ u. u == v) xs
  where
    none : (c : Bool) → (c && false) ≡ false
    none true = refl
    none false = refl

-- what stands beside a vertex that isn't of a list
pub beside_none : {X : Type 0} (d : X) (us : List ℕ) (v : ℕ) (xs : List X) → list_any (λ u. u == v) us ≡ false →
    beside d v us xs ≡ d
beside_none d [] v xs none = refl
beside_none d (u ∷ us) v [] none = refl
beside_none d (u ∷ us) v (x ∷ xs) none = by (u == v) none (beside_none d us v xs)
  where
    by : (b : Bool) → (b || list_any (λ u. u == v) us) ≡ false →
        (list_any (λ u. u == v) us ≡ false → beside d v us xs ≡ d) →
        (if b then x else beside d v us xs) ≡ d
    by true h rest = cc
    by false h rest = rest h

pub no_members : (ms : List Edge) → are_some ms ≡ false → ms ≡ []
no_members [] none = refl
no_members (e ∷ es) none = cc

abbrev nones : ℕ → List (Option ℤ)
nones count = replicate count None

none_at : (a b place : ℕ) → slice_index_or (nones a ++ nones b) place None ≡ None
none_at zero zero place = refl
none_at zero (suc b) zero = refl
none_at zero (suc b) (suc place) = none_at zero b place
none_at (suc a) b zero = refl
none_at (suc a) b (suc place) = none_at a b place

module _ (src : Source) (d : Dense) (most m : ℕ) (state : State) (given : Letter) (runs : RunsDense src d)
    (are : AreEnds most src.job.graph.ends) (sized : src.job.graph.vertices ≡ vertices_of src.job.graph.ends)
    (machine : m < machines_of src)
    (split : (v : ℕ) → v < src.job.graph.vertices → IsSplit src.job.program d (block_env src state.at.round v))
    (u : IsUpdate src m state given) where
  abbrev ends : List ℕ
  ends = src.job.graph.ends

  abbrev edges : List Edge
  edges = src.job.graph.edges

  abbrev p : ℕ
  p = machines_of src

  abbrev r : ℕ
  r = state.at.round

  abbrev k : ℕ
  k = order_of m u.step p

  abbrev part : PlainPart
  part = part_of ends src.job.draws edges m

  abbrev s : State
  s = record state { part = part; split = src.split }

  abbrev name : Name
  name = update_name r u.step u.half k m

  abbrev l : Letter
  l = record { name = name; body = ideal_body src name }

  abbrev noted : Letter
  noted = record { name = name; body = [] }

  abbrev held : List Letter
  held = placed noted state.held

  abbrev ideal : ℕ → Sent
  ideal v = ideal_sent src r v m u.step

  abbrev list : List ℕ
  list = updated_list src m k u.half

  sender : k < p
  sender = order_within m u.step p (omega arith)

  -- ---- what the update tells of a vertex
  list_is : update_list s k u.half ≡ list
  list_is = ap (those_within (half_in ends m u.half))
      (other_list p m k (λ j. refresh_list ends m j edges) sender (ne_eqb k m u.other))

  tells : (v : ℕ) → update_of s name (ideal_body src name) v ≡ beside (unsent src.split) v list (map ideal list)
  tells v =
      ap (λ vs. beside (unsent src.split) v vs
      (sents_read (slot_count src.split) (length (reduced_in src.split.dense)) (length vs)
      (ideal_body src name))) list_is
      ∙ ap (beside (unsent src.split) v list)
      (update_back (length list) (slot_count src.split) (length (reduced_in src.split.dense)) (map ideal list) u.suits)

  -- of a vertex without members with the sender nothing is sent
  idle : (v : ℕ) → v < src.job.graph.vertices → step_members src v m u.step ≡ [] → unsent src.split ≡ ideal v
  idle v small none =
      let g = own_sight s r in
      let sees : Sees g (scene src r) v (step_members src v m u.step) = subst (Sees g (scene src r) v) (sym none) tt in
      ap (λ ms. (scanned src.split d g 0 ms v (state_at src r v m u.step)).sent) (sym none)
      ∙ (scans_ideal src d g r v m u.step 0 runs (split v small) sees).1.sent

  module _ (v : ℕ) (lies : lies_in ends m v ≡ true) where
    low : start_of ends m ≤ v
    low = lies_low ends m v lies

    high : v < slice_index ends m
    high = lies_high ends m v lies

    -- it is among the vertices of the update where it is of the half and has members there
    among_refreshed : list_any (λ x. x == v) (refresh_list ends m k edges) ≡ are_some (members_at ends edges k v)
    among_refreshed =
        ap (list_any (λ x. x == v)) (refreshed_law most ends edges m k are machine sender)
        ∙ among_kept (λ x. are_some (members_at ends edges k x)) v (chunk_vertices ends m)
        (are_some (members_at ends edges k v)) refl
        ∙ ap (λ b. are_some (members_at ends edges k v) && b)
        (any_range v (start_of ends m) (slice_index ends m - start_of ends m) low (omega (arith, low, high)))
        ∙ whole (are_some (members_at ends edges k v))
      where
        whole : (b : Bool) → (b && true) ≡ b
        whole true = refl
        whole false = refl

    among : (b : Bool) → is_within (half_in ends m u.half) v ≡ b →
        list_any (λ x. x == v) list ≡ (b && are_some (members_at ends edges k v))
    among b is =
        among_kept (is_within (half_in ends m u.half)) v (refresh_list ends m k edges) b is
        ∙ ap (λ x. b && x) among_refreshed

    told_outside : is_within (half_in ends m u.half) v ≡ false → update_of s name (ideal_body src name) v ≡
        unsent src.split
    told_outside out = tells v ∙ beside_none (unsent src.split) list v (map ideal list) (among false out)

    told_inside : is_within (half_in ends m u.half) v ≡ true → update_of s name (ideal_body src name) v ≡ ideal v
    told_inside in_half = tells v ∙ by (are_some (members_at ends edges k v)) refl
      where
        by : (b : Bool) → are_some (members_at ends edges k v) ≡ b →
            beside (unsent src.split) v list (map ideal list) ≡ ideal v
        by true some = beside_is (unsent src.split) ideal list v (among true in_half ∙ some)
        by false none =
            beside_none (unsent src.split) list v (map ideal list) (among true in_half ∙ none)
            ∙ idle v (subst (λ x. v < x) (sym sized) (lies_within most ends are m v machine lies))
            (ap (λ n. members_with ends k (ins_of n edges v)) sized
            ∙ no_members (members_at ends edges k v) none)

    -- ---- halves
    half_is : is_within (half_in ends m u.half) v ≡ (half_at src m v == u.half)
    half_is = in_half src m v lies u.half u.halves

    -- ---- the words that came
    open_words : (letters : List Letter) (place key : ℕ) →
        came_words src m state.at letters v place key ≡ dense_words src m state.at letters v place key
    open_words letters place key =
        ap (λ b. if b then words_by (stand src r).ruling src m state.at letters v place key else []) u.going
        ∙ ap (λ x. words_by x src m state.at letters v place key) u.dense

    abbrev asked : ℕ → Name
    asked key = update_name r key (half_at src m v) (order_of m key p) m

    asked_is : half_at src m v ≡ u.half → asked u.step ≡ name
    asked_is e = ap (λ h. update_name r u.step h k m) e

    before_step : half_at src m v ≡ u.half → step_came src m state.at state.held v u.step ≡ false
    before_step e =
        ap (λ b. if b then is_some (found (asked u.step) state.held) else u.step + 1 == p && is_past state.at u.step
        (half_at src m v))
        (is_below (u.step + 1) p u.early)
        ∙ ap (λ x. is_some (found x state.held)) (asked_is e ∙ sym u.name) ∙ ap is_some u.new

    after_step : half_at src m v ≡ u.half → step_came src m state.at held v u.step ≡ true
    after_step e =
        ap (λ b. if b then is_some (found (asked u.step) held) else u.step + 1 == p && is_past state.at u.step
        (half_at src m v))
        (is_below (u.step + 1) p u.early)
        ∙ ap (λ x. is_some (found x held)) (asked_is e)
        ∙ ap is_some (placed_law noted state.held name
        ∙ ap (λ b. if b then Some noted else found name state.held) (same_as_self name))

    other_step : (key : ℕ) → (name ≡ asked key → ⊥) → step_came src m state.at held v key ≡
        step_came src m state.at state.held v key
    other_step key apart =
        ap (λ o. if nat_lt (key + 1) p then is_some o else key + 1 == p && is_past state.at key (half_at src m v))
        (still_found noted state.held (asked key) (apart_names name (asked key) apart))

    abbrev told : Sent
    told = update_of s name (ideal_body src name) v

    abbrev words : List Letter → ℕ → ℕ → List ℤ
    words letters place key = dense_words src m state.at letters v place key

    same_words : (place key : ℕ) → (name ≡ asked key → ⊥) → words state.held place key ≡ words held place key
    same_words place key apart =
        ap (λ b. if b then sent_words (ideal_sent src r v m key) place else []) (sym (other_step key apart))

    at_step : (place : ℕ) (b : Bool) → (half_at src m v == u.half) ≡ b →
        words state.held place u.step ++ sent_words told place ≡ words held place u.step
    at_step place true is =
        let e : half_at src m v ≡ u.half = eqb-true (half_at src m v) u.half is in
        ap (λ b. (if b then sent_words (ideal v) place else []) ++ sent_words told place) (before_step e)
        ∙ ap (λ x. sent_words x place) (told_inside (half_is ∙ is))
        ∙ ap (λ b. if b then sent_words (ideal v) place else []) (sym (after_step e))
    at_step place false is =
        let apart : name ≡ asked u.step → ⊥ =
        λ e. (let clash : true ≡ false = sym (eq-eqb (half_at src m v) u.half (sym (ap (λ x. x.half) e)))
        ∙ is in absurd cc) in
        ap (λ x. words state.held place u.step ++ sent_words x place) (told_outside (half_is ∙ is))
        ∙ ap (λ o. words state.held place u.step ++ option_to_list o)
        (none_at (slot_count src.split) (length (reduced_in src.split.dense)) place)
        ∙ append-nil (words state.held place u.step)
        ∙ same_words place u.step apart

    at_key : (place key : ℕ) (b : Bool) → (u.step == key) ≡ b →
        (if b then words state.held place key ++ sent_words told place else words state.held place key) ≡
        words held place key
    at_key place key true is =
        let e : u.step ≡ key = eqb-true u.step key is in
        subst (λ x. words state.held place x ++ sent_words told place ≡ words held place x) e
        (at_step place (half_at src m v == u.half) refl)
    at_key place key false is =
        same_words place key
        (λ e. (let clash : true ≡ false = sym (eq-eqb u.step key (ap (λ x. x.step) e)) ∙ is in absurd cc))

    more_words : (λ place. with_more (came_words src m state.at state.held v place) u.step (sent_words told place)) ≡
        came_words src m state.at held v
    more_words = λ i place key.
        (ap (λ ws. if u.step == key then ws ++ sent_words told place else ws) (open_words state.held place key)
        ∙ at_key place key (u.step == key) refl ∙ sym (open_words held place key)) i

    abbrev after_take : ℕ → List Partial
    after_take x = with_sent u.step (update_of s name (ideal_body src name) x) (own_partials s x)

    partials_are : own_partials (take_update s l) v ≡ after_take v
    partials_are =
        get_or-map-range_with_len after_take (start_of ends m) (slice_index ends m - start_of ends m)
        (v - start_of ends m) v []
        (omega (arith, low, high)) (omega (arith, low))

    filled : AreFilled 0 (partial_ops src.split) (came_words src m state.at state.held v) (keys_below src)
        (own_partials s v) →
        AreFilled 0 (partial_ops src.split) (came_words src m state.at held v) (keys_below src)
        (own_partials (take_update s l) v)
    filled before =
        subst (λ qs. AreFilled 0 (partial_ops src.split) (came_words src m state.at held v) (keys_below src) qs)
        (sym partials_are)
        (subst (λ ws. AreFilled 0 (partial_ops src.split) ws (keys_below src) (after_take v)) more_words
        (fills_sent (partial_ops src.split) (came_words src m state.at state.held v) (keys_below src) u.step told
        (own_partials s v)
        (omega (arith, u.early)) before))

  no_verdict : name.kind ≡ kind.Verdict → ⊥
  no_verdict e = cc

  taken_ideal : IsIdeal src m s → IsIdeal src m (core_take s l)
  taken_ideal is = record {
    part = refl;
    split = refl;
    rows = is.rows;
    ruling = λ knows. is.ruling (sym (known_stays s noted no_verdict) ∙ knows);
    totals = λ knows. totals_stay s noted no_verdict ∙ is.totals (sym (known_stays s noted no_verdict) ∙ knows);
    bodies = all_placed (λ x. HoldsBody x.name.kind src state.at x) noted state.held refl is.bodies;
    many = length-map (chunk_vertices ends m)
        (λ x. with_sent u.step (update_of s name (ideal_body src name) x) (own_partials s x));
    partials = λ v lies. filled v lies (is.partials v lies);
    ring = is.ring;
    reading = is.reading;
    reads = is.reads;
    judged = is.judged;
    report = is.report;
  }

  update_ideal : IsIdeal src m state → given.body ≡ ideal_body src given.name → IsIdeal src m (core_take state given)
  update_ideal is body =
      let same : state ≡ s = λ i. record state { part = is.part i; split = is.split i } in
      let letter : given ≡ l = λ i. record { name = u.name i; body = (body ∙ ap (ideal_body src) u.name) i } in
      subst (λ x. IsIdeal src m (core_take state x)) (sym letter)
      (subst (λ x. IsIdeal src m (core_take x l)) (sym same) (taken_ideal (subst (IsIdeal src m) same is)))

pub takes_updates : TakesUpdates
takes_updates src d most m s l runs are sized machine split is u body =
    update_ideal src d most m s l runs are sized machine split u is body
