-- The begin of a sparse round leaves a machine as the source's run says: it works its own sends, and then each push
-- that it kept.
use Rattle.std.proofs.Common.{◌≡◌, ◌≢◌, ◌⊎◌, inl, inr, ◌<◌, ◌≤◌, ◌-◌, ℕ, ℤ, Bool, true, false, List, [], ◌∷◌, ◌++◌, length, map, refl, sym, ap, subst, ◌∙◌, Option, None, Some, arith, ⊎_elim}
use Rattle.std.specs.Prelude.{◌==◌, ◌&&◌, ◌||◌, if◌then◌else◌, is_some, nat_le, option_map, slice_index, slice_index_or}
use Rattle.std.specs.List.{AllByRecursion}
use Rattle.std.proofs.lemmas.Bool.{eq-eqb, eqb-true, ne_eqb, true≢false}
use Rattle.std.proofs.lemmas.List.FromFn.{length-range_with_len}
use Rattle.vert_base.specs.declared.message.Name.{Name}
use Rattle.vert_base.specs.declared.message.NameKind.{NameKind}
use Rattle.vert_base.specs.declared.message.NameKind.TheVariants as kind
use Rattle.vert_base.specs.declared.value.Ruling.TheVariants as ruling
use Rattle.vert_base.specs.Letters.{Letter, found}
use Rattle.vert_base.specs.Neighbours.{source}
use Rattle.vert_tree.specs.declared.program.Sparse.{Sparse}
use Rattle.slot_merge.specs.declared.partial.Partial.{Partial}
use Rattle.slot_merge.specs.Filled.{AreFilled}
use Rattle.vert_eval.specs.Rounds.{Scene}
use Rattle.graph_table.proofs.FilterLaws.{all_true, map_same}
use Rattle.circulant_plan.specs.declared.spot.Spot.TheVariants.{Begin, Close}
use Rattle.circulant_plan.specs.Names.{push_name, verdict_name}
use Rattle.circulant_plan.specs.Ring.{chunk_of, lies_in}
use Rattle.vert_base.specs.Ends.{start_of}
use Rattle.circulant_plan.specs.Skeleton.{has_name}
use Rattle.circulant_plan.specs.Standing.{Standing, standing_at}
use Rattle.circulant_plan.specs.Table.{after_begin, others_of}
use Rattle.circulant_plan.proofs.GiftLists.{once_gives}
use Rattle.circulant_plan.proofs.Members.{Has, has_map, has_map_cases, has_others, has_others_cases}
use Rattle.circulant_plan.proofs.NameLists.{Once, has_from_name, name_from_has}
use Rattle.vert_base.proofs.LetterLaws.{found_name}
use Rattle.symple_face.specs.CoreScan.{fresh}
use Rattle.symple_face.specs.CoreSight.{body_of, known, known_totals, targets_of, total_count}
use Rattle.symple_face.specs.CoreSparse.{all_worked, kept_sends, own_first, own_sends, pushes, sends_from, told_sends, worked}
use Rattle.symple_face.specs.CoreTakes.{emptied, emptied_under}
use Rattle.symple_face.specs.CoreWork.{core_go, moved}
use Rattle.symple_face.specs.Ideal.{ideal_body, ideal_ran, ideal_send, machines_of, owner_of, state_at}
use Rattle.symple_face.specs.Parts.{chunk_vertices}
use Rattle.symple_face.specs.Plans.{ring_of}
use Rattle.symple_face.specs.Source.{Source, scene, stand}
use Rattle.symple_face.specs.State.{State}
use Rattle.symple_face.proofs.ChunkLaws.{lies_high, lies_low}
use Rattle.body_shape.specs.Verdict.{judged_read}
use Rattle.round_laws.specs.FoldBegins.{BeginsSparse, IsPushName, PushesAreNamed}
use Rattle.round_laws.specs.FoldPushes.{RunsSparse, SendsWords}
use Rattle.round_laws.specs.IsIdeal.{HoldsBody, IsIdeal, came_words, half_at, is_dense, is_past, is_worked, keys_below, reads_held, ring_held, sends_came, sparse_words, words_by}
use Rattle.round_laws.specs.Partials.{partial_ops}
use Rattle.round_laws.specs.SparseClose.{push_buckets}
use Rattle.round_laws.proofs.Chunks.{each_has_a_chunk}
use Rattle.round_laws.proofs.FoldBegins as begins
use Rattle.round_laws.proofs.FoldPushLists.{all_told, lies_by_owner, owner_is}
use Rattle.round_laws.proofs.FoldPushWalk.{worked_filled, worked_length}
use Rattle.round_laws.proofs.FoldPushes.{push_starts}
use Rattle.round_laws.proofs.FoldScanHeld.{found_emptied, found_holds, still_ahead, still_whole}

neither : (b : Bool) → (b && false) ≡ false
neither true = refl
neither false = refl

either : (b : Bool) → b ≡ (b || false)
either true = refl
either false = refl

no_byte : {X : Type 0} (xs : List X) → (length xs == 0) ≡ true → xs ≡ []
no_byte [] none = refl
no_byte (x ∷ xs) none = absurd (let zero_bytes = eqb-true (length (x ∷ xs)) 0 none in omega arith)

module _ (src : Source) (sparse : Sparse) (most m round : ℕ) (state : State) (runs : RunsSparse src sparse most m)
  where
    abbrev ends : List ℕ
    ends = src.job.graph.ends

    abbrev n : ℕ
    n = src.job.graph.vertices

    abbrev p : ℕ
    p = machines_of src

    abbrev sc : Scene
    sc = scene src round

    abbrev s : State
    s = begins.s src m round state

    abbrev at : Standing
    at = begins.at src m round state

    abbrev closing : Standing
    closing = record { spot = Close round false; round = round }

    abbrev names : List Name
    names = pushes s round

    abbrev others : List ℕ
    others = others_of p m

    abbrev of : ℕ → Name
    of k = push_name round k m

    abbrev taken : ℕ → Option Letter
    taken k = found (of k) state.held

    -- ---- which sends came: behind the pushes of some machines, and at last
    abbrev next : ℕ → (ℕ → Bool) → ℕ → Bool
    next k came u = if owner_of ends u == k then is_some (taken k) else came u

    abbrev came_after : List ℕ → (ℕ → Bool) → ℕ → Bool
    came_after [] came = came
    came_after (k ∷ ks) came = came_after ks (next k came)

    after_out : (ks : List ℕ) (came : ℕ → Bool) (u : ℕ) → (Has ks (owner_of ends u) → ⊥) →
        came_after ks came u ≡ came u
    after_out [] came u out = refl
    after_out (k ∷ ks) came u out =
        after_out ks (next k came) u (λ has. out (inr has))
        ∙ ap (λ b. if b then is_some (taken k) else came u) (ne_eqb (owner_of ends u) k (λ e. out (inl (sym e))))

    after_in : (ks : List ℕ) (came : ℕ → Bool) (u : ℕ) →
        (came u ≡ is_some (taken (owner_of ends u))) ⊎ Has ks (owner_of ends u) →
        came_after ks came u ≡ is_some (taken (owner_of ends u))
    after_in [] came u (inl is) = is
    after_in [] came u (inr has) = absurd has
    after_in (k ∷ ks) came u h = after_in ks (next k came) u (by (owner_of ends u == k) refl h)
      where
        by : (b : Bool) → (owner_of ends u == k) ≡ b →
            (came u ≡ is_some (taken (owner_of ends u))) ⊎ Has (k ∷ ks) (owner_of ends u) →
            ((if b then is_some (taken k) else came u) ≡ is_some (taken (owner_of ends u))) ⊎ Has ks (owner_of ends u)
        by true its g = inl (ap (λ j. is_some (taken j)) (sym (eqb-true (owner_of ends u) k its)))
        by false other (inl is) = inl is
        by false other (inr (inl e)) = absurd (true≢false (sym (eq-eqb (owner_of ends u) k (sym e)) ∙ other))
        by false other (inr (inr has)) = inr has

    abbrev first : ℕ → Bool
    first u = sends_came src m at state.held u

    abbrev own : ℕ → Bool
    own u = sends_came src m closing state.held u

    abbrev final : ℕ → Bool
    final u = sends_came src m closing (emptied names state.held) u

    -- a push that is held is worked at last
    all_emptied : (k : ℕ) → Has others k → is_worked (found (of k) (emptied names state.held)) ≡ is_some (taken k)
    all_emptied k has =
        ap is_worked (found_emptied names (of k) state.held) ∙ by (taken k) (found_name (of k) state.held)
      where
        listed : has_name (of k) names ≡ true
        listed = name_from_has (of k) names (has_map of others k has)

        by : (o : Option Letter) → ((l : Letter) → o ≡ Some l → l.name ≡ of k) →
            is_worked (option_map (emptied_under names) o) ≡ is_some o
        by None named = refl
        by (Some l) named =
            ap (λ b. is_worked (Some (if b then record l { body = [] } else l)))
            (ap (λ x. has_name x names) (named l refl) ∙ listed)

    last_is : (u : ℕ) → u < n → final u ≡ came_after others own u
    last_is u lt = by (owner_of ends u == m) refl
      where
        k : ℕ
        k = owner_of ends u

        low : k < p
        low =
            let chunk = each_has_a_chunk most ends u runs.ends (subst (λ x. u < x) runs.sized lt) in
            subst (λ j. j < p) (sym (owner_is most ends runs.ends chunk.0 u chunk.1 chunk.2)) chunk.1

        by : (b : Bool) → (owner_of ends u == m) ≡ b → final u ≡ came_after others own u
        by true mine =
            ap (λ b. if b then true else is_worked (found (of k) (emptied names state.held))) mine
            ∙ sym (after_out others own u
            (λ has. (has_others_cases p m k runs.machine has).1 (eqb-true k m mine))
            ∙ ap (λ b. if b then true else is_worked (taken k)) mine)
        by false other =
            let differ : k ≢ m = λ e. true≢false (sym (eq-eqb k m e) ∙ other) in
            let has : Has others k = has_others p m k runs.machine low differ in
            ap (λ b. if b then true else is_worked (found (of k) (emptied names state.held))) other
            ∙ all_emptied k has ∙ sym (after_in others own u (inr has))

    -- ---- the partials
    module _ (is : IsIdeal src m s) (knows : known s ≡ true) (rules : (stand src round).ruling ≡ ruling.Sparse)
        (words : (k : ℕ) → k < p → k ≢ m → SendsWords src round k m) where
      holds : (k : ℕ) → is_some (taken k) ≡ true →
          (body_of (taken k) ≡ []) ⊎ (body_of (taken k) ≡ ideal_body src (of k))
      holds k some =
          ⊎_elim (λ empty. inl empty) (λ both. inr both.0)
          (found_holds (λ l. HoldsBody l.name.kind src at l) (of k) state.held is.bodies some)

      all_length : (ks : List ℕ) (all : List (List Partial)) →
          length (all_worked s round (map (kept_sends s round) ks) all) ≡ length all
      all_length [] all = refl
      all_length (k ∷ ks) all =
          all_length ks (worked s round (kept_sends s round k) s.part.push all)
          ∙ worked_length s round (start_of ends m) (kept_sends s round k) (omega arith) s.part.push all

      module _ (v : ℕ) (lies : lies_in ends m v ≡ true) where
        abbrev place : ℕ
        place = v - start_of ends m

        abbrev Filled : (ℕ → Bool) → List (List Partial) → Type 0
        Filled came all =
            AreFilled 0 (partial_ops src.split) (push_buckets src.split sparse sc v came) (keys_below src)
            (slice_index_or all place [])

        module _ (sends : ℕ → Option (List ℤ)) (came new both : ℕ → Bool) (all : List (List Partial)) where
          grown : AllByRecursion (λ e. sends (source e) ≡ (if new (source e) then ideal_send src round (source
              e) else None)) s.part.push → ((u : ℕ) → u < n → (came u && new u) ≡ false) →
              ((u : ℕ) → u < n → both u ≡ (came u || new u)) → place < length all → Filled came all →
              Filled both (worked s round sends s.part.push all)
          grown told apart union lt filled =
              worked_filled src sparse most m s runs (begins.stands src sparse most m round state runs is knows) v
              lies
              sends came new both all (push_starts ends src.job.graph.edges m) told apart union lt filled

        -- where nothing is sent what came is the same
        idle : (sends : ℕ → Option (List ℤ)) (came both : ℕ → Bool) (all : List (List Partial)) →
            ((u : ℕ) → sends u ≡ None) → ((u : ℕ) → u < n → both u ≡ came u) → place < length all → Filled came all →
            Filled both (worked s round sends s.part.push all)
        idle sends came both all none same lt filled =
            grown sends came (λ u. false) both all (all_true _ (λ e. none (source e)) s.part.push)
            (λ u low. neither (came u)) (λ u low. same u low ∙ either (came u)) lt filled

        -- the push of one machine
        module _ (k : ℕ) (low : k < p) (other : k ≢ m) (came : ℕ → Bool) (all : List (List Partial))
            (before : (u : ℕ) → u < n → owner_of ends u ≡ k → came u ≡ is_worked (taken k)) (lt : place < length all)
            (filled : Filled came all) where
          next_same : is_worked (taken k) ≡ is_some (taken k) → (u : ℕ) → u < n → next k came u ≡ came u
          next_same agree u small = by (owner_of ends u == k) refl
            where
              by : (b : Bool) → (owner_of ends u == k) ≡ b → (if b then is_some (taken k) else came u) ≡ came u
              by true its = sym (before u small (eqb-true (owner_of ends u) k its) ∙ agree)
              by false its = refl

          still : is_worked (taken k) ≡ is_some (taken k) → body_of (taken k) ≡ [] →
              Filled (next k came) (worked s round (kept_sends s round k) s.part.push all)
          still agree empty =
              idle (kept_sends s round k) came (next k came) all
              (λ u. ap (λ body. told_sends s k body u) empty ∙ begins.untold s k u) (next_same agree) lt filled

          moves : is_some (taken k) ≡ true → is_worked (taken k) ≡ false → body_of (taken k) ≡ ideal_body src (of k) →
              Filled (next k came) (worked s round (kept_sends s round k) s.part.push all)
          moves some ahead body =
              subst (λ x. Filled (next k came) (worked s round (told_sends s k x) s.part.push all)) (sym body)
              (grown (told_sends s k (ideal_body src (of k))) came (lies_in ends k) (next k came) all
              (all_told src most m k runs.ends runs.machine low other round s (words k low other)) apart
              union lt filled)
            where
              lies_is : (u : ℕ) → u < n → lies_in ends k u ≡ (owner_of ends u == k)
              lies_is u small = lies_by_owner most ends runs.ends k u low (subst (λ x. u < x) runs.sized small)

              apart : (u : ℕ) → u < n → (came u && lies_in ends k u) ≡ false
              apart u small = ap (λ b. came u && b) (lies_is u small) ∙ by (owner_of ends u == k) refl
                where
                  by : (b : Bool) → (owner_of ends u == k) ≡ b → (came u && b) ≡ false
                  by true its =
                      ap (λ b. b && true) (before u small (eqb-true (owner_of ends u) k its) ∙ ahead)
                  by false its = neither (came u)

              union : (u : ℕ) → u < n → next k came u ≡ (came u || lies_in ends k u)
              union u small = by (owner_of ends u == k) refl ∙ ap (λ b. came u || b) (sym (lies_is u small))
                where
                  by : (b : Bool) → (owner_of ends u == k) ≡ b →
                      (if b then is_some (taken k) else came u) ≡ (came u || b)
                  by true its =
                      some ∙ sym (ap (λ b. b || true) (before u small (eqb-true (owner_of ends u) k its) ∙ ahead))
                  by false its = either (came u)

          step : Filled (next k came) (worked s round (kept_sends s round k) s.part.push all)
          step = by (taken k) refl
            where
              by : (o : Option Letter) → taken k ≡ o →
                  Filled (next k came) (worked s round (kept_sends s round k) s.part.push all)
              by None none = still (ap is_worked none ∙ sym (ap is_some none)) (ap body_of none)
              by (Some l) there = sized (length l.body == 0) refl
                where
                  some : is_some (taken k) ≡ true
                  some = ap is_some there

                  sized : (b : Bool) → (length l.body == 0) ≡ b →
                      Filled (next k came) (worked s round (kept_sends s round k) s.part.push all)
                  sized true none =
                      still (ap is_worked there ∙ none ∙ sym some) (ap body_of there ∙ no_byte l.body none)
                  sized false bytes =
                      ⊎_elim
                      (λ (empty : body_of (taken k) ≡ []).
                      let none : l.body ≡ [] = sym (ap body_of there) ∙ empty in
                      absurd (true≢false (sym (ap (λ (b : List ℕ). length b == 0) none) ∙ bytes)))
                      (λ (body : body_of (taken k) ≡ ideal_body src (of k)).
                      moves some (ap is_worked there ∙ bytes) body)
                      (holds k some)

        abbrev start : ℕ
        start = start_of ends m

        low_place : start ≤ v
        low_place = lies_low ends m v lies

        all_steps : (ks : List ℕ) → Once (map (push_name round m) ks) →
            ((k : ℕ) → Has ks k → (k < p) × (k ≢ m)) → (came : ℕ → Bool) (all : List (List Partial)) →
            ((k : ℕ) → Has ks k → (u : ℕ) → u < n → owner_of ends u ≡ k → came u ≡ is_worked (taken k)) →
            place < length all → Filled came all →
            Filled (came_after ks came) (all_worked s round (map (kept_sends s round) ks) all)
        all_steps [] once others_are came all before lt filled = filled
        all_steps (k ∷ ks) once others_are came all before lt filled =
            let one = others_are k (inl refl) in
            all_steps ks once.1 (λ j has. others_are j (inr has)) (next k came)
            (worked s round (kept_sends s round k) s.part.push all)
            (λ j has u small its.
            ap (λ b. if b then is_some (taken k) else came u)
            (ne_eqb (owner_of ends u) k
            (λ e. once.0 (has_map (push_name round m) ks k (subst (Has ks) (sym its ∙ e) has))))
            ∙ before j (inr has) u small its)
            (subst (λ x. place < x)
            (sym (worked_length s round v (kept_sends s round k) low_place s.part.push all)) lt)
            (step k one.0 one.1 came all (before k (inl refl)) lt filled)

        mine_first : (u : ℕ) → u < n → (owner_of ends u == m) ≡ lies_in ends m u
        mine_first u small =
            sym (lies_by_owner most ends runs.ends m u runs.machine (subst (λ x. u < x) runs.sized small))

        own_filled : (all : List (List Partial)) → place < length all → Filled first all →
            Filled own (worked s round (sends_from s round) s.part.push all)
        own_filled all lt filled =
            grown (sends_from s round) first (lies_in ends m) own all
            (all_true _ (λ e. sent (source e)) s.part.push) apart union lt filled
          where
            sent : (u : ℕ) → sends_from s round u ≡ (if lies_in ends m u then ideal_send src round u else None)
            sent u = by (lies_in ends m u) refl
              where
                by : (b : Bool) → lies_in ends m u ≡ b →
                    (if b then own_sends s round u else None) ≡ (if b then ideal_send src round u else None)
                by true in_chunk = begins.own_is src sparse most m round state runs is knows u in_chunk
                by false out = refl

            apart : (u : ℕ) → u < n → (first u && lies_in ends m u) ≡ false
            apart u small = ap (λ b. first u && b) (sym (mine_first u small)) ∙ by (owner_of ends u == m)
              where
                by : (b : Bool) → ((if b then false else is_worked (taken (owner_of ends u))) && b) ≡ false
                by true = refl
                by false = neither (is_worked (taken (owner_of ends u)))

            union : (u : ℕ) → u < n → own u ≡ (first u || lies_in ends m u)
            union u small = by (owner_of ends u == m) ∙ ap (λ b. first u || b) (mine_first u small)
              where
                by : (b : Bool) → (if b then true else is_worked (taken (owner_of ends u))) ≡
                    ((if b then false else is_worked (taken (owner_of ends u))) || b)
                by true = refl
                by false = either (is_worked (taken (owner_of ends u)))

        abbrev worked_own : List (List Partial)
        worked_own = worked s round (sends_from s round) s.part.push state.partials

        size : place < length state.partials
        size =
            let high = lies_high ends m v lies in
            let count : length state.partials ≡ slice_index ends m - start =
            is.many ∙ length-range_with_len start (slice_index ends m - start) in
            omega (arith, low_place, high, count)

        abbrev worked_all : List (List Partial)
        worked_all = all_worked s round (map (kept_sends s round) others) worked_own

        unknown_own : (u : ℕ) → owner_of ends u ≢ m → own u ≡ is_worked (taken (owner_of ends u))
        unknown_own u differ =
            ap (λ b. if b then true else is_worked (taken (owner_of ends u))) (ne_eqb (owner_of ends u) m differ)

        came_first : (place key : ℕ) → came_words src m at state.held v place key ≡
            push_buckets src.split sparse sc v first place key
        came_first place key =
            ap (λ q. words_by q src m at state.held v place key) rules
            ∙ ap (λ o. sparse_words o src m at state.held v place key) (ap (λ x. x.sparse) runs.program ∙ runs.block)

        came_last : (place key : ℕ) → came_words src m closing (emptied names state.held) v place key ≡
            push_buckets src.split sparse sc v final place key
        came_last place key =
            ap (λ q. words_by q src m closing (emptied names state.held) v place key) rules
            ∙ ap (λ o. sparse_words o src m closing (emptied names state.held) v place key)
            (ap (λ x. x.sparse) runs.program ∙ runs.block)

        length_own : length worked_own ≡ length state.partials
        length_own = worked_length s round v (sends_from s round) low_place s.part.push state.partials

        all_filled : Filled (came_after others own) worked_all
        all_filled =
            all_steps others (once_gives (ring_of src.split p) m ruling.Sparse (Begin round))
            (λ k has. has_others_cases p m k runs.machine has) own worked_own
            (λ k has u small its.
            unknown_own u (λ e. (has_others_cases p m k runs.machine has).1 (sym its ∙ e))
            ∙ ap (λ j. is_worked (taken j)) its)
            (subst (λ x. place < x) (sym length_own) size)
            (own_filled state.partials size
            (subst
            (λ ws. AreFilled 0 (partial_ops src.split) ws (keys_below src) (slice_index_or state.partials place []))
            (λ i q key. came_first q key i) (is.partials v lies)))

        filled_last : AreFilled 0 (partial_ops src.split) (came_words src m closing (emptied names state.held) v)
            (keys_below src) (slice_index_or worked_all place [])
        filled_last =
            subst (λ ws. AreFilled 0 (partial_ops src.split) ws (keys_below src) (slice_index_or worked_all place []))
            (λ i q key. sym (came_last q key) i)
            (subst (Filled final)
            (begins.unworked s round (λ u. None) (λ u. refl) s.part.push worked_all)
            (idle (λ u. None) (came_after others own) final worked_all (λ u. refl) last_is
            (subst (λ x. place < x) (sym (all_length others worked_own))
            (subst (λ x. place < x) (sym length_own) size)) all_filled))

      -- ---- all that it holds
      abbrev left : State
      left = record s {
        held = emptied names state.held;
        partials = all_worked s round (own_first ruling.Sparse (sends_from s round) ++ map (kept_sends s round) others)
            state.partials;
      }

      goes : state.ruling ≡ ruling.Sparse → core_go s ≡ moved closing left
      goes is_sparse =
          ap (λ q. moved (standing_at round (after_begin round q))
          (let w : State = record s {
            held = emptied names state.held;
            partials = all_worked s round (own_first q (sends_from s round) ++ map (kept_sends s round) others)
                state.partials;
          } in w)) is_sparse

      unnamed : (ks : List ℕ) → has_name (verdict_name round m) (map of ks) ≡ false
      unnamed [] = refl
      unnamed (k ∷ ks) = unnamed ks

      verdict_stays : found (verdict_name round m) (emptied names state.held) ≡ found (verdict_name round m) state.held
      verdict_stays = still_whole names (verdict_name round m) state.held (unnamed others)

      known_stays : known (moved closing left) ≡ known s
      known_stays = ap (λ o. if m == 0 then nat_le 1 round else is_some o) verdict_stays

      totals_stay : known_totals (moved closing left) ≡ known_totals s
      totals_stay =
          ap (λ o. if m == 0 then state.judged.totals else (judged_read (total_count src.split) (body_of o)).totals)
          verdict_stays

      held_on : (q : NameKind) (l : Letter) → (q ≡ kind.Push → l.body ≡ []) → HoldsBody q src at l →
          HoldsBody q src closing l
      held_on kind.Refresh l empty h = h
      held_on kind.Dep l empty h = λ late. h (still_ahead at closing l.name (omega arith) late)
      held_on kind.Update l empty h = h
      held_on kind.Push l empty h = inl (empty refl)
      held_on kind.Tally l empty h = h
      held_on kind.Verdict l empty h = h

      is_push : (x : Name) → has_name x names ≡ true → x.kind ≡ kind.Push
      is_push x named =
          let one = has_map_cases of others x (has_from_name x names named) in sym (ap (λ z. z.kind) one.2)

      is_named : (x : Name) → IsPushName src m round x → has_name x names ≡ true
      is_named x push =
          ap (λ z. has_name z names) push.name
          ∙ name_from_has (of push.sender) names
          (has_map of others push.sender (has_others p m push.sender runs.machine push.machine push.other))

      bodies_on : (held : List Letter) → PushesAreNamed src m round held →
          AllByRecursion (λ l. HoldsBody l.name.kind src at l) held →
          AllByRecursion (λ l. HoldsBody l.name.kind src closing l) (emptied names held)
      bodies_on [] named all = tt
      bodies_on (y ∷ ys) named all = (by (has_name y.name names) refl, bodies_on ys named.1 all.1)
        where
          by : (b : Bool) → has_name y.name names ≡ b →
              HoldsBody (if b then record y { body = [] } else y).name.kind src closing
              (if b then record y { body = [] } else y)
          by true is =
              subst (λ q. HoldsBody q src closing (let w : Letter = record y { body = [] } in w))
              (sym (is_push y.name is)) (inl refl)
          by false is =
              held_on y.name.kind y (λ e. absurd (true≢false (sym (is_named y.name (named.0 e)) ∙ is))) all.0

      same_ring : (v : ℕ) → ring_held src m at v ≡ ring_held src m closing v
      same_ring v =
          ap (λ q. if is_dense q && is_past at (chunk_of m m p) (half_at src m v) then state_at src round v m p
          else fresh src.split) rules
          ∙ ap (λ q. if is_dense q && is_past closing (chunk_of m m p) (half_at src m v) then state_at src round v m p
          else fresh src.split) (sym rules)

      same_reads : (v : ℕ) → reads_held src m at v ≡ reads_held src m closing v
      same_reads v =
          let c : ℕ = owner_of ends v in
          ap (λ q. if is_dense q && is_past at (chunk_of m c p) (half_at src c v)
          then (ideal_ran src round v c (chunk_of m c p)).reads else []) rules
          ∙ ap (λ q. if is_dense q && is_past closing (chunk_of m c p) (half_at src c v)
          then (ideal_ran src round v c (chunk_of m c p)).reads else []) (sym rules)

      many_left : length left.partials ≡ length state.partials
      many_left =
          all_length others (worked s round (sends_from s round) s.part.push state.partials)
          ∙ worked_length s round (start_of ends m) (sends_from s round) (omega arith) s.part.push state.partials

      begun : PushesAreNamed src m round state.held → IsIdeal src m (moved closing left)
      begun named = record {
        part = refl;
        split = refl;
        rows = is.rows;
        ruling = λ still. is.ruling (sym known_stays ∙ still);
        totals = λ still. totals_stay ∙ is.totals (sym known_stays ∙ still);
        bodies = bodies_on state.held named is.bodies;
        many = many_left ∙ is.many;
        partials = filled_last;
        ring = λ carries. is.ring carries
            ∙ map_same (ring_held src m at) (ring_held src m closing) (chunk_vertices ends m)
            (all_true _ same_ring (chunk_vertices ends m));
        reading = is.reading
            ∙ map_same (reads_held src m at) (reads_held src m closing) (targets_of s.part)
            (all_true _ same_reads (targets_of s.part));
        reads = is.reads;
        judged = is.judged;
        report = is.report;
      }

pub begins_sparse : BeginsSparse
begins_sparse src sparse most m round state runs is begin sparse_round words named =
    let t : State = s src sparse most m round state runs in
    let same : state ≡ t = begins.state_is src m round state is begin.spot in
    let ideal : IsIdeal src m t = subst (IsIdeal src m) same is in
    let knows : known t ≡ true = ap known (sym same) ∙ begin.knows in
    let rules : state.ruling ≡ ruling.Sparse = ideal.ruling knows ∙ sparse_round in
    subst (λ x. IsIdeal src m (core_go x)) (sym same)
    (subst (IsIdeal src m) (sym (goes src sparse most m round state runs ideal knows sparse_round words rules))
    (begun src sparse most m round state runs ideal knows sparse_round words named))
