-- The first states of machines are what the source's run says, anew and from a start.
use Rattle.std.proofs.Common.{◌≡◌, inl, inr, ◌<◌, ◌+◌, ◌-◌, ℕ, ℤ, Bool, true, false, List, [], ◌∷◌, length, map, refl, sym, ap, subst, ◌∙◌, None, Some, arith, ⊎_elim}
use Rattle.std.specs.Prelude.{◌==◌, if◌then◌else◌, nat_le, slice_index, slice_index_or}
use Rattle.std.specs.List.{AllByRecursion}
use Rattle.std.proofs.lemmas.Bool.{cases_Bool, eq-eqb, true≢false}
use Rattle.std.proofs.lemmas.Bool.Decides.{nat_tests}
use Rattle.std.proofs.lemmas.List.{length-map}
use Rattle.std.proofs.lemmas.List.FromFn.{get_or-map-range_with_len}
use Rattle.vert_base.specs.declared.graph.Edge.{Edge}
use Rattle.vert_base.specs.declared.message.Name.{Name}
use Rattle.vert_base.specs.declared.message.NameKind.TheVariants as kind
use Rattle.vert_base.specs.declared.value.Row.{Row}
use Rattle.vert_base.specs.Ends.{start_of}
use Rattle.vert_base.specs.Letters.{Letter, found}
use Rattle.vert_base.specs.Names.{same_name}
use Rattle.vert_base.proofs.LetterLaws.{names_law}
use Rattle.vert_tree.specs.declared.program.Program.{Program}
use Rattle.slot_merge.specs.Filled.{AreFilled}
use Rattle.vert_eval.specs.declared.environment.Env.{Env}
use Rattle.vert_eval.specs.Rounds.{Scene, empty_row, env_at, row_at}
use Rattle.vert_eval.specs.SourceRun.{Job, first_row, scene_of, with_row}
use Rattle.vert_eval.specs.Values.{value_of}
use Rattle.vert_eval.specs.Words.{is_set}
use Rattle.graph_table.proofs.FilterLaws.{all_range, all_true, map_same}
use Rattle.circulant_plan.specs.Names.{verdict_name}
use Rattle.circulant_plan.specs.Ring.{lies_in}
use Rattle.circulant_plan.specs.Standing.{first_standing}
use Rattle.circulant_plan.proofs.NameLists.{same_as_self}
use Rattle.instrument.specs.declared.split.Split.{Split}
use Rattle.body_shape.specs.Refresh.{IsWords}
use Rattle.body_shape.specs.Verdict.{judged_read, verdict_body}
use Rattle.body_shape.proofs.VerdictLaws.{verdict_back}
use Rattle.symple_face.specs.CoreFirst.{body_at_start, core_first, core_restarted, first_row_of, held_at_start, no_sums}
use Rattle.symple_face.specs.CoreScan.{fresh}
use Rattle.symple_face.specs.CoreSight.{body_of, degree_of, known_totals, part_sight, program_of, targets_of, total_count}
use Rattle.symple_face.specs.CoreTakes.{empty_partials}
use Rattle.symple_face.specs.Ideal.{ideal_body, ideal_reads, reads_by}
use Rattle.symple_face.specs.Parts.{PlainPart, chunk_vertices, degree_in}
use Rattle.symple_face.specs.PartsOf.{known_of, part_of}
use Rattle.symple_face.specs.Sight.{Sight, seen_env}
use Rattle.symple_face.specs.Source.{Source, fresh_source, resumed_source, stand, stand_after}
use Rattle.symple_face.specs.State.{State, Sums}
use Rattle.symple_face.specs.Work.{PlainStart}
use Rattle.symple_face.proofs.ChunkLaws.{lies_high, lies_is, lies_low, lies_within}
use Rattle.round_laws.specs.IsIdeal.{HoldsBody, IsIdeal, came_words, keys_below, reads_held, ring_held}
use Rattle.round_laws.specs.Partials.{partial_ops}
use Rattle.round_laws.proofs.FoldCloses as closes
use Rattle.round_laws.proofs.Seen.{seen_environment}
use Rattle.round_laws.proofs.Sights.{degree_known}
use Rattle.round_laws.proofs.Vertices.{own_law}
use Rattle.schedule_laws.specs.Events.{IsTrue, PushesAreHeld}
use Rattle.schedule_laws.specs.Firsts.{FirstIsTrue, RestartedIsTrue}
use Rattle.schedule_laws.specs.Runs.{IsSourceRun}
use Rattle.schedule_laws.proofs.Takes.{all_words}

no_way : (b : Bool) → (if b then false else false) ≡ true → ⊥
no_way true e = cc
no_way false e = cc

module _ (job : Job) (split : Split) (m : ℕ) (machine : m < length job.graph.ends) where
  abbrev ends : List ℕ
  ends = job.graph.ends

  abbrev edges : List Edge
  edges = job.graph.edges

  abbrev own : List ℕ
  own = chunk_vertices ends m

  abbrev part : PlainPart
  part = part_of ends job.draws edges m

  -- what is made for each own vertex stands beside it
  made_at : {X : Type 0} (f : ℕ → X) (d : X) (v : ℕ) → lies_in ends m v ≡ true →
      slice_index_or (map f own) (v - start_of ends m) d ≡ f v
  made_at f d v lies =
      let a : ℕ = start_of ends m in
      let low = lies_low ends m v lies in
      let high = lies_high ends m v lies in
      get_or-map-range_with_len f a (slice_index ends m - a) (v - a) v d (omega (arith, low, high)) (omega (arith, low))

  -- ---- before the first round
  module _ (run : IsSourceRun (fresh_source job split)) where
    abbrev src : Source
    src = fresh_source job split

    abbrev s : State
    s = core_first part split

    abbrev sc : Scene
    sc = scene_of job 0 [] []

    abbrev g : Sight
    g = part_sight part 0 [] (λ v. empty_row)

    degree_is : (v : ℕ) → lies_in ends m v ≡ true → degree_of part v ≡ degree_in edges edges v
    degree_is v lies =
        degree_known edges edges (known_of ends edges m) v (own_law 64 ends edges m v run.ends machine lies)

    env_is : (v : ℕ) → lies_in ends m v ≡ true → seen_env g v 0 [] ≡ env_at sc v []
    env_is v lies =
        seen_environment g sc v 0 []
        (record { n = sym run.sized; round = refl; draws = refl; totals = refl })
        (record {
          row = refl;
          ins = ap (λ d. d.ins) (degree_is v lies);
          outs = ap (λ d. d.outs) (degree_is v lies);
        })

    -- a first row in an environment
    abbrev row_in : Program → Env → Row
    row_in p env =
        let row : Row = record {
          words = record { items = map (λ d. value_of d.value env) p.fields.items };
          active = false;
        }
        in
        record row { active = is_set (value_of p.start (with_row row env)) }

    row_is : (v : ℕ) → lies_in ends m v ≡ true → first_row_of part split v ≡ row_at (stand src 1).rows v
    row_is v lies =
        let low = lies_within 64 ends run.ends m v machine lies in
        let size = run.sized in
        ap (row_in (program_of split)) (env_is v lies)
        ∙ ap (λ p. row_in p (env_at sc v [])) run.program
        ∙ sym (get_or-map-range_with_len (first_row job) 0 job.graph.vertices v v empty_row (omega (arith, low, size))
        (omega arith))

    rows_are : map (first_row_of part split) own ≡ map (row_at (stand src 1).rows) own
    rows_are =
        map_same (first_row_of part split) (row_at (stand src 1).rows) own
        (all_range (λ v. first_row_of part split v ≡ row_at (stand src 1).rows v) (start_of ends m)
        (slice_index ends m - start_of ends m)
        (λ v low high. row_is v (lies_is (start_of ends m) (slice_index ends m) v low (omega (arith, low, high)))))

    first_ideal : IsIdeal src m s
    first_ideal = record {
      part = refl;
      split = refl;
      rows = rows_are;
      ruling = λ knows. absurd (no_way (m == 0) knows);
      totals = λ knows. absurd (no_way (m == 0) knows);
      bodies = tt;
      many = length-map own (λ v. empty_partials split);
      partials = λ v lies.
          subst (λ qs. AreFilled 0 (partial_ops split) (came_words src m first_standing [] v) (keys_below src) qs)
          (sym (made_at (λ x. empty_partials split) [] v lies))
          (closes.empty_filled 0 (partial_ops split) (came_words src m first_standing [] v) (keys_below src)
          (λ place key. refl));
      ring = λ carries. refl;
      reading = refl;
      reads = λ round e.
          let none : 0 ≡ round = omega (arith, e) in
          ap (λ r. map (ideal_reads src r m) (targets_of part)) none;
      judged = λ zero_machine some. absurd (omega (arith, some));
      report = λ round zero_machine e le. absurd (omega (arith, e));
    }

    pub first_true : IsTrue src m s
    first_true = record {
      ideal = first_ideal;
      begun = inl refl;
      has = tt;
      knows = λ e behind. absurd (true≢false (sym e));
      pushes = λ there. tt;
    }

  -- ---- from a start
  module _ (start : PlainStart) (run : IsSourceRun (resumed_source job split start)) where
    abbrev resumed : Source
    resumed = resumed_source job split start

    abbrev q : ℕ
    q = start.round

    abbrev restarted : State
    restarted = core_restarted part split start

    stand_is : stand resumed q ≡ resumed.from
    stand_is = let none : q - q ≡ 0 = omega arith in ap (stand_after resumed) none

    abbrev name : Name
    name = verdict_name q m

    abbrev verdict : Letter
    verdict = record { name = name; body = body_at_start start }

    -- of messages the verdict alone is held
    bare : (b : Bool) (x : Name) → (x.kind ≡ kind.Verdict → ⊥) → found x (if b then [] else verdict ∷ []) ≡ None
    bare true x other = refl
    bare false x other =
        ap (λ c. if c then Some verdict else None)
        (⊎_elim
        (λ (same : same_name name x ≡ true). absurd (other (sym (ap (λ y. y.kind) (names_law name x same)))))
        (λ (apart : same_name name x ≡ false). apart) (cases_Bool (same_name name x)))

    ideal_told : body_at_start start ≡ ideal_body resumed name
    ideal_told = ap (λ x. verdict_body (record { ruling = x.ruling; totals = x.totals })) (sym stand_is)

    bodies_are : (b : Bool) →
        AllByRecursion (λ l. HoldsBody l.name.kind resumed restarted.at l) (if b then [] else verdict ∷ [])
    bodies_are true = tt
    bodies_are false = (ideal_told, tt)

    pushes_are : (b : Bool) → PushesAreHeld resumed m q (if b then [] else verdict ∷ [])
    pushes_are true = tt
    pushes_are false = ((λ e. cc), tt)

    -- the totals are those of the start, at machine 0 and as the verdict tells them
    totals_are : (b : Bool) → (m == 0) ≡ b → known_totals restarted ≡ start.totals
    totals_are true is =
        ap (λ b. if b then (if b then record { active = start.active; edges = start.edges; totals = start.totals }
        else no_sums).totals
        else (judged_read (total_count split) (body_of (found name (held_at_start part start)))).totals) is
    totals_are false is =
        ap (λ b. if b then (if b then record { active = start.active; edges = start.edges; totals = start.totals }
        else no_sums).totals
        else (judged_read (total_count split) (body_of (found name (if b then [] else verdict ∷ [])))).totals) is
        ∙ ap (λ c. (judged_read (total_count split) (body_of (if c then Some verdict else None))).totals)
        (same_as_self name)
        ∙ ap (λ j. j.totals)
        (verdict_back (total_count split) (record { ruling = start.ruling; totals = start.totals }) words)
      where
        words : IsWords (total_count split) start.totals
        words = (
          run.totals ∙ sym (ap (λ p. length p.totals.items) run.program),
          all_words start.totals run.stands.totals,
        )

    early : (round : ℕ) → round + 1 ≡ q → nat_le q round ≡ false
    early round e = grind (arith, nat_tests, e)

    abbrev came : ℕ → ℕ → ℕ → List ℤ
    came v = came_words resumed m restarted.at restarted.held v

    none : (v place key : ℕ) → came v place key ≡ []
    none = closes.bare_words resumed m q restarted.held (bare (m == 0)) (stand resumed q).ruling

    restarted_ideal : IsIdeal resumed m restarted
    restarted_ideal = record {
      part = refl;
      split = refl;
      rows = ap (λ x. map (row_at x.rows) own) (sym stand_is);
      ruling = λ knows. ap (λ x. x.ruling) (sym stand_is);
      totals = λ knows. totals_are (m == 0) refl ∙ ap (λ x. x.totals) (sym stand_is);
      bodies = bodies_are (m == 0);
      many = length-map own (λ v. empty_partials split);
      partials = λ v lies.
          subst (AreFilled 0 (partial_ops split) (came v) (keys_below resumed))
          (sym (made_at (λ x. empty_partials split) [] v lies))
          (closes.empty_filled 0 (partial_ops split) (came v) (keys_below resumed) (none v));
      ring = λ carries.
          map_same (λ v. fresh split) (ring_held resumed m restarted.at) own
          (all_true _ (λ v. sym (closes.no_ring resumed m q v)) own);
      reading =
          map_same (λ v. []) (reads_held resumed m restarted.at) (targets_of part)
          (all_true _ (λ v. sym (closes.no_reads resumed m q v)) (targets_of part));
      reads = λ round e.
          map_same (λ v. []) (ideal_reads resumed round m) (targets_of part)
          (all_true _ (λ v. sym (ap (λ b. if b then reads_by resumed (stand resumed round).ruling round m v else [])
          (early round e))) (targets_of part));
      judged = λ zero_machine some.
          ap (λ b. if b then (let x : Sums = record {
            active = start.active;
            edges = start.edges;
            totals = start.totals;
          } in x) else no_sums) (eq-eqb m 0 zero_machine)
          ∙ ap (λ x. let y : Sums = record { active = x.active; edges = x.edges; totals = x.totals } in y)
          (sym stand_is);
      report = λ round zero_machine e le. absurd (omega (arith, e, le));
    }

    pub restarted_true : IsTrue resumed m restarted
    restarted_true = record {
      ideal = restarted_ideal;
      begun = inr (omega arith);
      has = run.base;
      knows = λ e behind. absurd (true≢false behind);
      pushes = λ there. pushes_are (m == 0);
    }

pub first_is_true : FirstIsTrue
first_is_true job split m run machine = first_true job split m machine run

pub restarted_is_true : RestartedIsTrue
restarted_is_true job split start m run machine = restarted_true job split m machine start run
