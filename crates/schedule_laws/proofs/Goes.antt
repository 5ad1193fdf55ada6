-- What a ready machine does, by its spot.
use Rattle.std.proofs.Common.{◌≡◌, ◌≢◌, ◌⊎◌, inl, inr, ◌<◌, ◌≤◌, ◌+◌, ◌-◌, ◌^◌, ℕ, Bool, true, false, List, [], ◌∷◌, refl, sym, ap, subst, ◌∙◌, Some, arith, ⊎_elim}
use Rattle.std.specs.Prelude.{◌==◌, if◌then◌else◌, is_some, map, nat_le, nat_lt}
use Rattle.std.specs.List.{AllByRecursion, range_with_len}
use Rattle.std.proofs.lemmas.Bool.{and_parts, cases_lt, eq-eqb, eqb-true, leb-true, ltb-true, true≢false}
use Rattle.std.proofs.lemmas.Bool.Decides.{nat_tests}
use Rattle.vert_base.specs.declared.message.Name.{Name}
use Rattle.vert_base.specs.declared.message.NameKind.TheVariants as kind
use Rattle.vert_base.specs.declared.value.Ruling.{Ruling}
use Rattle.vert_base.specs.declared.value.Ruling.TheVariants as ruling
use Rattle.vert_base.specs.Letters.{Letter, found}
use Rattle.vert_tree.specs.declared.program.Dense.{Dense}
use Rattle.vert_tree.specs.declared.program.Sparse.{Sparse}
use Rattle.vert_eval.specs.Rounds.{row_at}
use Rattle.circulant_plan.specs.declared.spot.Spot.{Spot}
use Rattle.circulant_plan.specs.declared.spot.Spot.TheVariants.{Tell, Judge, Begin, Scan, Close, Over}
use Rattle.circulant_plan.specs.Names.{push_name, update_name, verdict_name}
use Rattle.circulant_plan.specs.Ring.{order_of}
use Rattle.circulant_plan.specs.Skeleton.{may_rule}
use Rattle.circulant_plan.specs.Standing.{round_of, standing_at}
use Rattle.circulant_plan.specs.Table.{after_begin, after_judge, others_of, updates_to}
use Rattle.circulant_plan.proofs.Members.{Has, has_flat_map, has_map, has_others, has_range}
use Rattle.symple_face.specs.declared.action.Action.TheVariants.{Ready}
use Rattle.symple_face.specs.CoreClose.{closed_rows}
use Rattle.symple_face.specs.CoreJudge.{core_judge}
use Rattle.symple_face.specs.CoreSight.{known, program_of}
use Rattle.symple_face.specs.CoreWork.{core_go}
use Rattle.symple_face.specs.Ideal.{ideal_reads, machines_of}
use Rattle.symple_face.specs.Parts.{chunk_vertices}
use Rattle.symple_face.specs.Plans.{blocks_of}
use Rattle.symple_face.specs.PartsOf.{part_of}
use Rattle.symple_face.specs.Source.{Source, stand}
use Rattle.symple_face.specs.State.{State, action_of, first_missing, waiting_for}
use Rattle.round_laws.specs.FoldBegins.{BeginsRound, PushesAreNamed}
use Rattle.round_laws.specs.FoldJudge.{IsCountedRound}
use Rattle.round_laws.specs.FoldScan.{IsDenseRound, StandsAtScan}
use Rattle.round_laws.specs.IdealClose.{ClosesDenseRound, ClosesSparseRound}
use Rattle.round_laws.specs.IsIdeal.{IsIdeal, reads_held}
use Rattle.round_laws.specs.Sent.{SendsIdeal}
use Rattle.round_laws.proofs.FoldBegins.{begins_dense}
use Rattle.round_laws.proofs.FoldBeginsSparse.{begins_sparse}
use Rattle.round_laws.proofs.FoldCloses.{closes_and_goes_on, closes_to_judge, dense_reads_ideal, sparse_reads_ideal}
use Rattle.round_laws.proofs.FoldJudge.{judges_and_goes_on}
use Rattle.round_laws.proofs.FoldScan.{scans_and_goes_on}
use Rattle.round_laws.proofs.FoldScanHeld.{ready_one, ready_rest}
use Rattle.round_laws.proofs.FoldTells.{tells_and_goes_on}
use Rattle.round_laws.proofs.IdealClose.{dense_rows_ideal}
use Rattle.round_laws.proofs.IdealSparse.{sparse_rows_ideal}
use Rattle.round_laws.proofs.SentBegin.{begin_sends_ideal}
use Rattle.round_laws.proofs.SentScan.{scan_sends_ideal}
use Rattle.round_laws.proofs.SentTallies.{close_sends_ideal, judge_sends_ideal, tell_sends_ideal}
use Rattle.work_laws.specs.Sound.{core_sound}
use Rattle.schedule_laws.specs.Events.{GoesOn, IsTrue, PushesAreHeld}
use Rattle.schedule_laws.specs.Runs.{IsSourceRun}
use Rattle.schedule_laws.proofs.Counts.{counted_round}
use Rattle.schedule_laws.proofs.DenseRounds.{dense_round, runs_sparse}
use Rattle.schedule_laws.proofs.Onward.{onward}
use Rattle.schedule_laws.proofs.SourceSees.{runs, sends_words_all, splits}
use Rattle.schedule_laws.proofs.Stands.{few}
use Rattle.state_laws.proofs.Options.{some_of}

-- what a ready machine needs is held
all_there : (xs : List Name) (held : List Letter) → waiting_for (first_missing xs held) ≡ Ready → (x : Name) →
    Has xs x → is_some (found x held) ≡ true
all_there [] held ready x has = absurd has
all_there (y ∷ ys) held ready x (inl e) =
    subst (λ z. is_some (found z held) ≡ true) e (ready_one y ys held ready)
all_there (y ∷ ys) held ready x (inr has) = all_there ys held (ready_rest y ys held ready) x has

-- what a machine does: it is true behind its act, and sends ideal messages
abbrev Acts : Source → ℕ → State → Type 0
Acts src m s = IsTrue src m (core_go s) × SendsIdeal src s

module _ (src : Source) (run : IsSourceRun src) (m : ℕ) (machine : m < machines_of src) (state : State) where
  abbrev p : ℕ
  p = machines_of src

  abbrev limit : ℕ
  limit = (program_of src.split).limit

  -- the state at a spot
  abbrev stood : Spot → ℕ → State
  stood x r = record state {
    part = part_of src.job.graph.ends src.job.draws src.job.graph.edges m;
    split = src.split;
    at = record { spot = x; round = r };
  }

  within : (r : ℕ) → r ≤ limit → r ≤ src.job.program.limit
  within r le = subst (λ q. r ≤ q.limit) run.program le

  small : (r : ℕ) → r ≤ limit → r < 2 ^ 31
  small r le = let low = within r le in let all = few src run in omega (arith, low, all)

  from_base : (r : ℕ) → 1 ≤ r → (src.base ≡ 1) ⊎ (src.base ≤ r) → src.base ≤ r
  from_base r some begun =
      ⊎_elim (λ (one : src.base ≡ 1). omega (arith, one, some)) (λ (le : src.base ≤ r). le) begun

  -- ---- before the first round
  tell : IsTrue src m (stood Tell 0) → Acts src m (stood Tell 0)
  tell holds =
      let s : State = stood Tell 0 in
      let positive = run.base in
      let one : src.base ≡ 1 =
      ⊎_elim (λ (is : src.base ≡ 1). is) (λ (le : src.base ≤ 0). absurd (omega (arith, positive, le))) holds.begun in (
        by (m == 0) refl (tells_and_goes_on src m s holds.ideal refl),
        tell_sends_ideal src 64 m s (counted_round src run 0 (omega arith) (inl one)) machine holds.ideal refl,
      )
    where
      by : (b : Bool) → (m == 0) ≡ b → IsIdeal src m (core_go (stood Tell 0)) → IsTrue src m (core_go (stood Tell 0))
      by true zero_machine ideal =
          onward src m (stood Tell 0) (record { spot = Judge 0; round = 0 })
          (ap (λ b. standing_at 0 (if b then Judge 0 else Begin 1)) zero_machine) holds refl ideal (omega arith)
          (eqb-true m 0 zero_machine) (inr (inr (refl, refl, λ e. absurd (true≢false (sym e)))))
      by false other ideal =
          onward src m (stood Tell 0) (record { spot = Begin 1; round = 1 })
          (ap (λ b. standing_at 0 (if b then Judge 0 else Begin 1)) other) holds refl ideal (omega arith)
          (omega arith) (inl refl)

  -- ---- the judge
  judge : (r : ℕ) → IsTrue src m (stood (Judge r) r) → r ≤ limit → action_of (stood (Judge r) r) ≡ Ready →
      Acts src m (stood (Judge r) r)
  judge r holds low ready = (by (core_judge (stood (Judge r) r)) refl, sends)
    where
      s : State
      s = stood (Judge r) r

      zero_machine : m ≡ 0
      zero_machine = holds.has

      counted : IsCountedRound src 64 r
      counted = counted_round src run r (within r low) holds.begun

      ideal : IsIdeal src m (core_go (stood (Judge r) r))
      ideal =
          subst (λ k. IsIdeal src k (core_go (stood (Judge r) r))) (sym zero_machine)
          (judges_and_goes_on src 64 r (stood (Judge r) r) counted
          (subst (λ k. IsIdeal src k (stood (Judge r) r)) zero_machine holds.ideal) refl ready)

      sends : SendsIdeal src (stood (Judge r) r)
      sends =
          judge_sends_ideal src 64 r (stood (Judge r) r) counted
          (subst (λ k. IsIdeal src k (stood (Judge r) r)) zero_machine holds.ideal) refl ready

      by : (q : Ruling) → core_judge (stood (Judge r) r) ≡ q → IsTrue src m (core_go (stood (Judge r) r))
      by ruling.Stop is =
          onward src m (stood (Judge r) r) (record { spot = Over; round = r + 1 })
          (ap (λ q. standing_at (r + 1) (after_judge r q)) is) holds refl ideal (omega arith) tt (inr (inl refl))
      by ruling.Dense is =
          onward src m (stood (Judge r) r) (record { spot = Begin (r + 1); round = r + 1 })
          (ap (λ q. standing_at (r + 1) (after_judge r q)) is) holds refl ideal (omega arith) (omega arith) (inl refl)
      by ruling.Sparse is =
          onward src m (stood (Judge r) r) (record { spot = Begin (r + 1); round = r + 1 })
          (ap (λ q. standing_at (r + 1) (after_judge r q)) is) holds refl ideal (omega arith) (omega arith) (inl refl)

  -- ---- the begin of a round
  begin : (r : ℕ) → IsTrue src m (stood (Begin r) r) → core_sound (stood (Begin r) r) →
      action_of (stood (Begin r) r) ≡ Ready → Acts src m (stood (Begin r) r)
  begin r holds sound ready = by (stand src r).ruling refl
    where
      -- the verdict was taken, and machine 0 knows its own
      knows : known (stood (Begin r) r) ≡ true
      knows = by (m == 0) refl ready
        where
          by : (b : Bool) → (m == 0) ≡ b →
              waiting_for (first_missing (if b then [] else verdict_name r m ∷ []) state.held) ≡ Ready →
              known (stood (Begin r) r) ≡ true
          by true is there =
              ap (λ b. if b then nat_le 1 r else is_some (found (verdict_name r m) state.held)) is
              ∙ (let some = sound.spot.0 in grind (arith, nat_tests, some))
          by false is there =
              ap (λ b. if b then nat_le 1 r else is_some (found (verdict_name r m) state.held)) is
              ∙ ready_one (verdict_name r m) [] state.held there

      rules : state.ruling ≡ (stand src r).ruling
      rules = holds.ideal.ruling knows

      may : (q : Ruling) → (stand src r).ruling ≡ q → may_rule (blocks_of src.split) r q ≡ true
      may q is = subst (λ x. may_rule (blocks_of src.split) r x ≡ true) (rules ∙ is) (sound.spot.2 knows).1

      at_begin : BeginsRound src m r (stood (Begin r) r)
      at_begin = record { spot = refl; knows = knows }

      sends : r ≤ limit → SendsIdeal src (stood (Begin r) r)
      sends low =
          begin_sends_ideal src 64 m r (stood (Begin r) r) (counted_round src run r (within r low) holds.begun) machine
          holds.ideal refl knows

      goes : (q : Ruling) → (stand src r).ruling ≡ q →
          (core_go (stood (Begin r) r)).at ≡ standing_at r (after_begin r q)
      goes q is = ap (λ x. standing_at r (after_begin r x)) (rules ∙ is)

      none : (stand src r).ruling ≡ ruling.Dense → (held : List Letter) → PushesAreHeld src m r held →
          AllByRecursion (λ l. l.name.kind ≢ kind.Push) held
      none dense [] all = tt
      none dense (y ∷ ys) all =
          ((λ e. let wrong : ruling.Dense ≡ ruling.Sparse = sym dense ∙ (all.0 e).0 in cc), none dense ys all.1)

      named : (held : List Letter) → PushesAreHeld src m r held → PushesAreNamed src m r held
      named [] all = tt
      named (y ∷ ys) all = ((λ e. (all.0 e).1), named ys all.1)

      by : (q : Ruling) → (stand src r).ruling ≡ q → Acts src m (stood (Begin r) r)
      by ruling.Stop is = absurd ((sound.spot.2 knows).0 (rules ∙ is))
      by ruling.Dense is =
          let both = and_parts (blocks_of src.split).dense (nat_le r limit) (may ruling.Dense is) in
          let low : r ≤ limit = leb-true r limit both.1 in
          let early : 0 < p = omega (arith, machine) in (
            onward src m (stood (Begin r) r) (record { spot = Scan r 0 0; round = r }) (goes ruling.Dense is) holds refl
                (begins_dense src m r (stood (Begin r) r) machine holds.ideal at_begin is
                (none is state.held (holds.pushes refl)))
                (omega arith) (sound.spot.0, early, omega arith, is) (inr (inr (refl, refl, λ e. knows))),
            sends low,
          )
      by ruling.Sparse is =
          let both = and_parts (blocks_of src.split).sparse (nat_le r limit) (may ruling.Sparse is) in
          let low : r ≤ limit = leb-true r limit both.1 in
          let block = some_of src.job.program.sparse (subst (λ q. is_some q.sparse ≡ true) run.program both.0) in (
            onward src m (stood (Begin r) r) (record { spot = Close r false; round = r }) (goes ruling.Sparse is) holds
                refl
                (begins_sparse src block.0 64 m r (stood (Begin r) r) (runs_sparse src run block.0 m block.1 machine)
                holds.ideal at_begin is (λ k low_k other. sends_words_all src run r (small r low) k m)
                (named state.held (holds.pushes refl)))
                (omega arith) (sound.spot.0, is) (inr (inr (refl, refl, λ e. knows))),
            sends low,
          )

  -- ---- a scan
  scan : (r step h : ℕ) → IsTrue src m (stood (Scan r step h) r) → core_sound (stood (Scan r step h) r) →
      action_of (stood (Scan r step h) r) ≡ Ready → Acts src m (stood (Scan r step h) r)
  scan r step h holds sound ready = (by (h == 0) refl (nat_lt step (p - 1)) refl, sends)
    where
      some : 1 ≤ r
      some = holds.has.0

      dense : (stand src r).ruling ≡ ruling.Dense
      dense = holds.has.3

      low : r ≤ limit
      low = sound.spot.1.1

      block : (d : Dense) × (src.job.program.dense ≡ Some d)
      block = some_of src.job.program.dense (subst (λ q. is_some q.dense ≡ true) run.program sound.spot.0)

      fits : IsDenseRound src block.0 64 r
      fits = dense_round src run r (small r low) block.0 block.1 dense

      knows : known (stood (Scan r step h) r) ≡ true
      knows = holds.knows refl refl

      stands : StandsAtScan src m r step h (stood (Scan r step h) r)
      stands = record {
        machine = machine;
        early = holds.has.1;
        half = holds.has.2;
        at = refl;
        knows = knows;
        ready = ready;
      }

      ideal : IsIdeal src m (core_go (stood (Scan r step h) r))
      ideal = scans_and_goes_on src block.0 64 m r step h (stood (Scan r step h) r) fits stands holds.ideal

      sends : SendsIdeal src (stood (Scan r step h) r)
      sends = scan_sends_ideal src block.0 64 m r step h (stood (Scan r step h) r) fits stands holds.ideal

      by : (b : Bool) → (h == 0) ≡ b → (c : Bool) → nat_lt step (p - 1) ≡ c →
          IsTrue src m (core_go (stood (Scan r step h) r))
      by true first c e =
          onward src m (stood (Scan r step h) r) (record { spot = Scan r step 1; round = r })
          (ap (λ b. standing_at r (if b then Scan r step 1 else if nat_lt step (p - 1) then Scan r (step + 1) 0
          else Close r true)) first)
          holds refl ideal (omega arith) (some, holds.has.1, omega arith, dense) (inr (inr (refl, refl, λ x. knows)))
      by false second true e =
          let early : step + 1 < p = (let lt = ltb-true step (p - 1) e in omega (arith, lt)) in
          onward src m (stood (Scan r step h) r) (record { spot = Scan r (step + 1) 0; round = r })
          (ap (λ b. standing_at r (if b then Scan r step 1 else if nat_lt step (p - 1) then Scan r (step + 1) 0
          else Close r true)) second
          ∙ ap (λ c. standing_at r (if c then Scan r (step + 1) 0 else Close r true)) e)
          holds refl ideal (omega arith) (some, early, omega arith, dense) (inr (inr (refl, refl, λ x. knows)))
      by false second false e =
          onward src m (stood (Scan r step h) r) (record { spot = Close r true; round = r })
          (ap (λ b. standing_at r (if b then Scan r step 1 else if nat_lt step (p - 1) then Scan r (step + 1) 0
          else Close r true)) second
          ∙ ap (λ c. standing_at r (if c then Scan r (step + 1) 0 else Close r true)) e)
          holds refl ideal (omega arith) (some, dense) (inr (inr (refl, refl, λ x. knows)))

  -- ---- the close of a round
  abbrev Rows : ℕ → Bool → Type 0
  Rows r dense =
      closed_rows (stood (Close r dense) r) r dense
      ≡ map (row_at (stand src (r + 1)).rows) (chunk_vertices src.job.graph.ends m)

  abbrev Reads : ℕ → Bool → Type 0
  Reads r dense =
      (v : ℕ) → reads_held src m (record { spot = Close r dense; round = r }) v ≡ ideal_reads src r m v

  -- machine 0 of this state goes to the judge
  to_judge : (r : ℕ) (dense : Bool) → IsIdeal src m (stood (Close r dense) r) → Rows r dense → Reads r dense →
      m ≡ 0 → IsIdeal src m (core_go (stood (Close r dense) r))
  to_judge r dense ideal rows reads zero_is =
      subst (λ k. IsIdeal src k (core_go (stood (Close r dense) r))) (sym zero_is)
      (closes_to_judge src r dense (stood (Close r dense) r)
      (subst (λ k. IsIdeal src k (stood (Close r dense) r)) zero_is ideal) refl
      (rows ∙ ap (λ k. map (row_at (stand src (r + 1)).rows) (chunk_vertices src.job.graph.ends k)) zero_is)
      (subst (λ k. (v : ℕ) → reads_held src k (record { spot = Close r dense; round = r }) v ≡ ideal_reads src r k v)
      zero_is reads))

  close : (r : ℕ) (dense : Bool) → IsTrue src m (stood (Close r dense) r) → r ≤ limit → Rows r dense →
      Reads r dense → Acts src m (stood (Close r dense) r)
  close r dense holds low rows reads = (by (m == 0) refl, sends)
    where
      sends : SendsIdeal src (stood (Close r dense) r)
      sends =
          close_sends_ideal src 64 m r dense (stood (Close r dense) r)
          (counted_round src run r (within r low) holds.begun) machine holds.ideal refl rows reads

      by : (b : Bool) → (m == 0) ≡ b → IsTrue src m (core_go (stood (Close r dense) r))
      by true zero_machine =
          let zero_is : m ≡ 0 = eqb-true m 0 zero_machine in
          onward src m (stood (Close r dense) r) (record { spot = Judge r; round = r })
          (ap (λ b. standing_at r (if b then Judge r else Begin (r + 1))) zero_machine) holds refl
          (to_judge r dense holds.ideal rows reads zero_is)
          (omega arith) zero_is (inr (inr (refl, refl, λ e. absurd (true≢false (sym e)))))
      by false other =
          onward src m (stood (Close r dense) r) (record { spot = Begin (r + 1); round = r + 1 })
          (ap (λ b. standing_at r (if b then Judge r else Begin (r + 1))) other) holds refl
          (closes_and_goes_on src m r dense (stood (Close r dense) r)
          (λ e. true≢false (sym (eq-eqb m 0 e) ∙ other)) holds.ideal refl rows reads)
          (omega arith) (omega arith) (inl refl)

  close_dense : (r : ℕ) → IsTrue src m (stood (Close r true) r) → core_sound (stood (Close r true) r) →
      action_of (stood (Close r true) r) ≡ Ready → Acts src m (stood (Close r true) r)
  close_dense r holds sound ready =
      close r true holds low
      (dense_rows_ideal src block.0 64 m r (stood (Close r true) r) (runs src run r (small r low) block.0 block.1)
      run.ends (omega arith) run.sized machine (λ v lt. splits src run r (small r low) block.0 v lt block.1) holds.ideal
      closing)
      (λ v. dense_reads_ideal src 64 m r v run.ends (omega arith) (from_base r some holds.begun) dense)
    where
      some : 1 ≤ r
      some = holds.has.0

      dense : (stand src r).ruling ≡ ruling.Dense
      dense = holds.has.1

      low : r ≤ limit
      low = sound.spot.1.1

      block : (d : Dense) × (src.job.program.dense ≡ Some d)
      block = some_of src.job.program.dense (subst (λ q. is_some q.dense ≡ true) run.program sound.spot.0)

      halves : (step h : ℕ) → h ≤ 1 →
          Has (update_name r step 0 (order_of m step p) m ∷ update_name r step 1 (order_of m step p) m ∷ [])
          (update_name r step h (order_of m step p) m)
      halves step h le =
          ⊎_elim
          (λ (none : h < 1).
          let is : 0 ≡ h = omega (arith, none) in inl (ap (λ x. update_name r step x (order_of m step p) m) is))
          (λ (some_half : 1 ≤ h).
          let is : 1 ≡ h = omega (arith, some_half, le) in
          inr (inl (ap (λ x. update_name r step x (order_of m step p) m) is)))
          (cases_lt h 1)

      closing : ClosesDenseRound src m r (stood (Close r true) r)
      closing = record {
        spot = refl;
        dense = dense;
        begun = from_base r some holds.begun;
        knows = holds.knows refl refl;
        taken = λ step h early le.
            all_there (updates_to p r m) state.held ready (update_name r step h (order_of m step p) m)
            (has_flat_map
            (λ k. update_name r k 0 (order_of m k p) m ∷ update_name r k 1 (order_of m k p) m ∷ [])
            (range_with_len 0 (p - 1)) step (update_name r step h (order_of m step p) m)
            (has_range 0 (p - 1) step (omega arith) (omega (arith, early))) (halves step h le));
      }

  close_sparse : (r : ℕ) → IsTrue src m (stood (Close r false) r) → core_sound (stood (Close r false) r) →
      action_of (stood (Close r false) r) ≡ Ready → Acts src m (stood (Close r false) r)
  close_sparse r holds sound ready =
      close r false holds low
      (sparse_rows_ideal src block.0 64 m r (stood (Close r false) r) run.program block.1 run.ends run.sized machine
      holds.ideal closing)
      (λ v. sparse_reads_ideal src m r v (from_base r some holds.begun) sparse)
    where
      some : 1 ≤ r
      some = holds.has.0

      sparse : (stand src r).ruling ≡ ruling.Sparse
      sparse = holds.has.1

      low : r ≤ limit
      low = sound.spot.1.1

      block : (x : Sparse) × (src.job.program.sparse ≡ Some x)
      block = some_of src.job.program.sparse (subst (λ q. is_some q.sparse ≡ true) run.program sound.spot.0)

      closing : ClosesSparseRound src m r (stood (Close r false) r)
      closing = record {
        spot = refl;
        sparse = sparse;
        begun = from_base r some holds.begun;
        knows = holds.knows refl refl;
        taken = λ k low_k other.
            all_there (map (λ j. push_name r j m) (others_of p m)) state.held ready (push_name r k m)
            (has_map (λ j. push_name r j m) (others_of p m) k (has_others p m k machine low_k other));
      }

  -- ---- any spot
  acts : (x : Spot) (r : ℕ) → r ≡ round_of r x → IsTrue src m (stood x r) → core_sound (stood x r) →
      action_of (stood x r) ≡ Ready → Acts src m (stood x r)
  acts Tell r is holds sound ready =
      subst (λ k. IsTrue src m (stood Tell k) → Acts src m (stood Tell k)) (sym is) tell holds
  acts (Judge k) r is holds sound ready =
      subst (λ r. IsTrue src m (stood (Judge k) r) → action_of (stood (Judge k) r) ≡ Ready →
      Acts src m (stood (Judge k) r)) (sym is) (λ h. judge k h sound.spot.1) holds ready
  acts (Begin k) r is holds sound ready =
      subst (λ r. IsTrue src m (stood (Begin k) r) → core_sound (stood (Begin k) r) →
      action_of (stood (Begin k) r) ≡ Ready → Acts src m (stood (Begin k) r)) (sym is) (begin k) holds sound ready
  acts (Scan k step h) r is holds sound ready =
      subst (λ r. IsTrue src m (stood (Scan k step h) r) → core_sound (stood (Scan k step h) r) →
      action_of (stood (Scan k step h) r) ≡ Ready → Acts src m (stood (Scan k step h) r)) (sym is) (scan k step h)
      holds sound ready
  acts (Close k true) r is holds sound ready =
      subst (λ r. IsTrue src m (stood (Close k true) r) → core_sound (stood (Close k true) r) →
      action_of (stood (Close k true) r) ≡ Ready → Acts src m (stood (Close k true) r)) (sym is) (close_dense k)
      holds sound ready
  acts (Close k false) r is holds sound ready =
      subst (λ r. IsTrue src m (stood (Close k false) r) → core_sound (stood (Close k false) r) →
      action_of (stood (Close k false) r) ≡ Ready → Acts src m (stood (Close k false) r)) (sym is) (close_sparse k)
      holds sound ready
  acts Over r is holds sound ready = cc

pub goes_on : GoesOn
goes_on src m state run machine sound holds ready =
    let t : State = stood src run m machine state state.at.spot state.at.round in
    let same : state ≡ t = λ i. record state { part = holds.ideal.part i; split = holds.ideal.split i } in
    subst (Acts src m) (sym same)
    (acts src run m machine state state.at.spot state.at.round sound.round (subst (IsTrue src m) same holds)
    (subst core_sound same sound) (subst (λ s. action_of s ≡ Ready) same ready))
