-- A machine that takes an ideal message in its turn, by the message's kind.
use Rattle.std.proofs.Common.{◌≡◌, ◌≢◌, inl, inr, ◌<◌, ◌≤◌, ◌+◌, ◌-◌, ◌*◌, ◌^◌, ℕ, zero, suc, ℤ, true, false, List, [], ◌∷◌, refl, sym, ap, subst, ◌∙◌, FitsSigned, w64, Some, arith, ⊎_elim}
use Rattle.std.specs.Prelude.{◌==◌, ◌&&◌, is_some, nat_le, nat_lt}
use Rattle.std.specs.List.{AllByRecursion, Contains}
use Rattle.std.proofs.lemmas.Bool.{and_parts, cases_Bool, eq-eqb, eqb-true, leb-true, ltb-true, true≢false}
use Rattle.vert_base.specs.declared.message.Name.{Name}
use Rattle.vert_base.specs.declared.message.NameKind.{NameKind}
use Rattle.vert_base.specs.declared.message.NameKind.TheVariants as kind
use Rattle.vert_base.specs.declared.value.Ruling.{Ruling}
use Rattle.vert_base.specs.declared.value.Ruling.TheVariants as ruling
use Rattle.vert_base.specs.Letters.{Letter}
use Rattle.vert_tree.specs.declared.program.Dense.{Dense}
use Rattle.vert_tree.specs.declared.program.Sparse.{Sparse}
use Rattle.vert_eval.specs.Values.{word_at}
use Rattle.circulant_plan.specs.declared.spot.Spot.{Spot}
use Rattle.circulant_plan.specs.declared.spot.Spot.TheVariants.{Tell, Judge, Begin, Scan, Close, Over}
use Rattle.circulant_plan.specs.Deliveries.{HasSpot, needed_of_kind, place_at, sent_of_kind}
use Rattle.circulant_plan.specs.Names.{push_name, refresh_name, verdict_name}
use Rattle.circulant_plan.specs.Ring.{chunk_of, order_of}
use Rattle.circulant_plan.specs.Skeleton.{is_over}
use Rattle.circulant_plan.specs.Standing.{place_of, round_of}
use Rattle.circulant_plan.specs.Table.{begin_gives, gives_of, others_of}
use Rattle.circulant_plan.proofs.CircleLaws.{each_ring_turns}
use Rattle.circulant_plan.proofs.Members.{Has, has_from_contains, has_map_cases}
use Rattle.symple_face.specs.CoreSight.{known, program_of}
use Rattle.symple_face.specs.CoreWork.{core_take}
use Rattle.symple_face.specs.Ideal.{ideal_body, machines_of}
use Rattle.symple_face.specs.PartsOf.{part_of}
use Rattle.symple_face.specs.Plans.{blocks_of, concerns, goes_by_plan, is_half, is_in_range, is_planned, is_whole, serves}
use Rattle.symple_face.specs.Source.{Source, stand}
use Rattle.symple_face.specs.State.{IsTakeable, State}
use Rattle.round_laws.specs.FoldPushes.{IsPush}
use Rattle.round_laws.specs.FoldUpdates.{IsUpdate}
use Rattle.round_laws.specs.IsIdeal.{IsIdeal, awaits_begin, is_open}
use Rattle.round_laws.proofs.FoldPushes.{takes_pushes_at_once, takes_pushes_early}
use Rattle.round_laws.proofs.FoldTakes.{takes_kept}
use Rattle.round_laws.proofs.FoldUpdates.{takes_updates}
use Rattle.round_laws.proofs.FoldVerdicts.{takes_verdicts}
use Rattle.work_laws.specs.Sound.{core_sound}
use Rattle.work_laws.proofs.Held.{planned_apart, shape_parts}
use Rattle.schedule_laws.specs.Events.{IsInTurn, IsTrue, TakesOn, ring_in}
use Rattle.schedule_laws.specs.Runs.{IsSourceRun}
use Rattle.schedule_laws.proofs.DenseRounds.{runs_sparse}
use Rattle.schedule_laws.proofs.SourceSees.{runs, sends_words_all, splits, suits}
use Rattle.schedule_laws.proofs.Stands.{few, stands_in_words, total_length}
use Rattle.schedule_laws.proofs.Took.{took_on}
use Rattle.state_laws.proofs.Options.{some_of}

pub all_words : (words : List ℤ) → ((i : ℕ) → FitsSigned w64 (word_at words i)) → AllByRecursion (FitsSigned w64) words
all_words [] each = tt
all_words (x ∷ xs) each = (each zero, all_words xs (λ i. each (suc i)))

-- a machine that isn't past the close of a round is in it
open_before : (x : Spot) (r : ℕ) → r ≡ round_of r x → is_over x ≡ false → 1 ≤ r →
    place_of (record { spot = x; round = r }) ≤ 256 * r + 254 → is_open x ≡ true
open_before Tell r is going some le = absurd (omega (arith, is, some))
open_before (Judge k) r is going some le = absurd (omega (arith, le))
open_before (Begin k) r is going some le = refl
open_before (Scan k step h) r is going some le = refl
open_before (Close k dense) r is going some le = refl
open_before Over r is going some le = cc

-- and one that isn't past its begin is at it
begin_before : (x : Spot) (r : ℕ) → r ≡ round_of r x → is_over x ≡ false → 1 ≤ r →
    place_of (record { spot = x; round = r }) ≤ 256 * r → x ≡ Begin r
begin_before Tell r is going some le = absurd (omega (arith, is, some))
begin_before (Judge k) r is going some le = absurd (omega (arith, le))
begin_before (Begin k) r is going some le = ap Begin (sym is)
begin_before (Scan k step h) r is going some le = absurd (omega (arith, le))
begin_before (Close k dense) r is going some le = absurd (omega (arith, le))
begin_before Over r is going some le = cc

module _ (src : Source) (run : IsSourceRun src) (m : ℕ) (machine : m < machines_of src) (state : State) (l : Letter)
  where
    abbrev p : ℕ
    p = machines_of src

    abbrev s : State
    s = record state {
      part = part_of src.job.graph.ends src.job.draws src.job.graph.edges m;
      split = src.split;
    }

    abbrev r : ℕ
    r = state.at.round

    abbrev x : Name
    x = l.name

    module _ (holds : IsTrue src m s) (sound : core_sound s) (can : IsTakeable s l) (turn : IsInTurn src s.at l.name)
        (body : l.body ≡ ideal_body src l.name) where
      planned : is_planned src.split p m x ≡ true
      planned = (shape_parts src.split s.part x can.shape can.has).0

      by_plan : (concerns p m x ≡ true) × ((goes_by_plan (ring_in src) x.kind x ≡ true)
          × ((serves (blocks_of src.split) x.kind ≡ true)
          × (is_in_range (blocks_of src.split).limit x.kind x.round ≡ true)))
      by_plan =
          let a = and_parts (concerns p m x) _ planned in
          let b = and_parts (goes_by_plan (ring_in src) x.kind x) _ a.1 in
          let c = and_parts (serves (blocks_of src.split) x.kind) _ b.1 in
          (a.0, (b.0, (c.0, c.1)))

      sender : x.from < p
      sender = (planned_apart src.split p m x planned).0

      other : x.from ≢ m
      other e =
          true≢false (sym (eq-eqb x.from x.to (e ∙ sym can.here)) ∙ (planned_apart src.split p m x planned).2)

      -- it has no more to do than to become ideal, unless the message is a push
      stays : (k : NameKind) → x.kind ≡ k → (k ≡ kind.Push → ⊥) → IsIdeal src m (core_take s l) →
          IsTrue src m (core_take s l)
      stays k is no_push ideal =
          took_on src m s l holds can.going ideal (λ e. absurd (no_push (sym is ∙ e)))

      -- the round takes place
      module _ (k : NameKind) (is : x.kind ≡ k)
          (range : is_in_range (program_of src.split).limit k x.round ≡ true →
          (1 ≤ x.round) × (x.round ≤ (program_of src.split).limit)) where
        placed : (1 ≤ r) × (r ≤ (program_of src.split).limit)
        placed =
            subst (λ q. (1 ≤ q) × (q ≤ (program_of src.split).limit)) can.round
            (range (subst (λ q. is_in_range (program_of src.split).limit q x.round ≡ true) is by_plan.1.1.1))

        small : r < 2 ^ 31
        small =
            let low : r ≤ src.job.program.limit = subst (λ q. r ≤ q.limit) run.program placed.1 in
            let all = few src run in
            omega (arith, low, all)

      between : (r limit : ℕ) → (nat_le 1 r && nat_le r limit) ≡ true → (1 ≤ r) × (r ≤ limit)
      between r limit e =
          let both = and_parts (nat_le 1 r) (nat_le r limit) e in (leb-true 1 r both.0, leb-true r limit both.1)

      -- ---- an update
      update : x.kind ≡ kind.Update → IsTrue src m (core_take s l)
      update is =
          stays kind.Update is (λ e. cc)
          (takes_updates src block.0 64 m s l (runs src run r low block.0 block.1) run.ends run.sized machine
          (λ v lt. splits src run r low block.0 v lt block.1) holds.ideal told body)
        where
          place : (1 ≤ r) × (r ≤ (program_of src.split).limit)
          place = placed kind.Update is (between x.round (program_of src.split).limit)

          low : r < 2 ^ 31
          low = small kind.Update is (between x.round (program_of src.split).limit)

          served : (blocks_of src.split).dense ≡ true
          served = subst (λ q. serves (blocks_of src.split) q ≡ true) is by_plan.1.1.0

          block : (d : Dense) × (src.job.program.dense ≡ Some d)
          block = some_of src.job.program.dense (subst (λ q. is_some q.dense ≡ true) run.program served)

          plan : (is_half p x && x.to == chunk_of x.from x.step p) ≡ true
          plan = subst (λ q. goes_by_plan (ring_in src) q x ≡ true) is by_plan.1.0

          half : (nat_lt x.step (p - 1) ≡ true) × (nat_le x.half 1 ≡ true)
          half = and_parts (nat_lt x.step (p - 1)) (nat_le x.half 1) (and_parts (is_half p x) _ plan).0

          early : x.step + 1 < p
          early = let lt = ltb-true x.step (p - 1) half.0 in omega (arith, lt)

          to_is : m ≡ chunk_of x.from x.step p
          to_is = sym can.here ∙ eqb-true x.to (chunk_of x.from x.step p) (and_parts (is_half p x) _ plan).1

          from_is : order_of m x.step p ≡ x.from
          from_is =
              ap (λ c. order_of c x.step p) to_is
              ∙ (each_ring_turns p run.ends.0).machine x.from x.step sender (omega (arith, early))

          mode : (stand src r).ruling ≡ ruling.Dense
          mode =
              let some = place.0 in
              let at_round = can.round in
              let spot = (turn.sent (λ e. let wrong : kind.Update ≡ kind.Verdict = sym is ∙ e in cc)
              (omega (arith, some, at_round))).0 in
              ap (λ q. (stand src q).ruling) (sym can.round)
              ∙ (subst (λ q. HasSpot (ring_in src) x.from (stand src x.round).ruling
              (sent_of_kind q (stand src x.round).ruling x)) is spot).3

          told : IsUpdate src m s l
          told = record {
            step = x.step;
            half = x.half;
            early = early;
            halves = leb-true x.half 1 half.1;
            name = λ i. record {
              kind = is i;
              round = can.round i;
              step = x.step;
              half = x.half;
              from = sym from_is i;
              to = can.here i;
            };
            other = λ e. other (sym from_is ∙ e);
            new = can.new;
            going = open_before state.at.spot r sound.round can.going place.0
                (subst (λ q. place_of state.at ≤ 256 * q + 254) can.round
                (subst (λ q. place_of state.at ≤ place_at (needed_of_kind q p x)) is turn.not_past));
            dense = mode;
            suits = suits src run r low block.0 block.1 m (order_of m x.step p) x.half x.step;
          }

      -- ---- a push
      push : x.kind ≡ kind.Push → IsTrue src m (core_take s l)
      push is =
          took_on src m s l holds can.going ideal
          (λ e. (mode, record { sender = x.from; machine = sender; other = other; name = name_is }))
        where
          place : (1 ≤ r) × (r ≤ (program_of src.split).limit)
          place = placed kind.Push is (between x.round (program_of src.split).limit)

          low : r < 2 ^ 31
          low = small kind.Push is (between x.round (program_of src.split).limit)

          served : (blocks_of src.split).sparse ≡ true
          served = subst (λ q. serves (blocks_of src.split) q ≡ true) is by_plan.1.1.0

          block : (d : Sparse) × (src.job.program.sparse ≡ Some d)
          block = some_of src.job.program.sparse (subst (λ q. is_some q.sparse ≡ true) run.program served)

          plan : (x.step == 0 && x.half == 0) ≡ true
          plan = subst (λ q. goes_by_plan (ring_in src) q x ≡ true) is by_plan.1.0

          parts : ((x.step == 0) ≡ true) × ((x.half == 0) ≡ true)
          parts = and_parts (x.step == 0) (x.half == 0) plan

          name_is : x ≡ push_name r x.from m
          name_is = λ i. record {
            kind = is i;
            round = can.round i;
            step = eqb-true x.step 0 parts.0 i;
            half = eqb-true x.half 0 parts.1 i;
            from = x.from;
            to = can.here i;
          }

          -- only in a sparse round does a machine send it
          by_mode : (q : Ruling) → Has (begin_gives p x.from x.round q) x → q ≡ ruling.Sparse
          by_mode ruling.Stop has = absurd has
          by_mode ruling.Dense has =
              let one = has_map_cases (refresh_name x.round x.from) (others_of p x.from) x has in
              let wrong : kind.Refresh ≡ kind.Push = ap (λ z. z.kind) one.2 ∙ is in
              cc
          by_mode ruling.Sparse has = refl

          mode : (stand src r).ruling ≡ ruling.Sparse
          mode =
              let some = place.0 in
              let at_round = can.round in
              let sent = (turn.sent (λ e. let wrong : kind.Push ≡ kind.Verdict = sym is ∙ e in cc)
              (omega (arith, some, at_round))).1 in
              ap (λ q. (stand src q).ruling) (sym can.round)
              ∙ by_mode (stand src x.round).ruling
              (has_from_contains _ x
              (subst (λ q. Contains (gives_of (ring_in src) x.from (sent_of_kind q (stand src x.round).ruling x)
              (stand src x.round).ruling) x) is sent))

          told : IsPush src m s l
          told = record {
            sender = x.from;
            machine = sender;
            other = other;
            name = name_is;
            new = can.new;
            sparse = mode;
            words = sends_words_all src run r low x.from m;
          }

          going : is_open state.at.spot ≡ true
          going =
              open_before state.at.spot r sound.round can.going place.0
              (subst (λ q. place_of state.at ≤ 256 * q + 254) can.round
              (subst (λ q. place_of state.at ≤ place_at (needed_of_kind q p x)) is turn.not_past))

          ideal : IsIdeal src m (core_take s l)
          ideal =
              ⊎_elim
              (λ (knows : known s ≡ true).
              takes_pushes_at_once src block.0 64 m s l (runs_sparse src run block.0 m block.1 machine) holds.ideal told
              knows going body)
              (λ (unknown : known s ≡ false).
              takes_pushes_early src block.0 64 m s l (runs_sparse src run block.0 m block.1 machine) holds.ideal told
              unknown (waits unknown) body)
              (cases_Bool (known s))
            where
              waits : known s ≡ false → awaits_begin state.at.spot ≡ true
              waits unknown =
                  ⊎_elim (λ (yes : awaits_begin state.at.spot ≡ true). yes)
                  (λ (no : awaits_begin state.at.spot ≡ false).
                  absurd (true≢false (sym (holds.knows going no) ∙ unknown)))
                  (cases_Bool (awaits_begin state.at.spot))

      -- ---- a verdict
      verdict : x.kind ≡ kind.Verdict → IsTrue src m (core_take s l)
      verdict is =
          stays kind.Verdict is (λ e. cc)
          (takes_verdicts src m s l (λ zero_machine. other (from_is ∙ sym zero_machine)) holds.ideal at_begin
          (total_length src run r, all_words (stand src r).totals (stands_in_words src run r low).totals) name_is body)
        where
          range : (1 ≤ r) × (r ≤ (program_of src.split).limit + 1)
          range =
              subst (λ q. (1 ≤ q) × (q ≤ (program_of src.split).limit + 1)) can.round
              (between x.round ((program_of src.split).limit + 1)
              (subst (λ q. is_in_range (program_of src.split).limit q x.round ≡ true) is by_plan.1.1.1))

          low : r ≤ 2 ^ 31
          low =
              let within : r ≤ src.job.program.limit + 1 = subst (λ q. r ≤ q.limit + 1) run.program range.1 in
              let all = few src run in
              omega (arith, within, all)

          plan : ((x.step == 0 && x.half == 0) && x.from == 0) ≡ true
          plan = subst (λ q. goes_by_plan (ring_in src) q x ≡ true) is by_plan.1.0

          whole : ((x.step == 0) ≡ true) × ((x.half == 0) ≡ true)
          whole = and_parts (x.step == 0) (x.half == 0) (and_parts (is_whole x) (x.from == 0) plan).0

          from_is : x.from ≡ 0
          from_is = eqb-true x.from 0 (and_parts (is_whole x) (x.from == 0) plan).1

          name_is : x ≡ verdict_name r m
          name_is = λ i. record {
            kind = is i;
            round = can.round i;
            step = eqb-true x.step 0 whole.0 i;
            half = eqb-true x.half 0 whole.1 i;
            from = from_is i;
            to = can.here i;
          }

          at_begin : state.at.spot ≡ Begin r
          at_begin =
              begin_before state.at.spot r sound.round can.going range.0
              (subst (λ q. place_of state.at ≤ 256 * q) can.round
              (let le = subst (λ q. place_of state.at ≤ place_at (needed_of_kind q p x)) is turn.not_past in
              omega (arith, le)))

      -- ---- any message
      takes : (k : NameKind) → x.kind ≡ k → IsTrue src m (core_take s l)
      takes kind.Refresh is = stays kind.Refresh is (λ e. cc) (takes_kept src m s l holds.ideal (inl is) body)
      takes kind.Dep is = stays kind.Dep is (λ e. cc) (takes_kept src m s l holds.ideal (inr (inl is)) body)
      takes kind.Update is = update is
      takes kind.Push is = push is
      takes kind.Tally is = stays kind.Tally is (λ e. cc) (takes_kept src m s l holds.ideal (inr (inr is)) body)
      takes kind.Verdict is = verdict is

pub takes_on : TakesOn
takes_on src m state l run machine sound holds can turn body =
    let t : State = s src run m machine state l in
    let same : state ≡ t = λ i. record state { part = holds.ideal.part i; split = holds.ideal.split i } in
    subst (λ x. IsTrue src m (core_take x l)) (sym same)
    (takes src run m machine state l (subst (IsTrue src m) same holds) (subst core_sound same sound)
    (subst (λ x. IsTakeable x l) same can) (subst (λ x. IsInTurn src x.at l.name) same turn) body l.name.kind refl)
