-- A scan at a vertex does what the machine of a step does by the source.
use Rattle.std.proofs.Common.{◌≡◌, ℕ, ◌+◌, ℤ, Bool, true, false, List, [], ◌∷◌, ◌++◌, length, map, refl, sym, ap, subst, ◌∙◌, Option, None, Some, append-nil}
use Rattle.std.specs.Prelude.{◌||◌, if◌then◌else◌, not, option_map, replicate}
use Rattle.vert_base.specs.declared.graph.Edge.{Edge}
use Rattle.vert_tree.specs.declared.program.Dense.{Dense}
use Rattle.vert_tree.specs.declared.program.SlotDecl.{SlotDecl}
use Rattle.slot_merge.specs.Combine.{slot_values}
use Rattle.vert_eval.specs.declared.environment.Env.{Env}
use Rattle.vert_eval.specs.declared.environment.Flow.{Flow}
use Rattle.vert_eval.specs.declared.environment.Flow.TheVariants.{Going, Broke}
use Rattle.vert_eval.specs.Rounds.{Scene, env_at, slot_ops}
use Rattle.vert_eval.specs.Runs.{Ran, leaves}
use Rattle.vert_eval.specs.Values.{value_of}
use Rattle.vert_eval.specs.Words.{is_set}
use Rattle.dep_layout.specs.Spelling.{State as LoopState}
use Rattle.instrument.specs.declared.split.Split.{Split}
use Rattle.instrument.specs.Continued.{IsSplit, segment}
use Rattle.instrument.specs.Loops.{loop_split}
use Rattle.instrument.specs.Segments.{begun, given, with_neutral, with_received, with_words}
use Rattle.value_laws.specs.Blind.{AlikeRuns, SameButKey}
use Rattle.value_laws.proofs.Blind.{lets_keyed, loop_keyed, value_keyed}
use Rattle.symple_face.specs.CoreSight.{none, program_of}
use Rattle.symple_face.specs.CoreTakes.{unsent}
use Rattle.symple_face.specs.CoreScan.{Scanned, is_broken, mark_after, passed, scanned, scanned_by, segment_seen, sent_by_segment, told_words}
use Rattle.symple_face.specs.Ideal.{told_state}
use Rattle.symple_face.specs.Ring.{RingState, Fresh, Running, Broken, operands, state_of, state_with, step_ran, step_state}
use Rattle.symple_face.specs.Shapes.{reduced_in}
use Rattle.symple_face.specs.Sight.{Sight, seen_env}
use Rattle.round_laws.specs.Scans.{Sees, SeesLoop, ScansAfresh, ScansAs, ScansTheRing, ran_behind, ring_after, width_of}
use Rattle.round_laws.proofs.Lets.{unmarked_none}
use Rattle.round_laws.proofs.Seen.{loop_seen, seen_environment}
use Rattle.round_laws.proofs.Steps.{begins_afresh, grows}

-- ---- nothing sent
no_values_are : (at : ℕ) (slots : List SlotDecl) →
    replicate (length slots) None ≡ slot_values at (map (λ s. s.op) slots) []
no_values_are at [] = refl
no_values_are at (x ∷ xs) = ap (λ os. None ∷ os) (no_values_are (at + 1) xs)

no_operands_are : (env : Env) → env.touched ≡ 0 → (places : List ℕ) →
    replicate (length places) None ≡ operands places env
no_operands_are env unmarked [] = refl
no_operands_are env unmarked (place ∷ places) =
    ap (λ os. None ∷ os) (no_operands_are env unmarked places)
    ∙ ap (λ o. o ∷ operands places env) (sym (unmarked_none env place unmarked))

-- the places of the reduced lets are those of the loop's split
pub reduced_are : (split : Split) (d : Dense) (env : Env) → IsSplit (program_of split) d env →
    reduced_in split.dense ≡ (loop_split d).reduced.items
reduced_are split d env h = ap reduced_in (split.split ∙ ap (option_map loop_split) h.dense)

pub nothing_is_sent : (split : Split) (d : Dense) (env : Env) → IsSplit (program_of split) d env → env.touched ≡ 0 →
    unsent split ≡ sent_by_segment split d (leaves env)
nothing_is_sent split d env h unmarked = λ i. record {
  values = no_values_are 0 (program_of split).slots.items i;
  operands =
      (ap (λ places. replicate (length places) None) (reduced_are split d env h)
      ∙ no_operands_are env unmarked (loop_split d).reduced.items) i;
}

same_either : {X : Type 0} (b : Bool) (x : X) → x ≡ (if b then x else x)
same_either true x = refl
same_either false x = refl

-- ---- at a vertex with members
told_with : (width : ℕ) (flow : Flow) (words : List ℤ) →
    (let st : LoopState = record { mark = mark_after flow; words = words } in st) ≡
    told_state width (state_with flow words)
told_with width Going words = refl
told_with width Broke words = refl

module _ (split : Split) (d : Dense) (g : Sight) (s : Scene) (key v : ℕ) (e : Edge) (es : List Edge)
    (h : IsSplit (program_of split) d (env_at s v (none split))) (sees : SeesLoop g s v (e ∷ es)) where
  abbrev env : Env
  env = env_at s v (none split)

  abbrev seen : Env
  seen = seen_env g v key (none split)

  keyed : SameButKey env seen
  keyed = seen_environment g s v key (none split) sees.scene sees.vertex

  begun_keyed : (received : Option (List ℤ)) →
      SameButKey (begun (loop_split d) d.lets.items received env) (begun (loop_split d) d.lets.items received seen)
  begun_keyed received =
      let cs = (loop_split d).classes.locals.items in
      ap (λ first. let b : Env = record
      (with_words (with_neutral cs (with_received cs received first.locals.items)) first) { touched = 0 } in b)
      (lets_keyed d.lets.items (record env { locals = record { items = [] } })
      (record seen { locals = record { items = [] } })
      (ap (λ x. let a : Env = record x { locals = record { items = [] } } in a) keyed))

  -- the segment that a machine runs is the source's
  alike : (st : LoopState) →
      AlikeRuns SameButKey (segment s d env (told_words st) (e ∷ es)) (segment_seen d g (e ∷ es) st seen)
  alike st =
      subst (AlikeRuns SameButKey (segment s d env (told_words st) (e ∷ es)))
      (sym (loop_seen g s d.body.items (e ∷ es) (begun (loop_split d) d.lets.items (told_words st) seen) sees.sources))
      (loop_keyed s d.body.items (e ∷ es) (begun (loop_split d) d.lets.items (told_words st) env)
      (begun (loop_split d) d.lets.items (told_words st) seen) (begun_keyed (told_words st)))

  scanned_alike : (x y : Ran) → AlikeRuns SameButKey x y → scanned_by split d y ≡ scanned_by split d x
  scanned_alike x y same = λ i. record {
    state = record { mark = mark_after (same.flow i); words = given (loop_split d) (same.env i) };
    sent =
        record {
          values = slot_values 0 (slot_ops (program_of split)) (same.emitted i);
          operands = operands (loop_split d).reduced.items (same.env i);
        };
    reads = same.reads i;
  }

  -- where the test is true and the loop didn't break
  scan_runs : (st : LoopState) → is_broken st.mark ≡ false → is_set (value_of d.when_test env) ≡ true →
      scanned split d g key (e ∷ es) v st ≡ scanned_by split d (segment s d env (told_words st) (e ∷ es))
  scan_runs st going test =
      ap (λ b. if b || not (is_set (value_of d.when_test seen)) then passed split st
      else scanned_by split d (segment_seen d g (e ∷ es) st seen)) going
      ∙ ap (λ x. if not (is_set x) then passed split st else scanned_by split d (segment_seen d g (e ∷ es) st seen))
      (value_keyed d.when_test env seen keyed)
      ∙ ap (λ b. if not b then passed split st else scanned_by split d (segment_seen d g (e ∷ es) st seen)) test
      ∙ scanned_alike (segment s d env (told_words st) (e ∷ es)) (segment_seen d g (e ∷ es) st seen) (alike st)

  abbrev scan_from : RingState → Scanned
  scan_from rs = scanned split d g key (e ∷ es) v (told_state (width_of split) rs)

  ran_as : (rs : RingState) (ran : Ran) → scan_from rs ≡ scanned_by split d ran →
      ((scan_from rs).state ≡ told_state (width_of split) (state_with ran.flow (given (loop_split d) ran.env)))
      × ScansAs split d (scan_from rs) ran
  ran_as rs ran is = (
    ap (λ x. x.state) is ∙ told_with (width_of split) ran.flow (given (loop_split d) ran.env),
    record { sent = ap (λ x. x.sent) is; reads = ap (λ x. x.reads) is },
  )

  -- from a ring state, where the test is true
  scans_on : is_set (value_of d.when_test env) ≡ true → (rs : RingState) →
      ((scan_from rs).state ≡ told_state (width_of split) (step_state s d env (e ∷ es) rs))
      × ScansAs split d (scan_from rs) (step_ran s d env (e ∷ es) rs)
  scans_on test Fresh =
      ran_as Fresh (segment s d env None (e ∷ es)) (scan_runs (told_state (width_of split) Fresh) refl test)
  scans_on test (Running words) =
      ran_as (Running words) (segment s d env (Some words) (e ∷ es))
      (scan_runs (told_state (width_of split) (Running words)) refl test)
  scans_on test (Broken words) =
      (refl, record { sent = nothing_is_sent split d env h refl; reads = refl })

  -- where the test is false the state is passed on
  passes_by : is_set (value_of d.when_test env) ≡ false → scan_from Fresh ≡
      passed split (told_state (width_of split) Fresh)
  passes_by test =
      let st : LoopState = told_state (width_of split) Fresh in
      ap (λ x. if not (is_set x) then passed split st else scanned_by split d (segment_seen d g (e ∷ es) st seen))
      (value_keyed d.when_test env seen keyed)
      ∙ ap (λ b. if not b then passed split st else scanned_by split d (segment_seen d g (e ∷ es) st seen)) test

-- ---- the scan of the ring
module _ (split : Split) (d : Dense) (g : Sight) (s : Scene) (key v : ℕ)
    (h : IsSplit (program_of split) d (env_at s v (none split))) where
  abbrev at_v : Env
  at_v = env_at s v (none split)

  abbrev told : RingState → LoopState
  told rs = told_state (width_of split) rs

  abbrev scan : List Edge → RingState → Scanned
  scan members rs = scanned split d g key members v (told rs)

  abbrev IsScan : List Edge → List Edge → Type 0
  IsScan before members =
      ((scan members (ring_after s d at_v before)).state ≡ told (ring_after s d at_v (before ++ members)))
      × ScansAs split d (scan members (ring_after s d at_v before)) (ran_behind s d at_v before members)

  -- without members
  none_there : (rs : RingState) (before : List Edge) → ScansAs split d (scan [] rs) (ran_behind s d at_v before [])
  none_there rs before = record {
    sent = nothing_is_sent split d at_v h refl
        ∙ ap (sent_by_segment split d) (same_either (is_set (value_of d.when_test at_v)) (leaves at_v));
    reads = ap (λ r. r.reads) (same_either (is_set (value_of d.when_test at_v)) (leaves at_v));
  }

  with_test : (before : List Edge) (e : Edge) (es : List Edge) → Sees g s v (e ∷ es) →
      (t : Bool) → is_set (value_of d.when_test at_v) ≡ t → IsScan before (e ∷ es)
  with_test before e es sees true test =
      let chosen : (members : List Edge) → ring_after s d at_v members ≡ state_of s d at_v members =
      λ members. ap (λ b. if b then state_of s d at_v members else Fresh) test in
      let runs = scans_on split d g s key v e es h sees test (state_of s d at_v before) in
      let ran : ran_behind s d at_v before (e ∷ es) ≡ step_ran s d at_v (e ∷ es) (state_of s d at_v before) =
      ap (λ b. if b then step_ran s d at_v (e ∷ es) (state_of s d at_v before) else leaves at_v) test in (
        ap (λ rs. (scan (e ∷ es) rs).state) (chosen before) ∙ runs.0
            ∙ ap told ((grows s d at_v (program_of split) h before (e ∷ es)).state ∙ sym (chosen (before ++ (e ∷ es)))),
        record {
          sent = ap (λ rs. (scan (e ∷ es) rs).sent) (chosen before) ∙ runs.1.sent
              ∙ ap (sent_by_segment split d) (sym ran);
          reads = ap (λ rs. (scan (e ∷ es) rs).reads) (chosen before) ∙ runs.1.reads ∙ ap (λ r. r.reads) (sym ran);
        },
      )
  with_test before e es sees false test =
      let fresh_yet : (members : List Edge) → ring_after s d at_v members ≡ Fresh =
      λ members. ap (λ b. if b then state_of s d at_v members else Fresh) test in
      let by : scan (e ∷ es) (ring_after s d at_v before) ≡ passed split (told Fresh) =
      ap (scan (e ∷ es)) (fresh_yet before) ∙ passes_by split d g s key v e es h sees test in
      let ran : ran_behind s d at_v before (e ∷ es) ≡ leaves at_v =
      ap (λ b. if b then step_ran s d at_v (e ∷ es) (state_of s d at_v before) else leaves at_v) test in (
        ap (λ x. x.state) by ∙ ap told (sym (fresh_yet (before ++ (e ∷ es)))),
        record {
          sent = ap (λ x. x.sent) by ∙ nothing_is_sent split d at_v h refl ∙ ap (sent_by_segment split d) (sym ran);
          reads = ap (λ x. x.reads) by ∙ ap (λ r. r.reads) (sym ran);
        },
      )

  scans_ring : (before members : List Edge) → Sees g s v members → IsScan before members
  scans_ring before [] sees =
      (ap (λ m. told (ring_after s d at_v m)) (sym (append-nil before)), none_there (ring_after s d at_v before) before)
  scans_ring before (e ∷ es) sees = with_test before e es sees (is_set (value_of d.when_test at_v)) refl

  module _ (free : (loop_split d).carry ≡ None) where
    fresh_test : (before : List Edge) (e : Edge) (es : List Edge) → Sees g s v (e ∷ es) →
        (t : Bool) → is_set (value_of d.when_test at_v) ≡ t →
        ScansAs split d (scan (e ∷ es) Fresh) (ran_behind s d at_v before (e ∷ es))
    fresh_test before e es sees true test =
        let runs = scans_on split d g s key v e es h sees test Fresh in
        let ran : ran_behind s d at_v before (e ∷ es) ≡ step_ran s d at_v (e ∷ es) Fresh =
        ap (λ b. if b then step_ran s d at_v (e ∷ es) (state_of s d at_v before) else leaves at_v) test
        ∙ begins_afresh s d at_v (program_of split) h free before (e ∷ es) in
        record {
          sent = runs.1.sent ∙ ap (sent_by_segment split d) (sym ran);
          reads = runs.1.reads ∙ ap (λ r. r.reads) (sym ran);
        }
    fresh_test before e es sees false test =
        let by : scan (e ∷ es) Fresh ≡ passed split (told Fresh) = passes_by split d g s key v e es h sees test in
        let ran : ran_behind s d at_v before (e ∷ es) ≡ leaves at_v =
        ap (λ b. if b then step_ran s d at_v (e ∷ es) (state_of s d at_v before) else leaves at_v) test in
        record {
          sent = ap (λ x. x.sent) by ∙ nothing_is_sent split d at_v h refl ∙ ap (sent_by_segment split d) (sym ran);
          reads = ap (λ x. x.reads) by ∙ ap (λ r. r.reads) (sym ran);
        }

    scans_fresh : (before members : List Edge) → Sees g s v members →
        ScansAs split d (scan members Fresh) (ran_behind s d at_v before members)
    scans_fresh before [] sees = none_there Fresh before
    scans_fresh before (e ∷ es) sees = fresh_test before e es sees (is_set (value_of d.when_test at_v)) refl

pub scans_the_ring : ScansTheRing
scans_the_ring split d g s key v before members h sees = scans_ring split d g s key v h before members sees

pub scans_afresh : ScansAfresh
scans_afresh split d g s key v before members h sees free = scans_fresh split d g s key v h free before members sees
