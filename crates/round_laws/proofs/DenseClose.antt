-- The close of a dense round at a vertex makes the source's row.
use Rattle.std.proofs.Common.{◌≡◌, ◌<◌, ◌+◌, ◌⊎◌, inl, inr, ℕ, suc, ℤ, Bool, true, false, List, [], ◌∷◌, ◌++◌, length, refl, sym, ap, subst, ◌∙◌, Option, None, append-nil, arith}
use Rattle.std.specs.Prelude.{drop, if◌then◌else◌, nat_lt, option_map, option_to_list, slice_index_or, take, unwrap_or}
use Rattle.std.specs.List.{flat_map, range_with_len}
use Rattle.std.proofs.lemmas.Bool.{eq-eqb, ne_eqb}
use Rattle.std.proofs.lemmas.List.{length-map}
use Rattle.vert_base.specs.declared.graph.Edge.{Edge}
use Rattle.vert_base.specs.declared.value.Combine.{Combine}
use Rattle.vert_base.specs.declared.value.Ruling.TheVariants as ruling
use Rattle.vert_base.specs.Neighbours.{ins_of}
use Rattle.vert_tree.specs.declared.program.Decl.{Decl}
use Rattle.vert_tree.specs.declared.program.Dense.{Dense}
use Rattle.vert_tree.specs.Places.{loop_rights}
use Rattle.carry_analysis.specs.declared.classes.Class.{Class}
use Rattle.carry_analysis.specs.declared.classes.Class.TheVariants.{Constant, Reduced, Carried}
use Rattle.carry_analysis.specs.Classes.{body_marks, carried_in}
use Rattle.slot_merge.specs.declared.partial.Partial.{Partial}
use Rattle.slot_merge.specs.Combine.{Emission, combined, slot_values, words_for}
use Rattle.slot_merge.specs.Filled.{AreFilled, with_more}
use Rattle.slot_merge.specs.Partials.{with_emissions}
use Rattle.slot_merge.proofs.FillLaws.{fills_emissions, has_value}
use Rattle.slot_merge.proofs.SlotLaws.{length-slot_values}
use Rattle.dep_layout.specs.Spelling.{State as LoopState}
use Rattle.vert_eval.specs.declared.environment.Env.{Env}
use Rattle.vert_eval.specs.declared.environment.Flow.{Flow}
use Rattle.vert_eval.specs.declared.environment.Flow.TheVariants.{Going, Broke}
use Rattle.vert_eval.specs.Frames.{SameFrame, beside}
use Rattle.vert_eval.specs.Rounds.{Scene, dense_block, dense_part, env_at, gathered, members_of, row_after, slot_ops, updated, with_lets}
use Rattle.vert_eval.specs.Runs.{Ran, leaves, run}
use Rattle.vert_eval.specs.Values.{value_of}
use Rattle.vert_eval.specs.Words.{is_set}
use Rattle.vert_eval.proofs.FrameLaws.{loop_keeps, loop_within}
use Rattle.circulant_plan.specs.Ring.{AreEndsUpTo, IsInChunk, members_by_steps}
use Rattle.circulant_plan.proofs.ReadingLaws.{not_below, reads_in_turn}
use Rattle.circulant_plan.proofs.SpanLaws.{is_below}
use Rattle.instrument.specs.declared.split.Split.{Split}
use Rattle.instrument.specs.Continued.{IsSplit, whole}
use Rattle.instrument.specs.Loops.{is_reduced, loop_split, places_where}
use Rattle.instrument.specs.Segments.{carried_words, given, only_lets, own_words, with_words}
use Rattle.instrument.proofs.SplitLaws.{length-own}
use Rattle.instrument.proofs.TypedLaws.{body_stands, length-let_classes}
use Rattle.order_laws.specs.Agreement.{SameButNeighbour}
use Rattle.value_laws.specs.Blind.{SameButKey}
use Rattle.value_laws.proofs.Blind.{lets_keyed, run_keyed, tail_anywhere, value_keyed}
use Rattle.symple_face.specs.CoreClose.{closed_row, closing_words, tail_at, tail_env, values_of}
use Rattle.symple_face.specs.CoreScan.{sent_by_segment, told_words}
use Rattle.symple_face.specs.CoreSight.{none, program_of}
use Rattle.symple_face.specs.CoreTakes.{classes_of, reduced_ops, slot_count}
use Rattle.symple_face.specs.Ideal.{told_state}
use Rattle.symple_face.specs.Ring.{Fresh, closing, combined_operands, machine_ran, operand_at, operand_words, operands, operands_by_steps, state_of, state_with, with_operand}
use Rattle.symple_face.specs.Sight.{Sight, seen_env}
use Rattle.round_laws.specs.DenseClose.{ClosesDense, ran_at}
use Rattle.round_laws.specs.Partials.{partial_ops, sent_words, step_buckets}
use Rattle.round_laws.specs.Scans.{ring_after, width_of}
use Rattle.round_laws.specs.Seen.{SeesScene, SeesVertex}
use Rattle.round_laws.proofs.DenseRound.{round_words}
use Rattle.round_laws.proofs.Lets.{lets_by_machines}
use Rattle.round_laws.proofs.Partials.{behind_at, filled_behind, filled_first, slot_value_at, slots_filled}
use Rattle.round_laws.proofs.Ranges.{joined_more, same_below}
use Rattle.vert_tree.proofs.ReadLaws.{tail_read}
use Rattle.round_laws.proofs.Seen.{seen_environment}
use Rattle.round_laws.proofs.Steps.{unhanded}

-- ---- the closing words
-- before anything was handed on, the own words stand
closing_own : (cs : List Class) (own : List ℤ) (came : List (Option ℤ)) → length cs ≡ length own →
    closing cs own [] came ≡ closing cs own (carried_words cs own) came
closing_own [] own came e = refl
closing_own (c ∷ cs) [] came e = refl
closing_own (Constant ∷ cs) (o ∷ own) came e = ap (λ l. o ∷ l) (closing_own cs own came (omega arith))
closing_own (Carried ∷ cs) (o ∷ own) came e = ap (λ l. o ∷ l) (closing_own cs own came (omega arith))
closing_own (Reduced op ∷ cs) (o ∷ own) [] e = ap (λ l. o ∷ l) (closing_own cs own [] (omega arith))
closing_own (Reduced op ∷ cs) (o ∷ own) (t ∷ came) e =
    ap (λ l. with_operand op o t ∷ l) (closing_own cs own came (omega arith))

-- where no let is carried, the words handed on don't count
closing_free : (cs : List Class) (own xs ys : List ℤ) (came : List (Option ℤ)) → nat_lt 0 (carried_in cs) ≡ false →
    closing cs own xs came ≡ closing cs own ys came
closing_free [] own xs ys came free = refl
closing_free (c ∷ cs) [] xs ys came free = refl
closing_free (Constant ∷ cs) (o ∷ own) xs ys came free = ap (λ l. o ∷ l) (closing_free cs own xs ys came free)
closing_free (Carried ∷ cs) (o ∷ own) xs ys came free =
    let some : nat_lt 0 (suc (carried_in cs)) ≡ true = is_below 0 (suc (carried_in cs)) (omega arith) in cc
closing_free (Reduced op ∷ cs) (o ∷ own) xs ys [] free = ap (λ l. o ∷ l) (closing_free cs own xs ys [] free)
closing_free (Reduced op ∷ cs) (o ∷ own) xs ys (t ∷ came) free =
    ap (λ l. with_operand op o t ∷ l) (closing_free cs own xs ys came free)

-- a loop that has begun tells its words
words_told : (width : ℕ) (flow : Flow) (words : List ℤ) →
    unwrap_or (told_words (told_state width (state_with flow words))) [] ≡ words
words_told width Going words = refl
words_told width Broke words = refl

-- ---- buckets of steps
-- what the keys below p bring
joined_steps : (bucket f : ℕ → List ℤ) (p : ℕ) → ((k : ℕ) → k < p → bucket k ≡ f k) →
    flat_map bucket (range_with_len 0 (p + 1)) ≡ flat_map f (range_with_len 0 p) ++ bucket p
joined_steps bucket f p same =
    let one : p + 1 ≡ suc p = omega arith in
    ap (λ k. flat_map bucket (range_with_len 0 k)) one ∙ joined_more bucket p
    ∙ ap (λ l. l ++ bucket p) (same_below bucket f p same)

nothing_joined : {X Y : Type 0} (ks : List X) → flat_map (λ (k : X). let none : List Y = [] in none) ks ≡ []
nothing_joined [] = refl
nothing_joined (k ∷ ks) = nothing_joined ks

-- the values of the partials of reduced lets
lets_filled :
    (p : ℕ) (left : ℕ → Env) (buckets : ℕ → ℕ → List ℤ) (at place : ℕ) (cs : List Class) (qs : List Partial) →
    AreFilled at (reduced_ops cs) buckets (p + 1) qs →
    ((j k : ℕ) → buckets (at + j) k ≡ (if nat_lt k p then option_to_list (slice_index_or (operands (places_where
    is_reduced place cs) (left k)) j None) else [])) →
    values_of qs ≡ combined_operands left (range_with_len 0 p) place cs
lets_filled p left buckets at place [] [] are each = refl
lets_filled p left buckets at place [] (q ∷ qs) are each = absurd are
lets_filled p left buckets at place (Constant ∷ cs) qs are each =
    lets_filled p left buckets at (place + 1) cs qs are each
lets_filled p left buckets at place (Carried ∷ cs) qs are each =
    lets_filled p left buckets at (place + 1) cs qs are each
lets_filled p left buckets at place (Reduced op ∷ cs) [] are each = absurd are
lets_filled p left buckets at place (Reduced op ∷ cs) (q ∷ qs) are each =
    let words : ℕ → List ℤ = λ k. option_to_list (operand_at place (left k)) in
    let here : at ≡ at + 0 = omega arith in
    let first : (k : ℕ) → buckets at k ≡ (if nat_lt k p then words k else []) = λ k. ap (λ i. buckets i k) here
    ∙ each 0 k in
    let below : (k : ℕ) → k < p → buckets at k ≡ words k =
    λ k lt. first k ∙ ap (λ b. if b then words k else []) (is_below k p lt) in
    let last : buckets at p ≡ [] = first p ∙ ap (λ b. if b then words p else []) (not_below p p (omega arith)) in
    let value : q.value ≡ combined op (operand_words left (range_with_len 0 p) place) =
    has_value op (buckets at) (p + 1) q are.0
    ∙ ap (combined op) (joined_steps (buckets at) words p below
    ∙ ap (λ l. flat_map words (range_with_len 0 p) ++ l) last ∙ append-nil (flat_map words (range_with_len 0 p))) in
    let next : (j : ℕ) → at + 1 + j ≡ at + suc j = λ j. omega arith in
    ap (λ o. o ∷ values_of qs) value
    ∙ ap (λ os. combined op (operand_words left (range_with_len 0 p) place) ∷ os)
    (lets_filled p left buckets (at + 1) (place + 1) cs qs are.1
    (λ j k. ap (λ i. buckets i k) (next j) ∙ each (suc j) k))

-- ---- environments
-- lets change nothing but the locals
pub only_locals : (ds : List Decl) (env : Env) → with_lets ds env ≡ record env { locals = (with_lets ds env).locals }
only_locals [] env = refl
only_locals (d ∷ ds) env =
    only_locals ds (record env { locals = record { items = env.locals.items ++ value_of d.value env ∷ [] } })

module _ (split : Split) (d : Dense) (g : Sight) (s : Scene) (p c v : ℕ)
    (h : IsSplit (program_of split) d (env_at s v (none split))) (all : SeesScene g s) (here : SeesVertex g s v)
    (are : AreEndsUpTo s.graph.vertices p s.graph.ends) (within : c < p) (lies : IsInChunk s.graph.ends c v) where
  abbrev env : Env
  env = env_at s v (none split)

  abbrev ins : List Edge
  ins = ins_of s.graph.vertices s.graph.edges v

  abbrev members : List Edge
  members = members_of s.graph v

  abbrev looped : Ran
  looped = whole s d env members

  abbrev cs : List Class
  cs = (loop_split d).classes.locals.items

  abbrev own : List ℤ
  own = own_words d.lets.items env

  abbrev seen : Env
  seen = seen_env g v p (none split)

  keyed : SameButKey env seen
  keyed = seen_environment g s v p (none split) all here

  in_turn : members_by_steps s.graph.ends p c 0 p ins ≡ members
  in_turn = reads_in_turn s.graph.vertices p c v s.graph.ends s.graph.edges are within lies

  classes_are : classes_of split.dense ≡ cs
  classes_are = ap classes_of (split.split ∙ ap (option_map loop_split) h.dense)

  -- the environment that the loop leaves is that of its locals but for the neighbour and the marks
  left_env : SameButNeighbour (with_words looped.env.locals.items env) looped.env
  left_env =
      let first : Env = only_lets d.lets.items env in
      let w : Env = looped.env in
      let placed = body_stands (program_of split) d h.typed h.dense in
      let frame : SameFrame (beside first w) w = loop_keeps s d.body.items members first in
      let rights = loop_within loop_rights placed.0 s d.body.items members first placed.1 in
      let kept : first ≡ record env { locals = first.locals } =
      only_locals d.lets.items (record env { locals = record { items = [] } }) in
      λ i. record {
        id = (frame.id ∙ ap (λ e. e.id) kept) i;
        n = (frame.n ∙ ap (λ e. e.n) kept) i;
        round = (frame.round ∙ ap (λ e. e.round) kept) i;
        indeg = (frame.indeg ∙ ap (λ e. e.indeg) kept) i;
        outdeg = (frame.outdeg ∙ ap (λ e. e.outdeg) kept) i;
        draws = (frame.draws ∙ ap (λ e. e.draws) kept) i;
        row = (rights.fields refl ∙ ap (λ e. e.row) kept) i;
        next_active = (rights.active refl ∙ ap (λ e. e.next_active) kept) i;
        locals = w.locals;
        touched = w.touched;
        other = w.other;
        other_row = w.other_row;
        sends = (frame.sends ∙ ap (λ e. e.sends) kept) i;
        slots = (frame.slots ∙ ap (λ e. e.slots) kept) i;
        totals = (frame.totals ∙ ap (λ e. e.totals) kept) i;
        key = (frame.key ∙ ap (λ e. e.key) kept) i;
      }

  abbrev ran : ℕ → Ran
  ran = ran_at s d env p c v

  abbrev buckets : ℕ → ℕ → List ℤ
  buckets = step_buckets split d ran p

  -- ---- where the test is true
  module _ (test : is_set (value_of d.when_test env) ≡ true) where
    abbrev steps : ℕ → Ran
    steps = machine_ran s d env s.graph.ends p c ins

    runs : (k : ℕ) → ran k ≡ steps k
    runs k = ap (λ b. if b then steps k else leaves env) test

    -- the values of the lets' partials are the operands of the steps
    operands_are : (ps : List Partial) → AreFilled 0 (partial_ops split) buckets (p + 1) ps →
        values_of (drop (slot_count split) ps) ≡ operands_by_steps s d env s.graph.ends p c ins p
    operands_are ps filled =
        let slots : List Combine = slot_ops (program_of split) in
        let many : length slots ≡ slot_count split = length-map (program_of split).slots.items (λ x. x.op) in
        let rest : AreFilled (length slots) (reduced_ops cs) buckets (p + 1) (drop (length slots) ps) =
        subst (λ l. AreFilled (length slots) (reduced_ops l) buckets (p + 1) (drop (length slots) ps)) classes_are
        (filled_behind slots (reduced_ops (classes_of split.dense)) buckets (p + 1) ps filled) in
        let each : (j k : ℕ) → buckets (length slots + j) k ≡
        (if nat_lt k p then option_to_list
        (slice_index_or (operands (places_where is_reduced 0 cs) (steps k).env) j None) else []) =
        λ j k. ap (λ xs. if nat_lt k p then xs else [])
        (ap option_to_list (behind_at (slot_values 0 slots (ran k).emitted)
        (operands (loop_split d).reduced.items (ran k).env)
        (length slots) j (length-slot_values 0 slots (ran k).emitted)
        ∙ ap (λ r. slice_index_or (operands (loop_split d).reduced.items r.env) j None) (runs k))) in
        ap (λ n. values_of (drop n ps)) (sym many)
        ∙ lets_filled p (λ k. (steps k).env) buckets (length slots) 0 cs (drop (length slots) ps) rest each

    -- the lets of the tail are those that the loop leaves
    module _ (st : LoopState) (stands : ((loop_split d).carry ≡ None)
        ⊎ (st ≡ told_state (width_of split) (ring_after s d env members))) where
      abbrev carried : List ℤ
      carried = unwrap_or (told_words st) []

      carried_by : (ms : List Edge) → members ≡ ms → (came : List (Option ℤ)) →
          st ≡ told_state (width_of split) (ring_after s d env members) →
          closing cs own carried came ≡ closing cs own (given (loop_split d) looped.env) came
      carried_by ms is came told =
          let after : st ≡ told_state (width_of split) (state_of s d env ms) =
          told ∙ ap (λ b. told_state (width_of split) (if b then state_of s d env members else Fresh)) test
          ∙ ap (λ l. told_state (width_of split) (state_of s d env l)) is in
          by_members ms is after
        where
          by_members : (ms : List Edge) → members ≡ ms → st ≡ told_state (width_of split) (state_of s d env ms) →
              closing cs own carried came ≡ closing cs own (given (loop_split d) looped.env) came
          by_members [] is after =
              ap (λ x. closing cs own (unwrap_or (told_words x) []) came) after
              ∙ closing_own cs own came
              (length-let_classes 0 d.lets.items (body_marks d.body.items) ∙ sym (length-own d.lets.items env))
              ∙ ap (λ l. closing cs own (given (loop_split d) (whole s d env l).env) came) (sym is)
          by_members (e ∷ es) is after =
              let ran : Ran = whole s d env (e ∷ es) in
              ap (λ x. closing cs own (unwrap_or (told_words x) []) came) after
              ∙ ap (λ ws. closing cs own ws came) (words_told (width_of split) ran.flow (given (loop_split d) ran.env))
              ∙ ap (λ l. closing cs own (given (loop_split d) (whole s d env l).env) came) (sym is)

      carried_as : (came : List (Option ℤ)) →
          closing cs own carried came ≡ closing cs own (given (loop_split d) looped.env) came
      carried_as came = by stands
        where
          by : ((loop_split d).carry ≡ None) ⊎ (st ≡ told_state (width_of split) (ring_after s d env members)) →
              closing cs own carried came ≡ closing cs own (given (loop_split d) looped.env) came
          by (inl free) = closing_free cs own carried (given (loop_split d) looped.env) came (unhanded d free)
          by (inr told) = carried_by members refl came told

      lets_are : (ps : List Partial) → AreFilled 0 (partial_ops split) buckets (p + 1) ps →
          closing_words cs (own_words d.lets.items seen) st (drop (slot_count split) ps) ≡ looped.env.locals.items
      lets_are ps filled =
          ap (λ l. closing cs l carried (values_of (drop (slot_count split) ps)))
          (ap (λ e. e.locals.items) (lets_keyed d.lets.items (record env { locals = record { items = [] } })
          (record seen { locals = record { items = [] } })
          (ap (λ x. let a : Env = record x { locals = record { items = [] } } in a) keyed)))
          ∙ ap (closing cs own carried) (operands_are ps filled)
          ∙ carried_as (operands_by_steps s d env s.graph.ends p c ins p)
          ∙ sym (ap (λ l. (whole s d env l).env.locals.items) (sym in_turn)
          ∙ lets_by_machines s d env (program_of split) h refl s.graph.ends p c p ins
          ∙ ap (λ l. closing cs own (given (loop_split d) (whole s d env l).env)
          (operands_by_steps s d env s.graph.ends p c ins p)) in_turn)

      -- so the tail emits what the source's emits
      tail_emits : (ps : List Partial) → AreFilled 0 (partial_ops split) buckets (p + 1) ps →
          (run d.tail.items (tail_env split d seen ps st)).emitted ≡ (run d.tail.items looped.env).emitted
      tail_emits ps filled =
          let locals : List ℤ = looped.env.locals.items in
          let told : tail_env split d seen ps st ≡ with_words locals seen =
          ap (λ l. with_words l seen) (lets_are ps filled) in
          ap (λ e. (run d.tail.items e).emitted) told
          ∙ (run_keyed d.tail.items (with_words locals env) (with_words locals seen)
          (ap (with_words locals) keyed)).emitted
          ∙ sym (tail_anywhere d.tail.items (tail_read (program_of split) d h.typed h.dense)
          (with_words locals env) looped.env
          left_env).emitted

      -- and the partials have the source's values
      values_are : (ps : List Partial) → AreFilled 0 (partial_ops split) buckets (p + 1) ps →
          values_of (take (slot_count split)
          (with_emissions p ps (run d.tail.items (tail_env split d seen ps st)).emitted)) ≡
          slot_values 0 (slot_ops (program_of split)) (gathered (program_of split) ruling.Dense s v).emitted
      values_are ps filled =
          let slots : List Combine = slot_ops (program_of split) in
          let many : length slots ≡ slot_count split = length-map (program_of split).slots.items (λ x. x.op) in
          let tail : List Emission = (run d.tail.items (tail_env split d seen ps st)).emitted in
          let qs : List Partial = with_emissions p ps tail in
          let more : ℕ → ℕ → List ℤ = λ place. with_more (buckets place) p (words_for place tail) in
          let first : AreFilled 0 slots more (p + 1) (take (length slots) qs) =
          filled_first 0 slots (reduced_ops (classes_of split.dense)) more (p + 1) qs
          (fills_emissions (partial_ops split) buckets (p + 1) p tail ps (omega arith) filled) in
          ap (λ n. values_of (take n qs)) (sym many)
          ∙ slots_filled slots more (p + 1) (gathered (program_of split) ruling.Dense s v).emitted
          (take (length slots) qs)
          first (λ j op is.
          let words : ℕ → List ℤ = λ k. option_to_list (combined op (words_for j (steps k).emitted)) in
          let at : (k : ℕ) → k < p → buckets j k ≡ words k =
          λ k lt. ap (λ b. if b then sent_words (sent_by_segment split d (ran k)) j else []) (is_below k p lt)
          ∙ ap option_to_list (slot_value_at slots (ran k).emitted
          (operands (loop_split d).reduced.items (ran k).env) j op is
          ∙ ap (λ r. combined op (words_for j r.emitted)) (runs k)) in
          let below : (k : ℕ) → k < p → more j k ≡ words k =
          λ k lt. ap (λ b. if b then buckets j k ++ words_for j tail else buckets j k)
          (ne_eqb p k (λ e. omega arith)) ∙ at k lt in
          let last : more j p ≡ words_for j (run d.tail.items looped.env).emitted =
          ap (λ b. if b then buckets j p ++ words_for j tail else buckets j p) (eq-eqb p p refl)
          ∙ ap (λ b. (if b then sent_words (sent_by_segment split d (ran p)) j else []) ++ words_for j tail)
          (not_below p p (omega arith))
          ∙ ap (words_for j) (tail_emits ps filled) in
          ap (combined op) (joined_steps (more j) words p below
          ∙ ap (λ l. flat_map words (range_with_len 0 p) ++ l) last)
          ∙ round_words (program_of split) d s p c v h test are within lies op j)

  -- ---- where the test is false
  module _ (test : is_set (value_of d.when_test env) ≡ false) where
    idle : (k : ℕ) → ran k ≡ leaves env
    idle k = ap (λ b. if b then machine_ran s d env s.graph.ends p c ins k else leaves env) test

    idle_values : (ps : List Partial) → AreFilled 0 (partial_ops split) buckets (p + 1) ps →
        values_of (take (slot_count split) ps) ≡
        slot_values 0 (slot_ops (program_of split)) (gathered (program_of split) ruling.Dense s v).emitted
    idle_values ps filled =
        let slots : List Combine = slot_ops (program_of split) in
        let many : length slots ≡ slot_count split = length-map (program_of split).slots.items (λ x. x.op) in
        let there : dense_part s (program_of split).dense members env ≡ leaves env =
        ap (λ o. dense_part s o members env) h.dense
        ∙ ap (λ b. if b then dense_block s d members env else leaves env) test in
        ap (λ n. values_of (take n ps)) (sym many)
        ∙ slots_filled slots buckets (p + 1) (gathered (program_of split) ruling.Dense s v).emitted
        (take (length slots) ps)
        (filled_first 0 slots (reduced_ops (classes_of split.dense)) buckets (p + 1) ps filled)
        (λ j op is.
        let none_at : (k : ℕ) → k < p → buckets j k ≡ [] =
        λ k lt. ap (λ b. if b then sent_words (sent_by_segment split d (ran k)) j else []) (is_below k p lt)
        ∙ ap option_to_list (slot_value_at slots (ran k).emitted
        (operands (loop_split d).reduced.items (ran k).env) j op is
        ∙ ap (λ r. combined op (words_for j r.emitted)) (idle k)) in
        let last : buckets j p ≡ [] =
        ap (λ b. if b then sent_words (sent_by_segment split d (ran p)) j else []) (not_below p p (omega arith)) in
        ap (combined op) (joined_steps (buckets j) (λ k. []) p none_at
        ∙ ap (λ l. flat_map (λ k. []) (range_with_len 0 p) ++ l) last
        ∙ append-nil (flat_map (λ k. []) (range_with_len 0 p)) ∙ nothing_joined (range_with_len 0 p))
        ∙ sym (ap (λ r. combined op (words_for j r.emitted)) there))

  -- the row of values that are the source's
  row_by : (values : List (Option ℤ)) →
      values ≡ slot_values 0 (slot_ops (program_of split)) (gathered (program_of split) ruling.Dense s v).emitted →
      updated (program_of split).update.items (seen_env g v 0 values) ≡ row_after (program_of split) ruling.Dense s v
  row_by values is =
      ap (λ xs. updated (program_of split).update.items (seen_env g v 0 xs)) is
      ∙ ap (updated (program_of split).update.items)
      (seen_environment g s v 0 (slot_values 0 (slot_ops (program_of split))
      (gathered (program_of split) ruling.Dense s v).emitted)
      all here)

  closes : (ps : List Partial) (st : LoopState) → AreFilled 0 (partial_ops split) buckets (p + 1) ps →
      ((loop_split d).carry ≡ None) ⊎ (st ≡ told_state (width_of split) (ring_after s d env members)) →
      (t : Bool) → is_set (value_of d.when_test env) ≡ t →
      closed_row split g (tail_at split d g p ps st v) v ≡ row_after (program_of split) ruling.Dense s v
  closes ps st filled stands true test =
      let tail : List Emission = (run d.tail.items (tail_env split d seen ps st)).emitted in
      let ends : tail_at split d g p ps st v ≡ with_emissions p ps tail =
      ap (λ x. if is_set x then with_emissions p ps tail else ps) (value_keyed d.when_test env seen keyed)
      ∙ ap (λ b. if b then with_emissions p ps tail else ps) test in
      ap (λ qs. closed_row split g qs v) ends
      ∙ row_by (values_of (take (slot_count split) (with_emissions p ps tail))) (values_are test st stands ps filled)
  closes ps st filled stands false test =
      let tail : List Emission = (run d.tail.items (tail_env split d seen ps st)).emitted in
      let ends : tail_at split d g p ps st v ≡ ps =
      ap (λ x. if is_set x then with_emissions p ps tail else ps) (value_keyed d.when_test env seen keyed)
      ∙ ap (λ b. if b then with_emissions p ps tail else ps) test in
      ap (λ qs. closed_row split g qs v) ends
      ∙ row_by (values_of (take (slot_count split) ps)) (idle_values test ps filled)

pub closes_dense : ClosesDense
closes_dense split d g s p c v ps st h all here are within lies filled stands =
    closes split d g s p c v h all here are within lies ps st filled stands
    (is_set (value_of d.when_test (env_at s v (none split)))) refl
