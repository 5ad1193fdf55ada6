-- What a vertex leaves is what is scanned there.
use Rattle.std.proofs.Common.{◌≡◌, ◌<◌, ◌≤◌, ◌-◌, ℕ, Bool, true, false, cond, List, [], ◌∷◌, ◌++◌, length, get_or, set, take, map, replicate, All, refl, sym, ap, subst, ◌∙◌, None, arith, length-append}
use Rattle.std.specs.Int.{bit_at}
use Rattle.std.specs.List.{AllByRecursion}
use Rattle.std.proofs.lemmas.List.{length-map, map-append, set-get_or, take-map}
use Rattle.std.proofs.lemmas.List.Elements.{All-map, recursion_from_All}
use Rattle.std.proofs.lemmas.Nat.Bits.{bit_at-zero}
use Rattle.std.proofs.lemmas.Simd.{map-map}
use Rattle.std.proofs.Math.Seq.{take-append_seam}
use Rattle.vert_base.specs.declared.graph.Edge.{Edge}
use Rattle.vert_base.specs.declared.value.Row.{Row}
use Rattle.vert_base.specs.Neighbours.{source}
use Rattle.vert_tree.specs.declared.program.Dense.{Dense}
use Rattle.vert_tree.specs.declared.program.SlotDecl.{SlotDecl}
use Rattle.vert_tree.specs.declared.statement.Stmt.{Stmt}
use Rattle.vert_eval.specs.declared.environment.Env.{Env}
use Rattle.vert_eval.specs.Rounds.{empty_row, reading, slot_ops}
use Rattle.vert_eval.specs.Runs.{Ran, followed_by, run}
use Rattle.vert_eval.specs.Values.{word_at}
use Rattle.vert_code.specs.declared.code.Code.{Code}
use Rattle.vert_code.specs.declared.instr.Instr.{Instr}
use Rattle.vert_code.specs.declared.instr.Block.TheVariants.{Loop}
use Rattle.vert_code.specs.Blocks.{list_of, loop_body}
use Rattle.vert_code.specs.Machine.{run_code}
use Rattle.vert_vm.specs.Segments.{Fed, IsWide, Member, id_of, loop_code, member_code}
use Rattle.slot_merge.specs.declared.partial.Partial.{Partial}
use Rattle.slot_merge.specs.Partials.{empty_partial, with_emissions}
use Rattle.slot_merge.proofs.SlotLaws.{slot_values_are}
use Rattle.dep_layout.specs.Spelling.{State as LoopState}
use Rattle.instrument.specs.declared.split.Split.{Split}
use Rattle.instrument.specs.declared.split.SplitLoop.{SplitLoop}
use Rattle.instrument.specs.Loops.{loop_split}
use Rattle.instrument.specs.Segments.{begun}
use Rattle.symple_face.specs.declared.degree.Degree.{Degree}
use Rattle.symple_face.specs.CoreScan.{passed, scanned, scanned_by, segment_seen, told_words}
use Rattle.symple_face.specs.CoreSight.{none, program_of}
use Rattle.symple_face.specs.Ring.{operand, operands}
use Rattle.symple_face.specs.Shapes.{reduced_in}
use Rattle.symple_face.specs.Sight.{Sight, seen_at, seen_env, seen_loop}
use Rattle.machine_parts.specs.Flat.{StateTable, fresh_state, state_at}
use Rattle.machine_parts.specs.Neighbours.{AreOwn, member_in}
use Rattle.vertex_work.specs.Stepping.{IsLoopOf, IsScanned, ShowsVertex, passes, seen_member, segment_fed, state_left}
use Rattle.vertex_work.proofs.StepLaws.{parts_are}

-- ---- members that are fed are read as they are seen
module _ (list : List Instr) (body : List Stmt) (g : Sight) (start : ℕ) (degrees : List Degree) (rows : List Row)
    (runs : (env : Env) → run_code list env ≡ run body env) where
  abbrev member : Edge → Member
  member e = member_in start degrees rows e

  act_is : (e : Edge) → member_in start degrees rows e ≡ seen_member g e → (env : Env) →
      member_code list (member_in start degrees rows e) env ≡ reading (source e) (run body (seen_at g e env))
  act_is e same env =
      ap (λ m. member_code list m env) same ∙ ap (reading (source e)) (runs (seen_at g e env))

  pub fed_is_seen : (edges : List Edge) →
      AllByRecursion (λ e. member_in start degrees rows e ≡ seen_member g e) edges → (env : Env) →
      loop_code list (map (member_in start degrees rows) edges) env ≡ seen_loop g body edges env
  fed_is_seen [] all env = refl
  fed_is_seen (e ∷ es) all env = λ i. followed_by (act_is e all.0 env i) (λ left. fed_is_seen es all.1 left i)

-- the rows of members are as wide as that of the vertex
pub members_wide : (start : ℕ) (degrees : List Degree) (rows : List Row) (members : List Edge) (env : Env) →
    AreOwn start (length degrees) (length rows) members →
    All (λ r. length r.words.items ≡ length env.row.words.items) rows →
    All (IsWide env) (map (member_in start degrees rows) members)
members_wide start degrees rows members env own wide =
    All-map (IsWide env) (member_in start degrees rows) members
    (λ k d lt. wide (source (get_or members k d) - start) empty_row (own k d lt).2)

-- ---- what a feed has given
module _ (start : ℕ) (degrees : List Degree) (rows : List Row) (members : List Edge) (given rest : List Member)
    (reads : List ℕ) (fed : Fed [] (map (member_in start degrees rows) members) given rest reads) where
  sources_are : map source members ≡ reads ++ map id_of rest
  sources_are =
      sym (map-map id_of (member_in start degrees rows) members)
      ∙ ap (map id_of) fed.now_left
      ∙ map-append id_of fed.read rest
      ∙ ap (λ us. us ++ map id_of rest) fed.ids

  reads_count : length reads ≡ length given
  reads_count = ap length (sym fed.ids) ∙ length-map fed.read id_of ∙ ap length (sym fed.now_given)

  pub given_read : (n : ℕ) → n ≡ length given → map source (take n members) ≡ reads
  given_read n is =
      sym (take-map source n members)
      ∙ ap (take n) sources_are
      ∙ ap (λ k. take k (reads ++ map id_of rest)) (is ∙ sym reads_count)
      ∙ take-append_seam reads (map id_of rest)

  pub given_within : length given ≤ length members
  given_within =
      omega (
        arith,
        reads_count,
        ap length sources_are,
        length-append reads (map id_of rest),
        length-map members
            source,
      )

-- ---- where nothing is run
no_value : (slots : List SlotDecl) → map (λ p. p.value) (map empty_partial (map (λ s. s.op) slots)) ≡
    replicate (length slots) None
no_value [] = refl
no_value (s ∷ ss) = ap (λ xs. None ∷ xs) (no_value ss)

no_operand : (places : List ℕ) (env : Env) → env.touched ≡ 0 → operands places env ≡ replicate (length places) None
no_operand [] env none = refl
no_operand (i ∷ is) env none =
    ap (λ n. operand n (word_at env.locals.items i) ∷ operands is env) (ap (λ t. bit_at t i) none ∙ bit_at-zero i)
    ∙ ap (λ xs. None ∷ xs) (no_operand is env none)

module _ (code : Code) (split : Split) (d : Dense) (parts : SplitLoop) (is : IsLoopOf code split d parts) (g : Sight)
    (start : ℕ) (degrees : List Degree) (rows : List Row) (members : List Edge) (env : Env)
    (shows : ShowsVertex split g start degrees rows members env) where
  abbrev here : Env
  here = seen_env g env.id.0 env.key (none split)

  -- ---- where the state is passed on, and where the loop is run
  by_test : (b : Bool) (es : List Edge) (st : LoopState) → 0 < length es → passes d st.mark here ≡ b →
      scanned split d g env.key es env.id.0 st ≡
      cond b (passed split st) (scanned_by split d (segment_seen d g es st here))
  by_test b [] st some e = absurd (omega arith)
  by_test b (x ∷ xs) st some e =
      ap (λ t. cond t (passed split st) (scanned_by split d (segment_seen d g (x ∷ xs) st here))) e

  -- all stays as it was
  pub stays : (place : ℕ) (half : StateTable) (emits : List Partial) →
      passes d (state_at half.states place).mark env ≡ true →
      emits ≡ map empty_partial (slot_ops (program_of split)) →
      IsScanned (scanned split d g env.key members env.id.0 (state_at half.states place)) parts members place half half
      emits env 0
  stays place half emits test empty =
      let st : LoopState = state_at half.states place in
      let scan = by_test true members st shows.some (ap (passes d st.mark) (sym shows.here) ∙ test) in
      subst (λ s. IsScanned s parts members place half half emits env 0) (sym scan) (record {
        state = ap (λ ss. let t : StateTable = record half { states = ss } in t)
            (sym (set-get_or half.states place (fresh_state 0)));
        values = ap (map (λ p. p.value)) empty ∙ no_value (program_of split).slots.items;
        operands =
            no_operand parts.reduced.items env (ap (λ e. e.touched) shows.here)
            ∙ ap (λ o. replicate (length (reduced_in o)) None) (sym is.loop);
        reads = refl;
      })

  -- ---- a segment
  abbrev list : List Instr
  list = list_of code Loop

  abbrev fed : LoopState → Ran
  fed st = segment_fed code d parts (map (member_in start degrees rows) members) st env

  ran_is : (st : LoopState) →
      segment_fed code d parts (map (member_in start degrees rows) members) st env ≡ segment_seen d g members st here
  ran_is st =
      fed_is_seen list d.body.items g start degrees rows
      (λ e. is.runs e ∙ ap (λ o. run (loop_body o) e) is.block) members
      (recursion_from_All (λ e. member_in start degrees rows e ≡ seen_member g e) members shows.there)
      (begun parts d.lets.items (told_words st) env)
      ∙ ap (λ s. seen_loop g d.body.items members (begun s d.lets.items (told_words st) env))
      (sym (parts_are code split d parts is))
      ∙ ap (λ e. seen_loop g d.body.items members (begun (loop_split d) d.lets.items (told_words st) e)) shows.here

  module _ (place count : ℕ) (given rest : List Member) (half new : StateTable) (before emits : List Partial)
      (left : Env) where
    pub runs_on : passes d (state_at half.states place).mark env ≡ false →
        before ≡ map empty_partial (slot_ops (program_of split)) →
        left ≡ (segment_fed code d parts (map (member_in start degrees rows) members) (state_at half.states
        place) env).env →
        new ≡ record half {
          states = set half.states place (state_left parts (segment_fed code d parts (map
              (member_in start degrees rows) members) (state_at half.states place) env));
        } →
        emits ≡ with_emissions env.key before (segment_fed code d parts (map (member_in start degrees rows)
        members) (state_at half.states place) env).emitted →
        Fed [] (map (member_in start degrees rows) members) given rest (segment_fed code d parts (map (member_in
        start degrees rows) members) (state_at half.states place) env).reads → count ≡ length given →
        IsScanned (scanned split d g env.key members env.id.0 (state_at half.states place)) parts members place
        half new emits left count
    runs_on test empty left_is new_is emits_are read counted =
        let st : LoopState = state_at half.states place in
        let ran : Ran = segment_seen d g members st here in
        let scan = by_test false members st shows.some (ap (passes d st.mark) (sym shows.here) ∙ test) in
        let same = ran_is st in
        let loops = parts_are code split d parts is in
        subst (λ s. IsScanned s parts members place half new emits left count) (sym scan) (record {
          state =
              new_is
              ∙ ap (λ r. let t : StateTable = record half { states = set half.states place (state_left parts r) }
              in t)
              same
              ∙ ap (λ l. let t : StateTable = record half { states = set half.states place (state_left l ran) } in t)
              (sym loops);
          values =
              ap (map (λ p. p.value))
              (emits_are
              ∙ ap (λ ps. with_emissions env.key ps (fed st).emitted) empty
              ∙ ap (λ r. with_emissions env.key (map empty_partial (slot_ops (program_of split))) r.emitted) same)
              ∙ slot_values_are env.key (slot_ops (program_of split)) ran.emitted;
          operands =
              ap (operands parts.reduced.items) (left_is ∙ ap (λ r. r.env) same)
              ∙ ap (λ l. operands l.reduced.items ran.env) (sym loops);
          reads =
              given_read start degrees rows members given rest (fed st).reads read count counted
              ∙ ap (λ r. r.reads) same;
        })
