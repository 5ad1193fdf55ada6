-- One machine more in the ring of a vertex.
use Rattle.std.proofs.Common.{◌≡◌, ℕ, zero, suc, ℤ, Bool, true, false, List, [], ◌∷◌, ◌++◌, refl, sym, ap, subst, ◌∙◌, None, Some, append-nil, arith}
use Rattle.std.specs.Prelude.{◌||◌, if◌then◌else◌, nat_lt}
use Rattle.vert_base.specs.declared.graph.Edge.{Edge}
use Rattle.vert_tree.specs.declared.program.Dense.{Dense}
use Rattle.vert_tree.specs.declared.program.Program.{Program}
use Rattle.carry_analysis.specs.declared.carry.Carry.{Carry}
use Rattle.carry_analysis.specs.declared.classes.Class.{Class}
use Rattle.carry_analysis.specs.declared.classes.Class.TheVariants.{Constant, Reduced, Carried}
use Rattle.carry_analysis.specs.Classes.{body_marks, carried_in, has_break, let_classes}
use Rattle.vert_eval.specs.declared.environment.Env.{Env}
use Rattle.vert_eval.specs.declared.environment.Flow.{Flow}
use Rattle.vert_eval.specs.declared.environment.Flow.TheVariants.{Going, Broke}
use Rattle.vert_eval.specs.Rounds.{Scene, loop}
use Rattle.vert_eval.specs.Runs.{Ran}
use Rattle.circulant_plan.specs.Ring.{members_by_steps, members_with, order_of}
use Rattle.circulant_plan.proofs.SpanLaws.{is_below}
use Rattle.instrument.specs.Continued.{IsSplit, SameOutcome, segment, whole, with_segment}
use Rattle.instrument.specs.Loops.{loop_split}
use Rattle.instrument.specs.Segments.{begun, carried_words, given, only_lets, own_words}
use Rattle.instrument.proofs.SplitLaws.{begins, ends, goes_on}
use Rattle.instrument.proofs.WordLaws.{carried_same}
use Rattle.value_laws.proofs.NoBreak.{loop_goes}
use Rattle.symple_face.specs.Ring.{Fresh, Running, Broken, machine_ran, state_after, state_of, state_with, step_ran, step_state}
use Rattle.round_laws.specs.Steps.{ByMachines, Grows}
use Rattle.round_laws.proofs.Ranges.{joined_more, steps_more}

state_some : (d : Dense) (a : List Edge) (e : Edge) (es : List Edge) (ran : Ran) →
    state_after d (a ++ (e ∷ es)) ran ≡ state_with ran.flow (given (loop_split d) ran.env)
state_some d [] e es ran = refl
state_some d (x ∷ xs) e es ran = refl

-- ---- without a carry
none_handed : (b c : Bool) (carry : Carry) → (if b || c then Some carry else None) ≡ None → (b ≡ false) × (c ≡ false)
none_handed true c carry is = cc
none_handed false true carry is = cc
none_handed false false carry is = (refl, refl)

-- where no let is carried there are no words to hand on
pub no_words : (cs : List Class) → nat_lt 0 (carried_in cs) ≡ false → (words : List ℤ) → carried_words cs words ≡ []
no_words [] none words = refl
no_words (c ∷ cs) none [] = refl
no_words (Constant ∷ cs) none (x ∷ xs) = no_words cs none xs
no_words (Reduced op ∷ cs) none (x ∷ xs) = no_words cs none xs
no_words (Carried ∷ cs) none (x ∷ xs) =
    let some : nat_lt 0 (suc (carried_in cs)) ≡ true = is_below 0 (suc (carried_in cs)) (omega arith) in cc

-- a loop without a carry has no break and carries no let
unbroken_free : (d : Dense) → (loop_split d).carry ≡ None →
    (has_break (body_marks d.body.items) ≡ false) × (nat_lt 0 (carried_in (loop_split d).classes.locals.items) ≡ false)
unbroken_free d free =
    let many : ℕ = carried_in (loop_split d).classes.locals.items in
    none_handed (has_break (body_marks d.body.items)) (nat_lt 0 many) (record { words = many }) free

pub unhanded : (d : Dense) → (loop_split d).carry ≡ None →
    nat_lt 0 (carried_in (loop_split d).classes.locals.items) ≡ false
unhanded d free = (unbroken_free d free).1

module _ (s : Scene) (d : Dense) (env : Env) (p : Program) (h : IsSplit p d env) where
  abbrev cs : List Class
  cs = let_classes 0 d.lets.items (body_marks d.body.items)

  abbrev w : List Edge → Ran
  w a = whole s d env a

  -- a segment that is like the rest of the loop hands on what the loop does
  handed : (a : List Edge) (e : Edge) (es : List Edge) (part : Ran) →
      SameOutcome (w (a ++ (e ∷ es))) (with_segment (loop_split d) (w a) part) →
      state_with part.flow (given (loop_split d) part.env) ≡ state_of s d env (a ++ (e ∷ es))
  handed a e es part same =
      sym (state_some d a e es (w (a ++ (e ∷ es)))
      ∙ ap (λ f. state_with f (given (loop_split d) (w (a ++ (e ∷ es))).env)) same.flow
      ∙ ap (λ words. state_with part.flow words)
      (ap (carried_words cs) same.locals ∙ carried_same cs (w a).env.locals.items part.env.locals.items))

  -- where nothing came before, the segment begins with the lets' own words
  pub first_part : (e : Edge) (es : List Edge) →
      SameOutcome (w (e ∷ es)) (with_segment (loop_split d) (w []) (segment s d env None (e ∷ es)))
  first_part e es =
      subst (λ b. SameOutcome (w (e ∷ es)) (with_segment (loop_split d) (w []) (loop s d.body.items (e ∷ es) b)))
      (sym (begins d env)) (goes_on d env p h s [] (e ∷ es) refl)

  later : (x : Edge) (xs : List Edge) (e : Edge) (es : List Edge) (flow : Flow) → (w (x ∷ xs)).flow ≡ flow →
      Grows s d env (x ∷ xs) (e ∷ es)
  later x xs e es Going going =
      let a : List Edge = x ∷ xs in
      let words : List ℤ = given (loop_split d) (w a).env in
      let part : Ran = segment s d env (Some words) (e ∷ es) in
      let same : SameOutcome (w (a ++ (e ∷ es))) (with_segment (loop_split d) (w a) part) =
      goes_on d env p h s a (e ∷ es) going in
      let is : state_of s d env a ≡ Running words = ap (λ f. state_with f words) going in
      record {
        state = ap (step_state s d env (e ∷ es)) is ∙ handed a e es part same;
        emitted = same.emitted ∙ ap (λ st. (w a).emitted ++ (step_ran s d env (e ∷ es) st).emitted) (sym is);
        reads = same.reads ∙ ap (λ st. (w a).reads ++ (step_ran s d env (e ∷ es) st).reads) (sym is);
      }
  later x xs e es Broke broke =
      let a : List Edge = x ∷ xs in
      let words : List ℤ = given (loop_split d) (w a).env in
      let same : w (a ++ (e ∷ es)) ≡ w a = ends d env s a (e ∷ es) broke in
      let is : state_of s d env a ≡ Broken words = ap (λ f. state_with f words) broke in
      record {
        state = ap (step_state s d env (e ∷ es)) is
            ∙ sym (ap (λ r. state_with r.flow (given (loop_split d) r.env)) same ∙ is);
        emitted = ap (λ r. r.emitted) same ∙ sym (append-nil (w a).emitted)
            ∙ ap (λ st. (w a).emitted ++ (step_ran s d env (e ∷ es) st).emitted) (sym is);
        reads = ap (λ r. r.reads) same ∙ sym (append-nil (w a).reads)
            ∙ ap (λ st. (w a).reads ++ (step_ran s d env (e ∷ es) st).reads) (sym is);
      }

  pub grows : (before members : List Edge) → Grows s d env before members
  grows before [] =
      record {
        state = ap (state_of s d env) (sym (append-nil before));
        emitted = ap (λ m. (w m).emitted) (append-nil before) ∙ sym (append-nil (w before).emitted);
        reads = ap (λ m. (w m).reads) (append-nil before) ∙ sym (append-nil (w before).reads);
      }
  grows [] (e ∷ es) =
      let part : Ran = segment s d env None (e ∷ es) in
      let same = first_part e es in
      record { state = handed [] e es part same; emitted = same.emitted; reads = same.reads }
  grows (x ∷ xs) (e ∷ es) = later x xs e es (w (x ∷ xs)).flow refl

  pub by_machines : (ends : List ℕ) (machines c count : ℕ) (members : List Edge) →
      ByMachines s d env ends machines c count members
  by_machines ends machines c zero members = record { emitted = refl; reads = refl }
  by_machines ends machines c (suc count) members =
      let ran : ℕ → Ran = machine_ran s d env ends machines c members in
      let so_far = by_machines ends machines c count members in
      let more = grows (members_by_steps ends machines c 0 count members)
      (members_with ends (order_of c count machines) members) in
      let longer = steps_more ends machines c count members in
      record {
        emitted = ap (λ l. (w l).emitted) longer ∙ more.emitted
            ∙ ap (λ es. es ++ (ran count).emitted) so_far.emitted
            ∙ sym (joined_more (λ step. (ran step).emitted) count);
        reads = ap (λ l. (w l).reads) longer ∙ more.reads
            ∙ ap (λ us. us ++ (ran count).reads) so_far.reads
            ∙ sym (joined_more (λ step. (ran step).reads) count);
      }

  module _ (free : (loop_split d).carry ≡ None) where
    unbroken : has_break (body_marks d.body.items) ≡ false
    unbroken = (unbroken_free d free).0

    wordless : (words : List ℤ) → carried_words cs words ≡ []
    wordless = no_words cs (unhanded d free)

    -- a segment that received no words begins as one that received nothing
    none_received : begun (loop_split d) d.lets.items (Some []) env ≡ begun (loop_split d) d.lets.items None env
    none_received =
        ap (λ words. begun (loop_split d) d.lets.items (Some words) env) (sym (wordless (own_words d.lets.items env)))
        ∙ sym (begins d env)

    running : (x : Edge) (xs : List Edge) → state_of s d env (x ∷ xs) ≡ Running []
    running x xs =
        ap (λ f. state_with f (given (loop_split d) (w (x ∷ xs)).env))
        (loop_goes s d.body.items unbroken (x ∷ xs) (only_lets d.lets.items env))
        ∙ ap Running (wordless (w (x ∷ xs)).env.locals.items)

    pub begins_afresh : (before members : List Edge) →
        step_ran s d env members (state_of s d env before) ≡ step_ran s d env members Fresh
    begins_afresh before [] = refl
    begins_afresh [] (e ∷ es) = refl
    begins_afresh (x ∷ xs) (e ∷ es) =
        ap (step_ran s d env (e ∷ es)) (running x xs) ∙ ap (loop s d.body.items (e ∷ es)) none_received
