-- What a machine sees fits its types, and so does what a loop over its edges leaves.
use Rattle.std.proofs.Common.{◌≡◌, ◌<◌, ◌≤◌, ◌==◌, ◌^◌, ℕ, zero, suc, ℤ, Bool, true, false, List, [], ◌∷◌, length, All, refl, ap, subst, ◌∙◌, Option, Some, FitsSigned, w64, arith, length-append}
use Rattle.std.specs.Prelude.{if◌then◌else◌}
use Rattle.std.proofs.lemmas.List.Elements.{All-head, All-tail}
use Rattle.vert_base.specs.declared.graph.Edge.{Edge}
use Rattle.vert_base.specs.declared.limits.TheConstants.{VERTICES}
use Rattle.vert_base.specs.declared.value.Row.{Row}
use Rattle.vert_base.specs.declared.value.ValueType.{ValueType}
use Rattle.vert_base.specs.Neighbours.{source}
use Rattle.vert_tree.specs.declared.program.Dense.{Dense}
use Rattle.vert_tree.specs.declared.program.Program.{Program}
use Rattle.vert_tree.specs.declared.statement.Stmt.{Stmt}
use Rattle.vert_tree.specs.Kinds.{Kinds, body_typed, dense_typed, field_kinds}
use Rattle.vert_tree.specs.Places.{option_all}
use Rattle.vert_eval.specs.declared.environment.Env.{Env}
use Rattle.vert_eval.specs.declared.environment.Flow.{Flow}
use Rattle.vert_eval.specs.declared.environment.Flow.TheVariants.{Going, Broke}
use Rattle.vert_eval.specs.Runs.{Ran, after, by_flow}
use Rattle.vert_eval.specs.Values.{word_at}
use Rattle.vert_eval.proofs.FrameLaws.{run_keeps as run_frame, run_reads}
use Rattle.instrument.specs.declared.split.Split.{Split}
use Rattle.word_kinds.specs.Fits.{AreWords, HasKinds, IsEdge, IsFitting, KeepsKinds, body_fits, dense_fits}
use Rattle.value_laws.proofs.Rounds.{DenseParts, dense_parts, no_words, parts}
use Rattle.value_laws.proofs.Rows.{SlotsFit}
use Rattle.value_laws.proofs.Runs.{keeps_after, keeps_nothing, run_keeps}
use Rattle.value_laws.proofs.Words.{fits_wider, zero_fits}
use Rattle.chunk_split.specs.Chunks.{vertices_of}
use Rattle.symple_face.specs.declared.degree.Degree.{Degree}
use Rattle.symple_face.specs.CoreSight.{degree_among, part_sight}
use Rattle.symple_face.specs.Lawful.{AreCounts, CanRun}
use Rattle.symple_face.specs.Parts.{PlainPart}
use Rattle.symple_face.specs.Sight.{Sight, seen_act, seen_at, seen_env, seen_loop}

-- a sight whose numbers and words fit
pub record SightFits (kinds : List ValueType) (g : Sight) : Type 0 where
  pub n : g.n < 2 ^ 32
  pub round : g.round < 2 ^ 32
  pub totals : (i : ℕ) → FitsSigned w64 (word_at g.totals i)
  pub rows : (v : ℕ) → AreWords kinds (g.row v).words.items
  pub ins : (v : ℕ) → g.ins v < 2 ^ 32
  pub outs : (v : ℕ) → g.outs v < 2 ^ 32

pub seen_has : (k : Kinds) (g : Sight) (v key : ℕ) (slots : List (Option ℤ)) → SightFits k.fields g → v < 2 ^ 32 →
    SlotsFit slots →
    HasKinds k (seen_env g v key slots)
seen_has k g v key slots sees small fit = record {
  fields = sees.rows v;
  other_fields = sees.rows v;
  locals = no_words k.locals;
  sends = no_words k.sends;
  slots = fit;
  totals = sees.totals;
  id = small;
  n = sees.n;
  round = sees.round;
  indeg = sees.ins v;
  outdeg = sees.outs v;
  other_id = small;
  other_indeg = sees.ins v;
  other_outdeg = sees.outs v;
  weight = zero_fits;
}

pub seen_at_has : (k : Kinds) (g : Sight) (e : Edge) (env : Env) → SightFits k.fields g → IsEdge e → HasKinds k env →
    HasKinds k (seen_at g e env)
seen_at_has k g e env sees edge has = record {
  fields = has.fields;
  other_fields = sees.rows (source e);
  locals = has.locals;
  sends = has.sends;
  slots = has.slots;
  totals = has.totals;
  id = has.id;
  n = has.n;
  round = has.round;
  indeg = has.indeg;
  outdeg = has.outdeg;
  other_id = edge.source;
  other_indeg = sees.ins (source e);
  other_outdeg = sees.outs (source e);
  weight = fits_wider e.weight edge.weight;
}

-- ---- loops
-- a run that keeps types and the number of locals, and reads no more than so much
pub record Looped (k : Kinds) (locals most : ℕ) (ran : Ran) : Type 0 where
  pub kinds : KeepsKinds k ran
  pub count : length ran.env.locals.items ≡ locals
  pub few : length ran.reads ≤ most

looped_by : (k : Kinds) (locals most : ℕ) (flow : Flow) (first rest : Ran) → Looped k locals 1 first →
    Looped k locals most rest →
    Looped k locals (suc most) (by_flow flow first (after first rest))
looped_by k locals most Broke first rest p q =
    let few = p.few in record { kinds = p.kinds; count = p.count; few = omega (arith, few) }
looped_by k locals most Going first rest p q =
    let a = p.few in
    let b = q.few in
    record {
      kinds = keeps_after k first rest p.kinds q.kinds;
      count = q.count;
      few = omega (arith, a, b, length-append first.reads rest.reads);
    }

module _ (k : Kinds) (g : Sight) (body : List Stmt) (sees : SightFits k.fields g) (typed : body_typed k body ≡ true)
    (fit : body_fits body ≡ true) where
  act_looped : (e : Edge) (env : Env) → IsEdge e → HasKinds k env →
      Looped k (length env.locals.items) 1 (seen_act g body e env)
  act_looped e env edge has =
      let at : Env = seen_at g e env in
      let kept = run_keeps k body typed fit at (seen_at_has k g e env sees edge has) in
      record {
        kinds = record { env = kept.env; emitted = kept.emitted };
        count = ap (λ c. c.locals) (run_frame body at).counts;
        few = omega (arith, ap length (run_reads body at));
      }

  pub loop_looped : (members : List Edge) → All IsEdge members → (env : Env) → HasKinds k env →
      Looped k (length env.locals.items) (length members) (seen_loop g body members env)
  loop_looped [] edges env has = record { kinds = keeps_nothing k env has; count = refl; few = omega arith }
  loop_looped (e ∷ es) edges env has =
      let first : Ran = seen_act g body e env in
      let one = act_looped e env (All-head IsEdge e es edges) has in
      let more = loop_looped es (All-tail IsEdge e es edges) first.env one.kinds.env in
      looped_by k (length env.locals.items) (length es) first.flow first (seen_loop g body es first.env) one
      (record { kinds = more.kinds; count = more.count ∙ one.count; few = more.few })

-- ---- what a part sees
either_fits : (b : Bool) (x y : Degree) → AreCounts x → AreCounts y → AreCounts (if b then x else y)
either_fits true x y p q = p
either_fits false x y p q = q

degree_fits : (ds : List Degree) (v : ℕ) → All AreCounts ds → AreCounts (degree_among ds v)
degree_fits [] v h = record { ins = omega arith; outs = omega arith }
degree_fits (d ∷ ds) v h = either_fits (d.id.0 == v) d (degree_among ds v) (All-head AreCounts d ds h)
    (degree_fits ds v (All-tail AreCounts d ds h))

module _ (part : PlainPart) (split : Split) (kinds : List ValueType) (r : ℕ) (totals : List ℤ) (row : ℕ → Row) where
  pub part_sees : CanRun part split → r < 2 ^ 32 → ((i : ℕ) → FitsSigned w64 (word_at totals i)) →
      ((v : ℕ) → AreWords kinds (row v).words.items) → SightFits kinds (part_sight part r totals row)
  part_sees can small fit are =
      let within : vertices_of part.ends ≤ VERTICES = can.whole.within in
      record {
        n = omega (arith, within);
        round = small;
        totals = fit;
        rows = are;
        ins = λ v. (degree_fits part.degrees v can.degrees).ins;
        outs = λ v. (degree_fits part.degrees v can.degrees).outs;
      }

-- ---- the dense block
pub dense_of : (p : Program) (d : Dense) → IsFitting p → p.dense ≡ Some d → DenseParts (field_kinds p) d
dense_of p d fit is =
    let own = parts p fit in
    dense_parts (field_kinds p) d (subst (λ o. option_all (dense_typed (field_kinds p)) o ≡ true) is own.dense.0)
    (subst (λ o. option_all dense_fits o ≡ true) is own.dense.1)

pub fits_at : (kinds : List ValueType) (words : List ℤ) → length words ≡ length kinds → AreWords kinds words → (i : ℕ) →
    FitsSigned w64 (word_at words i)
fits_at kinds [] n are i = zero_fits
fits_at [] (x ∷ xs) n are i = absurd (omega (arith, n))
fits_at (k ∷ ks) (x ∷ xs) n are zero = (are zero k refl).fits
fits_at (k ∷ ks) (x ∷ xs) n are (suc i) = fits_at ks xs (omega (arith, n)) (λ j. are (suc j)) i

pub all_fit_at : (words : List ℤ) → All (FitsSigned w64) words → (i : ℕ) → FitsSigned w64 (word_at words i)
all_fit_at [] h i = zero_fits
all_fit_at (x ∷ xs) h zero = All-head (FitsSigned w64) x xs h
all_fit_at (x ∷ xs) h (suc i) = all_fit_at xs (All-tail (FitsSigned w64) x xs h) i
