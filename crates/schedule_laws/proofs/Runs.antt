-- The parts of a graph that can run a program have a run of the source.
use Rattle.std.proofs.Common.{◌≡◌, ◌<◌, ◌≤◌, ◌+◌, ℕ, zero, suc, List, length, map, All, refl, ap, subst, ◌∙◌, arith, ⊎_elim}
use Rattle.std.specs.List.{AllByRecursion, range_with_len}
use Rattle.std.proofs.lemmas.Bool.{cases_lt}
use Rattle.std.proofs.lemmas.List.{length-map}
use Rattle.std.proofs.lemmas.List.Elements.{recursion_from_All}
use Rattle.vert_eval.specs.SourceRun.{Job}
use Rattle.chunk_split.specs.Chunks.{vertices_of}
use Rattle.word_kinds.specs.Fits.{IsSized}
use Rattle.value_laws.proofs.WholeRuns.{begins_in_words, edges_sized}
use Rattle.instrument.specs.declared.split.Split.{Split}
use Rattle.symple_face.specs.Cluster.{IsOneRun}
use Rattle.symple_face.specs.Lawful.{CanRun}
use Rattle.symple_face.specs.Parts.{PlainPart}
use Rattle.symple_face.specs.PartsOf.{part_of}
use Rattle.symple_face.specs.Source.{job_of}
use Rattle.work_laws.proofs.Sights.{all_fit_at}
use Rattle.schedule_laws.specs.Runs.{FreshIsARun, ResumedIsARun}

each_made : {X : Type 0} (P : X → Type 0) (f : ℕ → X) (a n : ℕ) → AllByRecursion P (map f (range_with_len a n)) →
    (m : ℕ) → a ≤ m → m < a + n → P (f m)
each_made P f a zero all m low high = absurd (omega (arith, low, high))
each_made P f a (suc n) all m low high =
    ⊎_elim (λ (more : a < m). each_made P f (a + 1) n all.1 m (omega (arith, more)) (omega (arith, high)))
    (λ (not : m ≤ a). let same : a ≡ m = omega (arith, not, low) in subst (λ k. P (f k)) same all.0)
    (cases_lt a m)

module _ (split : Split) (parts : List PlainPart) (one : IsOneRun parts) (all : All (λ part. CanRun part split) parts)
  where
    abbrev job : Job
    job = job_of split one.ends one.draws one.edges

    can_run : (m : ℕ) → m < length one.ends → CanRun (part_of one.ends one.draws one.edges m) split
    can_run m lt =
        each_made (λ part. CanRun part split) (part_of one.ends one.draws one.edges) 0 (length one.ends)
        (recursion_from_All (λ part. CanRun part split) _ (subst (All (λ part. CanRun part split)) one.parts_are all)) m
        (omega arith) (omega (arith, lt))

    sized : IsSized job.graph
    sized =
        let within = one.within in
        let few = one.few in
        edges_sized job.graph (omega (arith, within)) (omega (arith, few)) one.below one.weights

pub fresh_is_a_run : FreshIsARun
fresh_is_a_run split parts one all =
    let run : Job = job split parts one all in
    let can = can_run split parts one all in
    record {
      program = refl;
      ends = one.chunks;
      sized = refl;
      graph = sized split parts one all;
      can_run = can;
      base = omega arith;
      stands = begins_in_words run (can 0 one.chunks.0).program (sized split parts one all);
      totals = length-map run.program.totals.items _;
      first = λ e. refl;
    }

pub resumed_is_a_run : ResumedIsARun
resumed_is_a_run split parts one whole start all same is =
    let late = is.late in
    record {
      program = refl;
      ends = one.chunks;
      sized = refl;
      graph = sized split parts one all;
      can_run = can_run split parts one all;
      base = omega (arith, late);
      stands = record {
        rows = is.typed;
        count = is.rows ∙ ap vertices_of same;
        totals = all_fit_at start.totals is.words;
      };
      totals = is.totals;
      first = λ e. absurd (omega (arith, e, late));
    }
