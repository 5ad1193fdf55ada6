-- What is known of recorded runs as the source's run tells them.
use Rattle.std.proofs.Common.{◌≡◌, ◌≢◌, ℕ, List, [], ◌∷◌, length, refl, sym, ap, subst, ◌∙◌}
use Rattle.std.proofs.lemmas.Bool.{false≢true}
use Rattle.std.proofs.lemmas.Option.{same_Some}
use Rattle.circulant_plan.specs.Skeleton.{Skeleton, first_skeleton}
use Rattle.command_steps.specs.Courses.{TakesNothing}
use Rattle.command_steps.specs.Orders.{Course, Play, Task, follows}
use Rattle.command_steps.specs.Quiet.{Spares}
use Rattle.delivery_log.specs.Choosers.{behind_word, generator_of}
use Rattle.machine_runs.specs.SourceTellings.{IsDrawnOrder, by_source}
use Rattle.machine_runs.specs.Tellings.{recorded}
use Rattle.machine_runs.proofs.FirstLaws.{parts_same, splits_are_one}
use Rattle.rand_pcg.specs.Lcg.{Lcg}
use Rattle.symple_face.specs.Parts.{PlainPart}
use Rattle.symple_face.specs.Source.{Source, fresh_source, job_of}
use Rattle.symple_run.specs.SourceSchedules.{IsSourceRecord}
use Rattle.symple_run.specs.SourceTexts.{HasParts, first_order, source_on}
use Rattle.symple_run.proofs.CourseShapes.{recorded_calm, recorded_spares}
use Rattle.vert_base.specs.declared.message.Event.{Event}
use Rattle.schedule_laws.specs.OutputText.{next_by}

-- the drawn events are one list
drawn_one : (src : Source) (k : Skeleton) (g : Lcg) (es fs : List Event) → IsDrawnOrder src k g es →
    IsDrawnOrder src k g fs → es ≡ fs
drawn_one src k g [] [] a b = refl
drawn_one src k g [] (f ∷ fs) a b = absurd (false≢true (sym b.0 ∙ a))
drawn_one src k g (e ∷ es) [] a b = absurd (false≢true (sym a.0 ∙ b))
drawn_one src k g (e ∷ es) (f ∷ fs) a b =
    let same = same_Some e f (sym a.1 ∙ b.1) in
    let rest = drawn_one src (next_by src k e) (behind_word g) es fs a.2
    (subst (λ (x : Event). IsDrawnOrder src (next_by src k x) (behind_word g) fs) (sym same) b.2) in
    (λ i. same i ∷ rest i)

-- the parts of a graph make one run of the source
module _ (play : Play) (on other : HasParts play) where
  pub source_same : source_on play on ≡ source_on play other
  source_same =
      let split = splits_are_one on.split other.split (on.program_is ∙ sym other.program_is) in
      let ends = on.of_graph.ends_are ∙ sym other.of_graph.ends_are in
      let draws = on.of_graph.draws_are ∙ sym other.of_graph.draws_are in
      let edges = on.of_graph.edges_are ∙ sym other.of_graph.edges_are in
      (λ i. fresh_source (job_of (split i) (ends i) (draws i) (edges i)) (split i))

  pub order_same : first_order play on ≡ first_order play other
  order_same = ap (λ (parts : List PlainPart). first_skeleton (length parts))
      (parts_same play.machines play.draws play.graph on.parts other.parts on.of_graph other.of_graph)

-- ---- recorded runs
module _ (play : Play) (seed : ℕ) (name : List ℕ) where
  pub record_same : (course other : Course) → IsSourceRecord play seed name course →
      IsSourceRecord play seed name other → course ≡ other
  record_same course other a b =
      let src = source_same play a.on b.on in
      let k = order_same play a.on b.on in
      let events = drawn_one (source_on play b.on) (first_order play b.on) (generator_of seed) a.events b.events
      (subst (λ (s : Source). IsDrawnOrder s (first_order play b.on) (generator_of seed) a.events) src
      (subst (λ (x : Skeleton). IsDrawnOrder (source_on play a.on) x (generator_of seed) a.events) k a.drawn)) b.drawn
      in
      a.course_is
      ∙ (λ i. recorded (by_source play.lines (src i)) name play.machines [] (k i) (events i))
      ∙ sym b.course_is

  pub record_calm : (course : Course) → IsSourceRecord play seed name course → TakesNothing course
  record_calm course is = subst TakesNothing (sym is.course_is)
      (recorded_calm (by_source play.lines (source_on play is.on)) name play.machines [] (first_order play is.on)
      is.events)

  pub record_spares : (courses : Task → Course → Type 0) (other : List ℕ) → other ≢ name → (course : Course) →
      IsSourceRecord play seed name course → Spares courses other (follows course)
  record_spares courses other apart course is =
      subst (λ c. Spares courses other (follows c)) (sym is.course_is)
      (recorded_spares (by_source play.lines (source_on play is.on)) name play.machines courses other apart []
      (first_order play is.on) is.events)
