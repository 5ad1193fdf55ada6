-- What is known of the courses of the two tasks.
use Rattle.std.proofs.Common.{◌≡◌, ◌≢◌, ℕ, zero, suc, ◌+◌, List, [], ◌∷◌, drop, length, map, refl, sym, ap, subst, ◌∙◌}
use Rattle.std.specs.List.{range_with_len}
use Rattle.std.specs.Int.{div_ceil}
use Rattle.std.specs.Prelude.{sum}
use Rattle.chunk_split.specs.Bounds.{ends_from, reach}
use Rattle.command_steps.specs.Commands.{part_name, part_names}
use Rattle.command_steps.specs.Courses.{TakesNothing}
use Rattle.command_steps.specs.Orders.{Course, Play, Task, follows}
use Rattle.command_steps.specs.Quiet.{IsNoneOf, IsQuiet, Spares}
use Rattle.machine_runs.proofs.FirstLaws.{parts_same}
use Rattle.part_runs.specs.Parting.{IsParted, parted}
use Rattle.part_runs.specs.Serving.{IsPart, IsRefused, IsServing, course_after}
use Rattle.symple_face.specs.Parts.{PlainPart}
use Rattle.symple_face.specs.PartsOf.{part_of}
use Rattle.symple_face.specs.Work.{Work}
use Rattle.vert_base.specs.declared.graph.Edge.{Edge}
use Rattle.worker_stream.specs.Worker.{End, Finishes, Lacks, Refuses, worker}

-- ---- parts

-- there are as many ends as machines
count_from : (p start : ℕ) (costs : List ℕ) → length (ends_from p start costs) ≡ p
count_from zero start costs = refl
count_from (suc zero) start costs = refl
count_from (suc (suc p)) start costs =
    let len = reach (div_ceil (sum costs) (suc (suc p))) costs in
    ap suc (count_from (suc p) (start + len) (drop len costs))

module _ (prefix program : List ℕ) where
  calm_parts : (parts : List PlainPart) → TakesNothing (parted prefix program parts)
  calm_parts [] = tt
  calm_parts (part ∷ parts) = calm_parts parts

  module _ (courses : Task → Course → Type 0) (ends : List ℕ) (draws : ℕ) (edges : List Edge) where
    abbrev of_machines : List ℕ → Course
    of_machines machines = parted prefix program (map (part_of ends draws edges) machines)

    spares_machines : (name : List ℕ) (machines : List ℕ) → IsNoneOf name (map (part_name prefix) machines) →
        Spares courses name (follows (of_machines machines))
    spares_machines name [] none = tt
    spares_machines name (m ∷ machines) none = (none.0, spares_machines name machines none.1)

    quiet_machines : (machines : List ℕ) → map (part_name prefix) machines ≡ [] →
        IsQuiet courses (follows (of_machines machines))
    quiet_machines [] none = tt
    quiet_machines (m ∷ machines) none = absurd (cc)

  module _ (play : Play) (course : Course) (is : IsParted play program prefix course) where
    count_is : length is.of_graph.one.ends ≡ play.machines
    count_is = ap length is.of_graph.ends_are ∙ count_from play.machines 0 _

    -- what holds of the parts of so many machines holds of the course
    holds : (P : Course → Type 0) →
        P (parted prefix program (map (part_of is.of_graph.one.ends is.of_graph.one.draws is.of_graph.one.edges)
        (range_with_len 0 play.machines))) → P course
    holds P fact =
        let ends = is.of_graph.one.ends in
        let one = part_of ends is.of_graph.one.draws is.of_graph.one.edges in
        subst P (sym (is.course_is ∙ ap (parted prefix program) is.of_graph.one.parts_are))
        (subst (λ (n : ℕ). P (parted prefix program (map one (range_with_len 0 n)))) (sym count_is) fact)

    pub parted_calm : TakesNothing course
    parted_calm = subst TakesNothing (sym is.course_is) (calm_parts is.parts)

    pub parted_spares : (courses : Task → Course → Type 0) (name : List ℕ) →
        IsNoneOf name (part_names prefix play.machines) → Spares courses name (follows course)
    parted_spares courses name none =
        holds (λ c. Spares courses name (follows c))
        (spares_machines courses is.of_graph.one.ends is.of_graph.one.draws is.of_graph.one.edges name
        (range_with_len 0 play.machines) none)

    pub parted_quiet : (courses : Task → Course → Type 0) → part_names prefix play.machines ≡ [] →
        IsQuiet courses (follows course)
    parted_quiet courses none =
        holds (λ c. IsQuiet courses (follows c))
        (quiet_machines courses is.of_graph.one.ends is.of_graph.one.draws is.of_graph.one.edges
        (range_with_len 0 play.machines) none)

  -- a graph is parted in one way
  pub parted_same : (play : Play) (course other : Course) → IsParted play program prefix course →
      IsParted play program prefix other → course ≡ other
  parted_same play course other a b =
      a.course_is
      ∙ ap (parted prefix program) (parts_same play.machines play.draws play.graph a.parts b.parts a.of_graph
      b.of_graph)
      ∙ sym b.course_is

-- ---- serving

module _ (work : Work) (bytes rows : List ℕ) where
  spares_after : (courses : Task → Course → Type 0) (name : List ℕ) → name ≢ rows → (end : End) →
      Spares courses name (follows (course_after work rows end))
  spares_after courses name apart (Finishes last) = (apart, tt)
  spares_after courses name apart (Refuses code at) = tt
  spares_after courses name apart (Lacks x) = tt

  pub serving_spares : (courses : Task → Course → Type 0) (name : List ℕ) → name ≢ rows → (course : Course) →
      IsServing work bytes rows course → Spares courses name (follows course)
  serving_spares courses name apart course (IsRefused why real reads is) =
      subst (λ c. Spares courses name (follows c)) (sym is) tt
  serving_spares courses name apart course (IsPart part split file is) =
      subst (λ c. Spares courses name (follows c)) (sym is)
      (λ input. spares_after courses name apart (worker work part split input).end)
