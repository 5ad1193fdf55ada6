-- A whole run keeps the types of words: an induction over its rounds.
use Rattle.std.proofs.Common.{◌≡◌, ◌<◌, ◌≤◌, ◌+◌, ◌-◌, ◌^◌, ℕ, zero, suc, List, [], ◌∷◌, length, All, ◌∙◌, FitsSigned, arith}
use Rattle.std.specs.Int.{w32}
use Rattle.std.proofs.lemmas.List.{length-map}
use Rattle.std.proofs.lemmas.List.Elements.{All-cons, All-head, All-nil, All-tail}
use Rattle.std.proofs.lemmas.List.FromFn.{length-range_with_len}
use Rattle.vert_base.specs.declared.graph.Edge.{Edge}
use Rattle.vert_base.specs.declared.value.Row.{Row}
use Rattle.vert_base.specs.declared.value.Ruling.{Ruling}
use Rattle.vert_base.specs.declared.value.Ruling.TheVariants as ruling
use Rattle.vert_base.specs.Neighbours.{source, target}
use Rattle.vert_tree.specs.Kinds.{kinds_of}
use Rattle.vert_eval.specs.Rounds.{row_after, rows_after, vertices_of}
use Rattle.vert_eval.specs.SourceRun.{Job, Run, Standing, by_ruling, first_row, first_rows, next_standing, played_at, rounds_from, scene_before, standing_after, then_runs}
use Rattle.word_kinds.specs.Fits.{IsEdge, IsFitting, IsRow, IsSized, PlaysInWords, RunsInWords, StandsInWords}
use Rattle.value_laws.specs.Laws.{BeginsInWords, EdgesAreSized, GoesOnInWords, ResumedInWords, ScenesHaveWords, WholeInWords}
use Rattle.vert_tree.proofs.TypedLaws.{few_rounds}
use Rattle.value_laws.proofs.Rows.{first_words, rows_words, totals_words}

-- ---- the edges of a graph
edges_are : (n : ℕ) (edges : List Edge) → n < 2 ^ 32 → All (λ e. (source e < n) × (target e < n)) edges →
    All (λ e. FitsSigned w32 e.weight) edges → All IsEdge edges
edges_are n [] small below weights = All-nil IsEdge
edges_are n (e ∷ es) small below weights =
    let ends = All-head (λ x. (source x < n) × (target x < n)) e es below in
    let there : source e < n = ends.0 in
    All-cons IsEdge e es
    (record { source = omega (arith, there, small); weight = All-head (λ x. FitsSigned w32 x.weight) e es weights })
    (edges_are n es small (All-tail (λ x. (source x < n) × (target x < n)) e es below)
    (All-tail (λ x. FitsSigned w32 x.weight) e es weights))

pub edges_sized : EdgesAreSized
edges_sized g small few below weights =
    record { vertices = small; edges = few; each = edges_are g.vertices g.edges small below weights }

-- ---- one round
stands : (job : Job) (round : ℕ) (rows : List Row) → IsFitting job.program → IsSized job.graph → round < 2 ^ 32 →
    All (IsRow (kinds_of job.program.fields.items)) rows → length rows ≡ job.graph.vertices →
    StandsInWords job (standing_after job round rows)
stands job round rows fit size small are count =
    record { rows = are; count = count; totals = totals_words job round rows fit size small are }

pub begins_in_words : BeginsInWords
begins_in_words job fit size =
    stands job 0 (first_rows job) fit size (omega arith) (first_words job fit size)
    (length-map (vertices_of job.graph) (first_row job) ∙ length-range_with_len 0 job.graph.vertices)

pub scene_words : ScenesHaveWords
scene_words job round s size small h = record { graph = size; rows = h.rows; totals = h.totals; round = small }

pub goes_on_in_words : GoesOnInWords
goes_on_in_words job round s fit size small h =
    let scene = scene_before job round s in
    stands job round (rows_after job.program s.ruling scene) fit size small
    (rows_words job.program s.ruling scene fit (scene_words job round s size small h) h.count)
    (length-map (vertices_of job.graph) (row_after job.program s.ruling scene)
    ∙ length-range_with_len 0 job.graph.vertices)

-- ---- all rounds
by_rounds : (job : Job) (r : Ruling) (ended going : Run) → RunsInWords job ended → RunsInWords job going →
    RunsInWords job (by_ruling r ended going)
by_rounds job ruling.Stop ended going p q = p
by_rounds job ruling.Dense ended going p q = q
by_rounds job ruling.Sparse ended going p q = q

ended_in_words : (job : Job) (s : Standing) → StandsInWords job s → RunsInWords job (record { rounds = []; last = s })
ended_in_words job s h = record { rounds = All-nil (PlaysInWords job); last = h }

rounds_in_words : (fuel : ℕ) (job : Job) (round : ℕ) (s : Standing) → fuel ≤ job.program.limit + 1 - round →
    IsFitting job.program → IsSized job.graph → StandsInWords job s → RunsInWords job (rounds_from fuel job round s)
rounds_in_words zero job round s within fit size h = ended_in_words job s h
rounds_in_words (suc more) job round s within fit size h =
    let few = few_rounds job.program fit.typed in
    let reached : round ≤ job.program.limit = omega (arith, within) in
    let small : round < 2 ^ 32 = omega (arith, reached, few) in
    let next = next_standing job round s in
    let left : more ≤ job.program.limit + 1 - (round + 1) = omega (arith, within) in
    let rest = rounds_in_words more job (round + 1) next left fit size
    (goes_on_in_words job round s fit size small h) in
    let played = played_at job round s in
    let plays : PlaysInWords job played =
    record { round = reached; stands = h; scene = scene_words job round s size small h } in
    let run = rounds_from more job (round + 1) next in
    by_rounds job s.ruling (record { rounds = []; last = s }) (then_runs played run) (ended_in_words job s h)
    (record { rounds = All-cons (PlaysInWords job) played run.rounds plays rest.rounds; last = rest.last })

pub resumed_in_words : ResumedInWords
resumed_in_words job round s fit size h =
    rounds_in_words (job.program.limit + 1 - round) job round s (omega arith) fit size h

pub whole_in_words : WholeInWords
whole_in_words job fit size =
    resumed_in_words job 1 (standing_after job 0 (first_rows job)) fit size (begins_in_words job fit size)
