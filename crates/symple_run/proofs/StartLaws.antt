-- What stands before a round of the source's run but the first is a start with which a run goes on.
use Rattle.std.proofs.Common.{◌≡◌, ◌≢◌, ◌⊎◌, ◌<◌, ◌≤◌, ◌+◌, ◌-◌, ◌*◌, ◌==◌, ℕ, zero, suc, ℤ, Bool, true, false, ◌||◌, nat_lt, List, [], ◌∷◌, ◌++◌, length, map, All, FitsSigned, w64, refl, sym, ap, subst, ◌∙◌, arith, ⊎_elim}
use Rattle.std.specs.Prelude.{filter, if◌then◌else◌, is_some, nat_le, sum}
use Rattle.std.specs.List.{range_with_len}
use Rattle.std.proofs.lemmas.Bool.{and_parts, cases_eq, cases_lt, eq-eqb, false≢true, ne_eqb}
use Rattle.std.proofs.lemmas.List.{length-map}
use Rattle.std.proofs.lemmas.List.Elements.{All-cons, All-head, All-nil, All-tail}
use Rattle.chunk_split.specs.Chunks.{vertices_of}
use Rattle.circulant_plan.specs.Skeleton.{Blocks}
use Rattle.instrument.specs.declared.split.Split.{Split}
use Rattle.mode_switch.specs.Ruling.{mode_of, ruling_of}
use Rattle.round_laws.proofs.FoldCloses.{at_most}
use Rattle.schedule_laws.specs.Laws.{whole_run}
use Rattle.schedule_laws.specs.Runs.{IsSourceRun}
use Rattle.state_laws.proofs.Sums.{sum-cons}
use Rattle.symple_face.specs.Cluster.{IsOneRun}
use Rattle.symple_face.specs.Parts.{PlainPart}
use Rattle.symple_face.specs.Planned.{has_block}
use Rattle.symple_face.specs.Plans.{blocks_of}
use Rattle.symple_face.specs.Restarts.{IsStart}
use Rattle.symple_face.proofs.ListLaws.{filter_few}
use Rattle.symple_face.proofs.TableLaws.{mode_block}
use Rattle.symple_run.specs.SourceImages.{start_before}
use Rattle.symple_run.proofs.ImagesTold.{not_below}
use Rattle.value_laws.proofs.WholeRuns.{whole_in_words}
use Rattle.vert_base.specs.declared.graph.Edge.{Edge}
use Rattle.vert_base.specs.declared.value.Mode.{Mode}
use Rattle.vert_base.specs.declared.value.Mode.TheVariants as mode
use Rattle.vert_base.specs.declared.value.Row.{Row}
use Rattle.vert_base.specs.declared.value.Ruling.{Ruling}
use Rattle.vert_base.specs.declared.value.Ruling.TheVariants.{Stop, Dense, Sparse}
use Rattle.vert_base.specs.Neighbours.{source}
use Rattle.vert_eval.specs.Rounds.{Graph, row_at}
use Rattle.vert_eval.specs.Values.{word_at}
use Rattle.vert_eval.specs.SourceRun.{Job, Played, Run, Standing, active_edges, active_vertices, by_ruling, first_rows, next_standing, played_at, rounds_from, source_run, standing_after, stops_after, then_runs, total_after}
use Rattle.vert_tree.specs.Limits.{mode_stands}
use Rattle.word_kinds.specs.Fits.{IsFitting, PlaysInWords}

-- ---- the edges that leave active vertices are no more than all edges
abbrev one : Bool → ℕ
one b = if b then 1 else 0

one_few : (b : Bool) → one b ≤ 1
one_few true = omega arith
one_few false = omega arith

-- a number is at least another one where it is that one, or at least the next
one_of_two : (x a : ℕ) → one (x == a) + one (nat_le (a + 1) x) ≤ one (nat_le a x)
one_of_two x a = ⊎_elim same other (cases_eq x a)
  where
    same : x ≡ a → one (x == a) + one (nat_le (a + 1) x) ≤ one (nat_le a x)
    same is =
        let p : one (x == a) ≡ 1 = ap one (eq-eqb x a is) in
        let q : one (nat_le (a + 1) x) ≡ 0 = ap one (not_below (a + 1) x (omega (arith, is))) in
        let r : one (nat_le a x) ≡ 1 = ap one (at_most a x (omega (arith, is))) in
        omega (arith, p, q, r)

    other : x ≢ a → one (x == a) + one (nat_le (a + 1) x) ≤ one (nat_le a x)
    other apart =
        let p : one (x == a) ≡ 0 = ap one (ne_eqb x a apart) in
        ⊎_elim
        (λ (low : x < a).
        let q : one (nat_le (a + 1) x) ≡ 0 = ap one (not_below (a + 1) x (omega (arith, low))) in
        omega (arith, p, q))
        (λ (high : a ≤ x).
        let r : one (nat_le a x) ≡ 1 = ap one (at_most a x high) in
        let q = one_few (nat_le (a + 1) x) in
        omega (arith, p, q, r))
        (cases_lt x a)

kept_one : (p : Edge → Bool) (e : Edge) (es : List Edge) →
    length (filter p (e ∷ es)) ≡ one (p e) + length (filter p es)
kept_one p e es = by (p e)
  where
    by : (b : Bool) → length (if b then e ∷ filter p es else filter p es) ≡ one b + length (filter p es)
    by true = omega arith
    by false = omega arith

passed : (a : ℕ) (es : List Edge) →
    length (filter (λ e. source e == a) es) + length (filter (λ e. nat_le (a + 1) (source e)) es)
    ≤ length (filter (λ e. nat_le a (source e)) es)
passed a [] = omega arith
passed a (e ∷ es) =
    let p = kept_one (λ e. source e == a) e es in
    let q = kept_one (λ e. nat_le (a + 1) (source e)) e es in
    let r = kept_one (λ e. nat_le a (source e)) e es in
    let here = one_of_two (source e) a in
    let rest = passed a es in
    omega (arith, p, q, r, here, rest)

module _ (act : ℕ → Bool) (es : List Edge) where
  abbrev leaving : ℕ → ℕ
  leaving v = if act v then length (filter (λ e. source e == v) es) else 0

  at_vertex : (v : ℕ) → leaving v ≤ length (filter (λ e. source e == v) es)
  at_vertex v = by (act v)
    where
      by : (b : Bool) → (if b then length (filter (λ e. source e == v) es) else 0)
          ≤ length (filter (λ e. source e == v) es)
      by true = omega arith
      by false = omega arith

  from_vertex : (a n : ℕ) →
      sum (map leaving (range_with_len a n)) ≤ length (filter (λ e. nat_le a (source e)) es)
  from_vertex a zero = omega arith
  from_vertex a (suc n) =
      let here = at_vertex a in
      let rest = from_vertex (a + 1) n in
      let both = passed a es in
      omega (arith, here, rest, both, sum-cons (leaving a) (map leaving (range_with_len (a + 1) n)))

leaving_few : (g : Graph) (rows : List Row) → active_edges g rows ≤ length g.edges
leaving_few g rows =
    let some = from_vertex (λ v. (row_at rows v).active) g.edges 0 g.vertices in
    let all = filter_few (λ e. nat_le 0 (source e)) g.edges in
    omega (arith, some, all)

-- ---- a round that takes place has its block, and an active vertex
block_by : (m : Mode) (leaves edges limit : ℕ) (dense sparse : Bool) → mode_stands m dense sparse ≡ true →
    has_block (record { limit = limit; dense = dense; sparse = sparse }) (mode_of leaves edges m) ≡ true
block_by mode.Dense leaves edges limit dense sparse stands = stands
block_by mode.Sparse leaves edges limit dense sparse stands = stands
block_by mode.Auto leaves edges limit dense sparse stands = by (nat_lt edges (20 * leaves))
  where
    by : (b : Bool) → has_block (record { limit = limit; dense = dense; sparse = sparse })
        (if b then Dense else Sparse) ≡ true
    by true = (and_parts dense sparse stands).0
    by false = (and_parts dense sparse stands).1

some_active : (active : ℕ) (late : Bool) → (active == 0 || late) ≡ false → 1 ≤ active
some_active zero late is = absurd (false≢true (sym is))
some_active (suc n) late is = omega arith

module _ (blocks : Blocks) (active : ℕ) where
  -- what is known of a ruling by which a round takes place
  record TakesPlace (ruling : Ruling) : Type 0 where
    block : has_block blocks ruling ≡ true
    some : 1 ≤ active

  unless_over : (b late : Bool) (ruling : Ruling) → (active == 0 || late) ≡ b → has_block blocks ruling ≡ true →
      (if b then Stop else ruling) ≢ Stop → TakesPlace (if b then Stop else ruling)
  unless_over true late ruling is block goes = absurd (goes refl)
  unless_over false late ruling is block goes = record { block = block; some = some_active active late is }

  unless_stopped : (b : Bool) (ruling : Ruling) → (ruling ≢ Stop → TakesPlace ruling) →
      (if b then Stop else ruling) ≢ Stop → TakesPlace (if b then Stop else ruling)
  unless_stopped true ruling known goes = absurd (goes refl)
  unless_stopped false ruling known goes = known goes

ruled : (split : Split) (job : Job) → job.program ≡ split.program.program → (round : ℕ) (rows : List Row) →
    (standing_after job round rows).ruling ≢ Stop →
    TakesPlace (blocks_of split) (active_vertices rows) (standing_after job round rows).ruling
ruled split job same round rows =
    let active = active_vertices rows in
    let leaves = active_edges job.graph rows in
    let edges = length job.graph.edges in
    let p = job.program in
    unless_stopped (blocks_of split) active (stops_after job round (standing_after job round rows).totals)
    (ruling_of active leaves edges (round + 1) p.limit p.mode)
    (unless_over (blocks_of split) active (active == 0 || nat_lt p.limit (round + 1)) (nat_lt p.limit (round + 1))
    (mode_of leaves edges p.mode) refl
    (subst (λ q. has_block (blocks_of split) (mode_of leaves edges q.mode) ≡ true) (sym same)
    (block_by split.program.program.mode leaves edges split.program.program.limit
    (is_some split.program.program.dense) (is_some split.program.program.sparse) (mode_block split))))

-- ---- the rounds of a run
pub no_rounds : {X : Type 0} (before : List Played) (at : Played) (behind : List Played) → [] ≡ before ++ at ∷ behind →
    X
no_rounds [] at behind is = cc
no_rounds (b ∷ before) at behind is = cc

first_same : (x y : Played) (xs ys : List Played) → x ∷ xs ≡ y ∷ ys → x ≡ y
first_same x y xs ys is = cc

others_same : (x y : Played) (xs ys : List Played) → x ∷ xs ≡ y ∷ ys → xs ≡ ys
others_same x y xs ys is = cc

among : (P : Played → Type 0) (before : List Played) (at : Played) (behind : List Played) →
    All P (before ++ at ∷ behind) → P at
among P [] at behind all = All-head P at behind all
among P (b ∷ before) at behind all = among P before at behind (All-tail P b (before ++ at ∷ behind) all)

module _ (job : Job) where
  -- a round that was played behind so many others from a round on: what stands before it follows of its rows
  record IsPlayed (round : ℕ) (before : List Played) (at : Played) : Type 0 where
    late : round + length before ≤ at.round
    ended : ℕ
    stands : at.before ≡ standing_after job ended at.before.rows
    going : at.before.ruling ≢ Stop

  module _ (at : Played) (behind : List Played) where
    module _ (more round ended : ℕ) (s : Standing) (stands : s ≡ standing_after job ended s.rows) where
      abbrev next : Run
      next = rounds_from more job (round + 1) (next_standing job round s)

      abbrev by : Ruling → Run
      by q = by_ruling q (record { rounds = []; last = s }) (then_runs (played_at job round s) next)

      abbrev Later : Type 0
      Later = (before : List Played) → next.rounds ≡ before ++ at ∷ behind → IsPlayed (round + 1) before at

      goes : Later → s.ruling ≢ Stop → (before : List Played) →
          played_at job round s ∷ next.rounds ≡ before ++ at ∷ behind → IsPlayed round before at
      goes later on [] there =
          subst (IsPlayed round []) (first_same (played_at job round s) at next.rounds behind there)
          (record { late = omega arith; ended = ended; stands = stands; going = on })
      goes later on (p ∷ before) there =
          let rest = later before (others_same (played_at job round s) p next.rounds (before ++ at ∷ behind) there) in
          let long : length (p ∷ before) ≡ suc (length before) = refl in
          let low = rest.late in
          record { late = omega (arith, long, low); ended = rest.ended; stands = rest.stands; going = rest.going }

      by_mode : Later → (q : Ruling) → s.ruling ≡ q → (before : List Played) →
          (by s.ruling).rounds ≡ before ++ at ∷ behind → IsPlayed round before at
      by_mode later Stop is before there =
          no_rounds before at behind (sym (ap (λ (q : Ruling). (by q).rounds) is) ∙ there)
      by_mode later Dense is before there =
          goes later (λ stops. dense (sym is ∙ stops)) before
          (sym (ap (λ (q : Ruling). (by q).rounds) is) ∙ there)
        where
          dense : Dense ≢ Stop
          dense e = cc
      by_mode later Sparse is before there =
          goes later (λ stops. sparse (sym is ∙ stops)) before
          (sym (ap (λ (q : Ruling). (by q).rounds) is) ∙ there)
        where
          sparse : Sparse ≢ Stop
          sparse e = cc

    played_in : (fuel round ended : ℕ) (s : Standing) → s ≡ standing_after job ended s.rows → (before : List Played) →
        (rounds_from fuel job round s).rounds ≡ before ++ at ∷ behind → IsPlayed round before at
    played_in zero round ended s stands before there = no_rounds before at behind there
    played_in (suc more) round ended s stands before there =
        by_mode more round ended s stands
        (played_in more (round + 1) round (next_standing job round s) refl) s.ruling refl before there

-- ---- words
all_words : (xs : List ℤ) → ((i : ℕ) → FitsSigned w64 (word_at xs i)) → All (FitsSigned w64) xs
all_words [] fits = All-nil (FitsSigned w64)
all_words (x ∷ xs) fits = All-cons (FitsSigned w64) x xs (fits 0) (all_words xs (λ i. fits (suc i)))

-- ---- the start before a later round of the whole run
module _ (split : Split) (parts : List PlainPart) (one_run : IsOneRun parts) (fits : IsFitting split.program.program)
    (run : IsSourceRun (whole_run split parts one_run)) (whole : PlainPart)
    (sized : vertices_of whole.ends ≡ vertices_of one_run.ends) where
  abbrev job : Job
  job = (whole_run split parts one_run).job

  pub later_start : (first : Played) (others : List Played) (at : Played) (behind : List Played) →
      (source_run job).rounds ≡ (first ∷ others) ++ at ∷ behind → IsStart whole split (start_before at)
  later_start first others at behind there =
      let words = among (PlaysInWords job) (first ∷ others) at behind
      (subst (All (PlaysInWords job)) there (whole_in_words job fits run.graph).rounds) in
      let is = played_in job at behind (job.program.limit + 1 - 1) 1 0 (standing_after job 0 (first_rows job)) refl
      (first ∷ others) there in
      let rows : List Row = at.before.rows in
      let place = ruled split job refl is.ended rows
      (λ stops. is.going (ap (λ (s : Standing). s.ruling) is.stands ∙ stops)) in
      let long : length (first ∷ others) ≡ suc (length others) = refl in
      let late = is.late in
      let active : at.before.active ≡ active_vertices rows = ap (λ (s : Standing). s.active) is.stands in
      let edges : at.before.edges ≡ active_edges job.graph rows = ap (λ (s : Standing). s.edges) is.stands in
      let some = place.some in
      let count : length rows ≡ job.graph.vertices = words.stands.count in
      let size = run.graph.vertices in
      let few = run.graph.edges in
      let passing : active_vertices rows ≤ length rows = filter_few (λ (r : Row). r.active) rows in
      let leaving = leaving_few job.graph rows in
      record {
        rows = count ∙ sym sized;
        typed = words.stands.rows;
        totals = ap (λ (s : Standing). length s.totals) is.stands
            ∙ length-map job.program.totals.items (total_after job is.ended rows);
        words = all_words at.before.totals words.stands.totals;
        late = omega (arith, long, late);
        within = words.round;
        block = ap (λ (s : Standing). has_block (blocks_of split) s.ruling) is.stands ∙ place.block;
        some = omega (arith, active, some);
        active = omega (arith, active, passing, count, size);
        edges = omega (arith, edges, leaving, few);
      }
