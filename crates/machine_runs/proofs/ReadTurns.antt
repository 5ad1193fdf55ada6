-- What the machines of the steps read for a vertex, as a line.
use Rattle.std.proofs.Common.{◌≡◌, ℕ, ◌+◌, ◌<◌, ◌≤◌, true, false, not, List, [], ◌∷◌, ◌++◌, get_or, drop, length, map, take, flat_map, codes, Some, refl, sym, ap, subst, ◌∙◌, arith, slice_get}
use Rattle.std.specs.Prelude.{◌==◌}
use Rattle.std.specs.List.{range_with_len}
use Rattle.std.proofs.lemmas.Bool.{false≢true}
use Rattle.std.proofs.lemmas.Bool.Decides.{nat_tests}
use Rattle.std.proofs.lemmas.Grind.{flat_map-append}
use Rattle.std.proofs.lemmas.List.{length-map, take_all, take_more}
use Rattle.std.proofs.lemmas.List.Concat.{length-flat_map}
use Rattle.std.proofs.lemmas.List.Sums.{get_or-le-sum_by}
use Rattle.array_text.specs.Reads.{read_head_text, source_text, sources_text}
use Rattle.circulant_plan.specs.Ring.{order_of}
use Rattle.schedule_laws.specs.Layout.{ends_in, reads_by_steps, reads_in, reads_with, vertices_in}
use Rattle.schedule_laws.specs.Texts.{read_line, read_lines}
use Rattle.chunk_split.specs.Chunks.{vertices_of}
use Rattle.std.proofs.lemmas.List.FromFn.{get_or-map-range_with_len, length-range_with_len}
use Rattle.machine_runs.proofs.NumberedLaws.{numbered_all, numbered_more, numbered_split}
use Rattle.machine_runs.proofs.RoundLaws.{reads_numbered}
use Rattle.command_steps.proofs.TextLaws.{all_numbers, below_numbers, number_at}
use Rattle.symple_face.specs.Cluster.{World}
use Rattle.symple_face.specs.State.{State}
use Rattle.symple_face.specs.Work.{Work}
use Rattle.symple_face.specs.Ideal.{owner_of}
use Rattle.vert_base.specs.declared.graph.VertexId.{VertexId}

-- what the machine of a step read for a vertex of a chunk
abbrev pub read_in_step : Work → World → ℕ → ℕ → ℕ → List ℕ
read_in_step work w c v step = reads_with work v (slice_get w.sites (order_of c step (length w.sites)))

-- the text of it
abbrev pub step_text : Work → World → ℕ → ℕ → ℕ → List ℕ
step_text work w c v step = sources_text (read_in_step work w c v step)

-- it is what the machine there tells
module _ (work : Work) (w : World) (c v step machine : ℕ) (s : State) (sources : List VertexId) where
  pub read_there : machine ≡ order_of c step (length w.sites) → slice_get w.sites machine ≡ Some s →
      map (λ u. u.0) sources ≡ work.reads s v → map (λ u. u.0) sources ≡ read_in_step work w c v step
  read_there is at same =
      same ∙ sym (ap (reads_with work v) at)
      ∙ ap (λ (m : ℕ). reads_with work v (slice_get w.sites m)) is

-- the texts of all steps are that of the whole line
pub steps_text : (work : Work) (w : World) (c v : ℕ) (steps : List ℕ) →
    flat_map (step_text work w c v) steps ≡ sources_text (flat_map (read_in_step work w c v) steps)
steps_text work w c v [] = refl
steps_text work w c v (step ∷ steps) =
    ap (λ (rest : List ℕ). step_text work w c v step ++ rest) (steps_text work w c v steps)
    ∙ sym (flat_map-append source_text (read_in_step work w c v step) (flat_map (read_in_step work w c v) steps))

-- ---- whether there is a line
module _ {X : Type 0} (f : ℕ → List X) (xs : List ℕ) (i d : ℕ) where
  -- what an element gives is among what all give
  some_in : i < length xs → 0 < length (f (get_or xs i d)) → 0 < length (flat_map f xs)
  some_in lt some = omega (arith, some, get_or-le-sum_by (λ x. length (f x)) xs i d lt, length-flat_map f xs)

  none_more : i < length xs → flat_map f (take i xs) ≡ [] → f (get_or xs i d) ≡ [] → flat_map f (take (i + 1) xs) ≡ []
  none_more lt none here =
      ap (flat_map f) (take_more xs i d lt)
      ∙ flat_map-append f (take i xs) (get_or xs i d ∷ [])
      ∙ ap (λ (l : List X). l ++ (f (get_or xs i d) ++ [])) none
      ∙ ap (λ (l : List X). l ++ []) here

  none_at_all : length xs ≤ i → flat_map f (take i xs) ≡ [] → flat_map f xs ≡ []
  none_at_all all none = sym (ap (flat_map f) (take_all i xs all)) ∙ none

pub some_test : {X : Type 0} (xs : List X) → 0 < length xs → true ≡ not (length xs == 0)
some_test [] some = absurd (omega arith)
some_test (x ∷ xs) some = grind (arith, nat_tests)

pub none_test : {X : Type 0} (xs : List X) → xs ≡ [] → false ≡ not (length xs == 0)
none_test {X = X} xs none = sym (ap (λ (l : List X). not (length l == 0)) none)

empty_if : {X Y : Type 0} (f : X → Y) (xs : List X) → length xs ≡ 0 → map f xs ≡ []
empty_if f [] none = refl
empty_if f (x ∷ xs) none = absurd (omega arith)

module _ (work : Work) (w : World) (c v step : ℕ) (sources : List VertexId) (lt : step < length w.sites)
    (is : map (λ u. u.0) sources ≡ read_in_step work w c v step) where
  abbrev steps : List ℕ
  steps = range_with_len 0 (length w.sites)

  here : read_in_step work w c v step ≡ read_in_step work w c v (get_or steps step 0)
  here = ap (read_in_step work w c v) (number_at (length w.sites) step lt)

  pub read_some : 0 < length sources → true ≡ not (length (reads_by_steps work w c v) == 0)
  read_some some =
      some_test (reads_by_steps work w c v)
      (some_in (read_in_step work w c v) steps step 0 (below_numbers (length w.sites) step lt)
      (subst (λ (l : List ℕ). 0 < length l) (is ∙ here) (omega (
        arith,
        some,
        length-map sources (λ (u : VertexId).
            u.0),
      ))))

  pub read_none_more : length sources ≡ 0 → flat_map (read_in_step work w c v) (take step steps) ≡ [] →
      flat_map (read_in_step work w c v) (take (step + 1) steps) ≡ []
  read_none_more none before =
      none_more (read_in_step work w c v) steps step 0 (below_numbers (length w.sites) step lt) before
      (sym here ∙ sym is ∙ empty_if (λ (u : VertexId). u.0) sources none)

pub read_none : (work : Work) (w : World) (c v step : ℕ) → length w.sites ≤ step →
    flat_map (read_in_step work w c v) (take step (range_with_len 0 (length w.sites))) ≡ [] →
    false ≡ not (length (reads_by_steps work w c v) == 0)
read_none work w c v step all none =
    none_test (reads_by_steps work w c v)
    (none_at_all (read_in_step work w c v) (range_with_len 0 (length w.sites)) step 0
    (all_numbers (length w.sites) step all) none)

-- ---- the line
pub line_of_some : (round v : ℕ) (sources : List ℕ) → true ≡ not (length sources == 0) →
    read_head_text round v ++ (sources_text sources ++ codes "\n") ≡ read_line round v sources
line_of_some round v [] some = absurd (false≢true (sym some))
line_of_some round v (u ∷ us) some = refl

pub line_of_none : (round v : ℕ) (sources : List ℕ) → false ≡ not (length sources == 0) →
    [] ≡ read_line round v sources
line_of_none round v [] none = refl
line_of_none round v (u ∷ us) none = absurd (false≢true (none ∙ sym (some_test (u ∷ us) (omega arith))))

-- the chunk of a vertex
pub reads_are : (work : Work) (w : World) (ends : List ℕ) (v c : ℕ) → ends_in w ≡ ends → owner_of ends v ≡ c →
    reads_by_steps work w c v ≡ reads_in work w v
reads_are work w ends v c same is =
    sym (ap (λ (es : List ℕ). reads_by_steps work w (owner_of es v) v) same
    ∙ ap (λ (k : ℕ). reads_by_steps work w k v) is)

-- ---- the lines of the vertices, one after another
module _ (work : Work) (w : World) (round k : ℕ) where
  abbrev lists : List (List ℕ)
  lists = map (reads_in work w) (vertices_in w)

  list_at_place : k < length (vertices_in w) → reads_in work w k ≡ get_or lists k []
  list_at_place lt =
      let n = vertices_of (ends_in w) in
      let count : length (vertices_in w) ≡ n = length-range_with_len 0 n in
      sym (get_or-map-range_with_len (reads_in work w) 0 n k k [] (omega (arith, count, lt)) (omega arith))

  long : k < length (vertices_in w) → k < length lists
  long lt = omega (arith, length-map (vertices_in w) (reads_in work w), lt)

  pub read_lines_more : k < length (vertices_in w) →
      read_lines round 0 (take k lists) ++ read_line round k (reads_in work w k)
      ≡ read_lines round 0 (take (k + 1) lists)
  read_lines_more lt = numbered_more (reads_numbered round) lists k [] (read_line round k (reads_in work w k)) (long lt)
      (ap (read_line round k) (list_at_place lt))

  pub read_lines_split : k < length (vertices_in w) →
      (read_lines round 0 (take k lists) ++ read_line round k (reads_in work w k))
      ++ read_lines round (k + 1) (drop (k + 1) lists) ≡ read_lines round 0 lists
  read_lines_split lt = numbered_split (reads_numbered round) lists k [] (read_line round k (reads_in work w k))
      (long lt)
      (ap (read_line round k) (list_at_place lt))

  pub read_lines_all : length (vertices_in w) ≤ k → read_lines round 0 (take k lists) ≡ read_lines round 0 lists
  read_lines_all all = numbered_all (reads_numbered round) lists k
      (omega (arith, length-map (vertices_in w) (reads_in work w), all))
