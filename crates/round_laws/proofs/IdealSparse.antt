-- The rows that the close of a sparse round makes of ideal contents are the source's.
use Rattle.std.proofs.Common.{◌≡◌, inl, inr, ◌<◌, ◌≤◌, ◌+◌, ◌-◌, ℕ, suc, ℤ, Bool, true, false, List, [], ◌∷◌, length, map, refl, sym, ap, subst, ◌∙◌, Some, arith, ⊎_elim}
use Rattle.std.specs.Prelude.{◌==◌, ◌&&◌, if◌then◌else◌, is_some, slice_index}
use Rattle.std.specs.List.{AllByRecursion, flat_map}
use Rattle.std.proofs.lemmas.Bool.{cases_lt, eq-eqb, ne_eqb}
use Rattle.vert_base.specs.declared.message.Name.{Name}
use Rattle.vert_base.specs.declared.message.NameKind.TheVariants as kind
use Rattle.vert_base.specs.declared.value.Ruling.TheVariants as ruling
use Rattle.vert_base.specs.Letters.{Letter, found}
use Rattle.vert_base.specs.Names.{same_name}
use Rattle.vert_base.specs.Neighbours.{source, turn_of}
use Rattle.vert_base.proofs.LetterLaws.{names_law}
use Rattle.vert_tree.specs.declared.program.Sparse.{Sparse}
use Rattle.slot_merge.specs.Combine.{words_for}
use Rattle.slot_merge.specs.Filled.{AreFilled}
use Rattle.vert_eval.specs.Rounds.{Scene, emitted_over, env_at, members_of, row_after, row_at, slot_ops}
use Rattle.chunk_split.specs.Chunks.{AreEnds, vertices_of}
use Rattle.circulant_plan.specs.declared.spot.Spot.TheVariants.{Close}
use Rattle.circulant_plan.specs.Names.{push_name}
use Rattle.circulant_plan.specs.Ring.{AreEndsUpTo, lies_in}
use Rattle.vert_base.specs.Ends.{start_of}
use Rattle.circulant_plan.specs.Standing.{Standing}
use Rattle.circulant_plan.proofs.ReadingLaws.{not_below, turns_at_its_end}
use Rattle.circulant_plan.proofs.SpanLaws.{is_below}
use Rattle.graph_table.proofs.FilterLaws.{all_range, all_weaker, filter_none, map_same}
use Rattle.symple_face.specs.CoreClose.{closed_row, closed_rows}
use Rattle.symple_face.specs.CoreSight.{none, own_sight, program_of}
use Rattle.symple_face.specs.CoreSparse.{key_of}
use Rattle.symple_face.specs.CoreTakes.{own_partials}
use Rattle.symple_face.specs.Ideal.{machines_of, owner_of}
use Rattle.symple_face.specs.Parts.{chunk_vertices}
use Rattle.symple_face.specs.PartsOf.{part_of}
use Rattle.symple_face.specs.Source.{Source, scene, stand}
use Rattle.symple_face.specs.State.{State}
use Rattle.symple_face.proofs.ChunkLaws.{chunk_within, lies_high, lies_is, lies_low, lies_within}
use Rattle.round_laws.specs.IdealClose.{ClosesSparseRound, SparseRowsAreIdeal}
use Rattle.round_laws.specs.IsIdeal.{HoldsBody, IsIdeal, came_words, awaits_begin, is_worked, keys_below, sends_came, sparse_words, words_by}
use Rattle.round_laws.specs.Partials.{partial_ops}
use Rattle.round_laws.specs.Sights.{StandsIn}
use Rattle.round_laws.specs.SparseClose.{push_buckets}
use Rattle.round_laws.proofs.Chunks.{ends_reach}
use Rattle.round_laws.proofs.IdealClose.{row_next}
use Rattle.round_laws.proofs.Keys.{keys_below as low_keys}
use Rattle.round_laws.proofs.Lowered.{lowered}
use Rattle.round_laws.proofs.Sights.{own_are_seen}
use Rattle.round_laws.proofs.SparseClose.{closes_sparse, members_below}

-- the owner of a vertex is a machine
pub owner_low : (ends : List ℕ) (u : ℕ) → 1 ≤ length ends → u < vertices_of ends → owner_of ends u < length ends
owner_low [] u some lt = absurd (omega arith)
owner_low (end ∷ ends) u some lt =
    ⊎_elim
    (λ (below : u < end). subst (λ b. (if b then 0 else owner_of ends u + 1) < suc (length ends))
    (sym (is_below u end below)) (omega arith))
    (λ (above : end ≤ u). subst (λ b. (if b then 0 else owner_of ends u + 1) < suc (length ends))
    (sym (not_below u end above))
    (later ends above (owner_low ends u) lt))
    (cases_lt u end)
  where
    later : (rest : List ℕ) → end ≤ u → (1 ≤ length rest → u < vertices_of rest → owner_of rest u < length rest) →
        u < vertices_of (end ∷ rest) → owner_of rest u + 1 < suc (length rest)
    later [] above more low =
        let only : length (end ∷ []) - 1 ≡ 0 = omega arith in
        let here : u < end = subst (λ i. u < slice_index (end ∷ []) i) only low in
        absurd (omega (arith, here, above))
    later (next ∷ rest) above more low =
        let on : length (end ∷ next ∷ rest) - 1 ≡ suc (length (next ∷ rest) - 1) = omega arith in
        let lt : u < vertices_of (next ∷ rest) = subst (λ i. u < slice_index (end ∷ next ∷ rest) i) on low in
        let inner = more (omega arith) lt in
        omega (arith, inner)

-- past the begin, a push that was taken was worked
pushes_worked : (src : Source) (at : Standing) (x : Name) → x.kind ≡ kind.Push → awaits_begin at.spot ≡ false →
    (held : List Letter) →
    AllByRecursion (λ l. HoldsBody l.name.kind src at l) held → is_some (found x held) ≡ true →
    is_worked (found x held) ≡ true
pushes_worked src at x is past [] all some = cc
pushes_worked src at x is past (y ∷ ys) all some =
    by (same_name y.name x) refl some (pushes_worked src at x is past ys all.1)
  where
    no_body : (l : Letter) → HoldsBody kind.Push src at l → is_worked (Some l) ≡ true
    no_body l (inl empty) = ap (λ b. length b == 0) empty
    no_body l (inr early) = let wrong : true ≡ false = sym early.1 ∙ past in cc

    by : (b : Bool) → same_name y.name x ≡ b → is_some (if b then Some y else found x ys) ≡ true →
        (is_some (found x ys) ≡ true → is_worked (found x ys) ≡ true) →
        is_worked (if b then Some y else found x ys) ≡ true
    by true same here rest =
        no_body y (subst (λ k. HoldsBody k src at y) (ap (λ n. n.kind) (names_law y.name x same) ∙ is) all.0)
    by false same here rest = rest here

clash : true ≡ false → ⊥
clash e = cc

and_false : (b c : Bool) → b ≡ false → (b && c) ≡ false
and_false b c is = ap (λ x. x && c) is

module _ (src : Source) (sparse : Sparse) (most m round : ℕ) (state : State)
    (program : program_of src.split ≡ src.job.program)
    (block : src.job.program.sparse ≡ Some sparse) (are : AreEnds most src.job.graph.ends)
    (sized : src.job.graph.vertices ≡ vertices_of src.job.graph.ends) (machine : m < machines_of src) where
  abbrev ends : List ℕ
  ends = src.job.graph.ends

  abbrev p : ℕ
  p = machines_of src

  abbrev n : ℕ
  n = src.job.graph.vertices

  abbrev sc : Scene
  sc = scene src round

  abbrev at : Standing
  at = record { spot = Close round false; round = round }

  abbrev s : State
  s = record state { part = part_of ends src.job.draws src.job.graph.edges m; split = src.split; at = at }

  own_block : (program_of src.split).sparse ≡ Some sparse
  own_block = ap (λ x. x.sparse) program ∙ block

  upto : AreEndsUpTo n p ends
  upto = subst (λ k. AreEndsUpTo k p ends) (sym sized) (ends_reach most ends are)

  module _ (is : IsIdeal src m s) (closing : ClosesSparseRound src m round s) where
    stands : StandsIn m s sc
    stands = record { machine = machine; part = refl; sized = sized; rows = is.rows; totals = is.totals closing.knows }

    abbrev came : ℕ → Bool
    came = sends_came src m at state.held

    all_came : (u : ℕ) → u < n → came u ≡ true
    all_came u lt = by (owner_of ends u == m) refl
      where
        by : (b : Bool) → (owner_of ends u == m) ≡ b → came u ≡ true
        by true own = ap (λ b. if b then true else is_worked
            (found (push_name round (owner_of ends u) m) state.held)) own
        by false other =
            ap (λ b. if b then true else is_worked (found (push_name round (owner_of ends u) m) state.held)) other
            ∙ pushes_worked src at (push_name round (owner_of ends u) m) refl refl state.held is.bodies
            (closing.taken (owner_of ends u) (owner_low ends u are.0 (subst (λ k. u < k) sized lt))
            (λ e. absurd (clash (sym (eq-eqb (owner_of ends u) m e) ∙ other))))

    module _ (v : ℕ) (lies : lies_in ends m v ≡ true) where
      low : start_of ends m ≤ v
      low = lies_low ends m v lies

      high : v < slice_index ends m
      high = lies_high ends m v lies

      turn_low : turn_of ends v ≤ n
      turn_low =
          let turn = turns_at_its_end n p m v ends upto machine (low, high) in
          let top = chunk_within most ends are m machine in
          omega (arith, turn, top, sized)

      abbrev buckets : ℕ → ℕ → List ℤ
      buckets = push_buckets src.split sparse sc v came

      words_are : came_words src m at state.held v ≡ buckets
      words_are = λ i place key.
          (ap (λ x. words_by x src m at state.held v place key) closing.sparse
          ∙ ap (λ o. sparse_words o src m at state.held v place key) own_block) i

      -- no key is above the vertices
      none_above : (place key : ℕ) → n ≤ key → buckets place key ≡ []
      none_above place key le =
          ap (λ es. words_for place (flat_map
          (emitted_over sc (slot_ops (program_of src.split)) sparse (env_at sc v (none src.split))) es))
          (filter_none (λ e. key_of n (turn_of ends v) (source e) == key && came (source e)) (members_of sc.graph v)
          (all_weaker (λ e. source e < n)
          (λ e. (key_of n (turn_of ends v) (source e) == key && came (source e)) ≡ false)
          (λ e lt. let below = low_keys n (turn_of ends v) (source e) turn_low lt in
          and_false (key_of n (turn_of ends v) (source e) == key) (came (source e))
          (ne_eqb (key_of n (turn_of ends v) (source e)) key (λ q. omega (arith, q, below, le))))
          (members_of sc.graph v)
          (members_below n (turn_of ends v) v src.job.graph.edges)))

      filled : AreFilled 0 (partial_ops src.split) buckets n (own_partials s v)
      filled =
          lowered 0 (partial_ops src.split) buckets (keys_below src) n (own_partials s v) none_above
          (subst (λ ws. AreFilled 0 (partial_ops src.split) ws (keys_below src) (own_partials s v)) words_are
          (is.partials v lies))

      row_closed : closed_row src.split (own_sight s round) (own_partials s v) v ≡ row_at (stand src (round + 1)).rows v
      row_closed =
          let seen = own_are_seen most m s sc are stands in
          closes_sparse src.split sparse (own_sight s round) sc v (own_partials s v) own_block seen.0
          (seen.1 v lies) turn_low
          came all_came filled
          ∙ ap (λ x. row_after x ruling.Sparse sc v) program
          ∙ row_next src round v ruling.Sparse closing.begun closing.sparse
          (subst (λ k. v < k) (sym sized) (lies_within most ends are m v machine lies))

    rows_closed : closed_rows s round false ≡ map (row_at (stand src (round + 1)).rows) (chunk_vertices ends m)
    rows_closed =
        map_same (λ v. closed_row src.split (own_sight s round) (own_partials s v) v)
        (row_at (stand src (round + 1)).rows) (chunk_vertices ends m)
        (all_range (λ v. closed_row src.split (own_sight s round) (own_partials s v) v ≡
        row_at (stand src (round + 1)).rows v) (start_of ends m) (slice_index ends m - start_of ends m)
        (λ v lo hi.
        let lies : lies_in ends m v ≡ true =
        lies_is (start_of ends m) (slice_index ends m) v lo (omega (arith, hi, lo)) in
        row_closed v lies))

  of_state : IsIdeal src m state → ClosesSparseRound src m round state →
      closed_rows state round false ≡ map (row_at (stand src (round + 1)).rows) (chunk_vertices ends m)
  of_state is closing =
      let same : state ≡ s = λ i. record state { part = is.part i; split = is.split i; at = closing.spot i } in
      subst (λ x. closed_rows x round false ≡ map (row_at (stand src (round + 1)).rows) (chunk_vertices ends m))
      (sym same)
      (rows_closed (subst (IsIdeal src m) same is) (subst (ClosesSparseRound src m round) same closing))

pub sparse_rows_ideal : SparseRowsAreIdeal
sparse_rows_ideal src sparse most m round s program block are sized machine is closing =
    of_state src sparse most m round s program block are sized machine is closing
