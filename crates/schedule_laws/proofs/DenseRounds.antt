-- A dense round of a run, and a sparse one, as the laws of single events want them.
use Rattle.std.proofs.Common.{◌≡◌, ◌<◌, ◌≤◌, ◌^◌, ℕ, true, List, length, sym, subst, ◌∙◌, Some, arith, ⊎_elim}
use Rattle.std.specs.Prelude.{slice_index}
use Rattle.std.proofs.lemmas.Bool.{cases_lt}
use Rattle.std.proofs.lemmas.List.{get_or_past, length-map}
use Rattle.vert_base.specs.declared.value.Row.{Row}
use Rattle.vert_base.specs.declared.value.Ruling.TheVariants as ruling
use Rattle.vert_base.specs.declared.value.ValueType.{ValueType}
use Rattle.vert_tree.specs.declared.program.Dense.{Dense}
use Rattle.vert_tree.specs.declared.program.Sparse.{Sparse}
use Rattle.vert_tree.specs.Kinds.{kinds_of}
use Rattle.vert_tree.specs.Places.{lets_in}
use Rattle.value_laws.proofs.Rounds.{row_count, row_words}
use Rattle.vert_eval.specs.Rounds.{row_at}
use Rattle.circulant_plan.specs.Ring.{lies_in}
use Rattle.body_shape.specs.Refresh.{HasFields, plain_row}
use Rattle.body_shape.specs.Shapes.{bool_bits}
use Rattle.symple_face.specs.CoreSight.{field_count, program_of}
use Rattle.symple_face.specs.Ideal.{machines_of}
use Rattle.symple_face.specs.Shapes.{carried_in, types_at, types_of}
use Rattle.symple_face.specs.Source.{Source, stand}
use Rattle.symple_face.proofs.ChunkLaws.{chunk_within, lies_high}
use Rattle.round_laws.specs.FoldPushes.{RunsSparse}
use Rattle.round_laws.specs.FoldScan.{IsDenseRound}
use Rattle.work_laws.proofs.Words.{words_fit}
use Rattle.schedule_laws.specs.Runs.{IsSourceRun}
use Rattle.schedule_laws.proofs.SourceSees.{runs, splits, states_fit}
use Rattle.schedule_laws.proofs.Stands.{fitting, stands_in_words}

module _ (src : Source) (run : IsSourceRun src) where
  abbrev n : ℕ
  n = src.job.graph.vertices

  abbrev ends : List ℕ
  ends = src.job.graph.ends

  -- a vertex of a chunk is one of the graph
  pub chunk_small : (c v : ℕ) → lies_in ends c v ≡ true → v < n
  chunk_small c v lies =
      let high = lies_high ends c v lies in
      let size = run.sized in
      ⊎_elim
      (λ (lt : c < length ends). let top = chunk_within 64 ends run.ends c lt in omega (arith, high, top, size))
      (λ (past : length ends ≤ c).
      let none : slice_index ends c ≡ 0 = get_or_past ends c 0 past in
      absurd (omega (arith, high, none)))
      (cases_lt c (length ends))

  pub runs_sparse : (sparse : Sparse) (m : ℕ) → src.job.program.sparse ≡ Some sparse → m < machines_of src →
      RunsSparse src sparse 64 m
  runs_sparse sparse m block machine = record {
    program = run.program;
    block = block;
    typed = (fitting src run).typed;
    ends = run.ends;
    sized = run.sized;
    machine = machine;
  }

  module _ (round : ℕ) (small : round < 2 ^ 31) where
    row_fields : (v : ℕ) → v < n → HasFields (field_count src.split) (plain_row (row_at (stand src round).rows v))
    row_fields v lt =
        let words = stands_in_words src run round (omega (arith, small)) in
        let kinds : List ValueType = kinds_of src.job.program.fields.items in
        let rows : List Row = (stand src round).rows in
        let size = words.count in
        let count : length (row_at rows v).words.items ≡ length kinds =
        row_count kinds rows words.rows v (omega (arith, lt, size)) in
        subst (λ p. HasFields (length p.fields.items) (plain_row (row_at rows v))) (sym run.program) (
          count ∙ length-map src.job.program.fields.items (λ d. d.kind),
          words_fit kinds (row_at rows v).words.items count (row_words kinds rows words.rows v),
        )

    pub dense_round : (d : Dense) → src.job.program.dense ≡ Some d → (stand src round).ruling ≡ ruling.Dense →
        IsDenseRound src d 64 round
    dense_round d block dense = record {
      runs = runs src run round small d block;
      ends = run.ends;
      few = omega arith;
      sized = run.sized;
      dense = dense;
      split = λ v lt. splits src run round small d v lt block;
      rows = row_fields;
      bools = bool_bits (types_at (types_of (lets_in (program_of src.split).dense)) (carried_in src.split.dense));
      states = λ v c count lies. states_fit src run round small d block v c (chunk_small c v lies) count;
    }
