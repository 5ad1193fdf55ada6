-- What a scan of a half goes over.
use Rattle.std.proofs.Common.{◌≡◌, ◌<◌, ◌≤◌, ◌-◌, ℕ, Some, List, length, get_or, take, drop, sym, ap, subst, ◌∙◌, All, arith}
use Rattle.std.specs.Prelude.{if◌then◌else◌, slice_index}
use Rattle.std.proofs.lemmas.Bool.{eq-eqb, ltb-false}
use Rattle.std.proofs.lemmas.List.{get_or_default, length-take-le}
use Rattle.std.proofs.lemmas.List.FromFn.{length-range_with_len}
use Rattle.std.proofs.lemmas.Grind.{div_ceil_times}
use Rattle.vert_base.specs.declared.graph.Edge.{Edge}
use Rattle.vert_base.specs.Ends.{start_of}
use Rattle.vert_base.specs.Neighbours.{source}
use Rattle.vert_tree.specs.declared.program.Dense.{Dense}
use Rattle.vert_code.specs.declared.code.Code.{Code}
use Rattle.vert_code.specs.Blocks.{code_of, lists_of}
use Rattle.vert_code.specs.declared.instr.Block.TheVariants.{Loop}
use Rattle.vert_code.proofs.Programs.{code_names, code_runs}
use Rattle.dep_layout.specs.declared.fault.DepFault.TheVariants.{Length}
use Rattle.dep_layout.specs.Judgement.{FitsRing, mark_len, pairs_in}
use Rattle.dep_layout.specs.Reading.{read_of}
use Rattle.dep_layout.specs.Spelling.{State as LoopState}
use Rattle.dep_layout.proofs.LoopLaws.{length-front}
use Rattle.dep_layout.proofs.SpellingLaws.{passed}
use Rattle.dep_layout.proofs.StateLaws.{length-states_in}
use Rattle.instrument.specs.declared.split.Split.{Split}
use Rattle.instrument.specs.declared.split.SplitLoop.{SplitLoop}
use Rattle.symple_face.specs.declared.degree.Degree.{Degree}
use Rattle.symple_face.specs.CoreScan.{fresh}
use Rattle.symple_face.specs.CoreSight.{program_of}
use Rattle.symple_face.specs.Parts.{IsPart, PlainPart, chunk_vertices, refresh_list}
use Rattle.symple_face.specs.Plans.{loop_carry}
use Rattle.symple_face.specs.Shapes.{words_in}
use Rattle.symple_face.proofs.ChunkLaws.{lies_high, lies_low}
use Rattle.machine_parts.specs.Flat.{RowTable, fresh_state}
use Rattle.machine_steps.specs.Halves.{AreReceived}
use Rattle.vertex_work.specs.Known.{AreDegreesOf, known_in}
use Rattle.vertex_work.specs.Scanning.{AreOwnVertices}
use Rattle.vertex_work.specs.Stepping.{IsLoopOf}

-- the code of a program is that of its loop
module _ (code : Code) (split found : Split) (d : Dense) (parts : SplitLoop) where
  pub loop_is : lists_of code ≡ code_of split.program.program → found ≡ split →
      (program_of found).dense ≡ Some d → found.dense ≡ Some parts → IsLoopOf code found d parts
  loop_is compiled same block loop =
      let is : lists_of code ≡ code_of found.program.program =
      compiled ∙ ap (λ (s : Split). code_of s.program.program) (sym same) in
      record {
        block = block;
        loop = loop;
        placed = code_names found.program.program found.program.typed (lists_of code) is Loop;
        runs = code_runs found.program.program found.program.typed (lists_of code) is Loop;
      }

-- the degrees of the own chunk are those of its vertices
pub own_degrees : (part : PlainPart) (k : ℕ) (degrees : List Degree) → k ≡ part.at.machine →
    AreDegreesOf part (known_in part k) degrees →
    AreDegreesOf part (chunk_vertices part.ends part.at.machine) degrees
own_degrees part k degrees is known =
    subst (λ vs. AreDegreesOf part vs degrees)
    (ap (λ b. if b then chunk_vertices part.ends k else refresh_list part.ends k part.at.machine part.scan)
    (eq-eqb k part.at.machine is)
    ∙ ap (chunk_vertices part.ends) is) known

-- the rows, degrees and edges of the own vertices of a part
module _ (part : PlainPart) (start : ℕ) (degrees : List Degree) (table : RowTable) (edges : List Edge) where
  pub own_is : IsPart part → start ≡ start_of part.ends part.at.machine → edges ≡ part.scan →
      AreDegreesOf part (chunk_vertices part.ends part.at.machine) degrees →
      length table.rows ≡ length (chunk_vertices part.ends part.at.machine) →
      All (λ r. length r.words.items ≡ table.width) table.rows → AreOwnVertices start degrees table edges
  own_is is begins are known count wide =
      let first : ℕ = start_of part.ends part.at.machine in
      let size = length-range_with_len (start_of part.ends part.at.machine)
      (slice_index part.ends part.at.machine - start_of part.ends part.at.machine) in
      record {
        wide = wide;
        count = known.each ∙ sym count;
        own = subst (All (λ e. (start ≤ source e) × (source e - start < length degrees)
            × (source e - start < length table.rows))) (sym are)
            (λ k d lt.
            let lies = is.scan_chunk k d lt in
            let low = lies_low part.ends part.at.machine (source (get_or part.scan k d)) lies in
            let high = lies_high part.ends part.at.machine (source (get_or part.scan k d)) lies in
            (omega arith, omega (arith, known.each, size), omega (arith, count, size)));
        few = omega (arith, ap length are, is.few_scan, is.few);
      }

-- a body that fits spells a state for each vertex
received_count : (width size bools : ℕ) (dep : List ℕ) → FitsRing width size bools dep →
    length (read_of width size dep) ≡ size
received_count width size bools dep fits =
    let front : List ℕ = take (mark_len size) dep in
    let first = passed _ Length _ fits in
    let enough : mark_len size ≤ length dep = ltb-false _ _ first.0 in
    let marks : length (take (mark_len size) dep) ≡ mark_len size = length-take-le (mark_len size) dep enough in
    let most = div_ceil_times size 4 (omega arith) in
    length-states_in width (take size (pairs_in front)) (drop (mark_len size) dep)
    ∙ length-front size front (omega (arith, marks, most.0))

module _ (split : Split) (size width bools : ℕ) (dep : List ℕ) (states : List LoopState) where
  pub received_states : width ≡ words_in (loop_carry split.dense) →
      FitsRing (words_in (loop_carry split.dense)) size bools dep → states ≡ read_of width size dep →
      AreReceived split size dep states
  received_states wide fits are =
      let all : states ≡ read_of (words_in (loop_carry split.dense)) size dep = are ∙ ap (λ w. read_of w size dep)
      wide in
      let count = received_count (words_in (loop_carry split.dense)) size bools dep fits in
      record {
        count = ap length all ∙ count;
        each = λ i lt.
            ap (λ (ss : List LoopState). get_or ss i (fresh_state 0)) all
            ∙ get_or_default (read_of (words_in (loop_carry split.dense)) size dep) i (fresh_state 0) (fresh split)
            (omega (arith, count));
      }
