-- A part file that is read is the file of the part that was written.
use Rattle.std.proofs.Common.{◌≡◌, ◌≢◌, ℕ, ◌^◌, ◌<◌, ◌∙◌, List, Some, Err, length, map, refl, sym, subst, arith}
use Rattle.std.specs.Prelude.{Bool, ◌==◌, slice_get}
use Rattle.std.specs.Int.{w32}
use Rattle.std.specs.Int.RustNames.{FitsSigned}
use Rattle.std.specs.List.{All, filter}
use Rattle.std.proofs.lemmas.List.Elements.{All-filter, All-from_recursion, All-map}
use Rattle.vert_base.specs.declared.graph.Edge.{Edge}
use Rattle.vert_base.specs.Neighbours.{in_order, source, target}
use Rattle.vert_base.proofs.Orders.{All-in_order}
use Rattle.word_kinds.specs.Fits.{HaveWeights}
use Rattle.value_laws.proofs.Rounds.{degree_small}
use Rattle.chunk_split.specs.Chunks.{vertices_of}
use Rattle.circulant_plan.specs.Ring.{lies_in}
use Rattle.graph_table.proofs.FilterLaws.{all_true}
use Rattle.instrument.specs.declared.split.Split.{Split}
use Rattle.program_reader.specs.Accepted.{Says}
use Rattle.program_reader.specs.Laws.{IsAccepted}
use Rattle.symple_face.specs.Cluster.{IsOneRun}
use Rattle.symple_face.specs.Lawful.{AreCounts}
use Rattle.symple_face.specs.Parts.{PlainPart, degree_in}
use Rattle.symple_face.specs.PartsOf.{known_of}
use Rattle.mirror_table.proofs.PartLaws.{part_is}
use Rattle.cluster_run.proofs.PartsAt.{part_at}
use Rattle.worker_stream.specs.declared.fault.PartFault.{PartFault}
use Rattle.worker_stream.specs.declared.fault.PartFault.TheVariants.{Magic, Length, Number, Text, Want}
use Rattle.worker_stream.specs.Answers.{ReadsPart}
use Rattle.worker_stream.specs.Back.{IsReadBack, IsWritable}
use Rattle.worker_stream.specs.PartFiles.{spelled_part}
use Rattle.worker_stream.proofs.BackLaws.{read_back, sections_again}
use Rattle.part_runs.specs.Serving.{IsPartFile}

-- ---- the parts of a run can be written
module _ (parts : List PlainPart) (one : IsOneRun parts) (text : List ℕ) (small : one.draws < 2 ^ 64)
    (accepted : IsAccepted text) where
  few : length one.edges < 2 ^ 32
  few = let most = one.few in omega (arith, most)

  weights_in : (first then : Edge → ℕ) (test : Edge → Bool) →
      HaveWeights
      (in_order first (vertices_of one.ends) (in_order then (vertices_of one.ends) (filter test one.edges)))
  weights_in first then test =
      All-in_order (λ e. FitsSigned w32 e.weight) first (vertices_of one.ends)
      (in_order then (vertices_of one.ends) (filter test one.edges))
      (All-in_order (λ e. FitsSigned w32 e.weight) then (vertices_of one.ends) (filter test one.edges)
      (All-filter test (λ e. FitsSigned w32 e.weight) one.edges one.weights))

  degrees_small : (m : ℕ) → All AreCounts (map (degree_in one.edges one.edges) (known_of one.ends one.edges m))
  degrees_small m =
      All-map AreCounts (degree_in one.edges one.edges) (known_of one.ends one.edges m)
      (All-from_recursion (λ v. AreCounts (degree_in one.edges one.edges v)) (known_of one.ends one.edges m)
      (all_true (λ v. AreCounts (degree_in one.edges one.edges v)) (λ v. record {
        ins = degree_small (λ e. target e == v) one.edges few;
        outs = degree_small (λ e. source e == v) one.edges few;
      }) (known_of one.ends one.edges m)))

  pub writable : (m : ℕ) (part : PlainPart) → slice_get parts m ≡ Some part → IsWritable part text
  writable m part there =
      let is = part_at parts one m part there in
      let low : m < length one.ends = is.1 in
      subst (λ (p : PlainPart). IsWritable p text) (sym is.0) (record {
        whole = part_is 64 one.ends one.edges one.chunks one.below m low one.draws one.within one.few;
        ends = one.chunks;
        place = low;
        draws = small;
        scan = weights_in target source (λ e. lies_in one.ends m (source e));
        push = weights_in source target (λ e. lies_in one.ends m (target e));
        degrees = degrees_small m;
        accepted = accepted;
      })

-- ---- and a file is read as the part that was written
module _ (part : PlainPart) (text : List ℕ) (fits : IsWritable part text) where
  pub part_one : (read : PlainPart) (split : Split) → IsPartFile (spelled_part part text) read split →
      (read ≡ part) × Says text split.program.program
  part_one read split is =
      let same = sections_again part text fits is.sections is.cut in
      (is.part_is ∙ same.0, subst (λ (q : List ℕ). Says q split.program.program) same.1 is.says)

  pub none_refused : (why : PartFault) → why ≢ Want → ReadsPart (spelled_part part text) (Err why) → ⊥
  none_refused why other reads = by why other (read_back part text fits (spelled_part part text) (Err why) refl reads)
    where
      by : (why : PartFault) → why ≢ Want → IsReadBack part text (Err why) → ⊥
      by Magic other e = e
      by Length other e = e
      by Number other e = e
      by Text other e = e
      by Want other e = other refl
