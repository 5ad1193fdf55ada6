-- A start that is ready for a graph is one for each part.
use Rattle.std.proofs.Common.{◌≡◌, ℕ, List, get_or, length, map, Ok, refl, sym, ap, subst, ◌∙◌, arith}
use Rattle.std.specs.List.{All, range_with_len}
use Rattle.std.proofs.lemmas.List.{get_or-map, length-map}
use Rattle.std.proofs.lemmas.List.Elements.{All-from_recursion, All-map}
use Rattle.chunk_split.specs.Chunks.{vertices_of}
use Rattle.check_point.specs.Judgement.{Reads}
use Rattle.check_point.specs.Laws.{StartIsReady}
use Rattle.graph_table.proofs.FilterLaws.{all_true}
use Rattle.instrument.specs.declared.split.Split.{Split}
use Rattle.symple_face.specs.Cluster.{IsOneRun}
use Rattle.symple_face.specs.declared.part.Part.{Part}
use Rattle.symple_face.specs.declared.start.Start.{Start}
use Rattle.symple_face.specs.Parts.{PlainPart}
use Rattle.symple_face.specs.PartViews.{plain_of}
use Rattle.symple_face.specs.PartsOf.{part_of}
use Rattle.symple_face.specs.Restarts.{IsStart}
use Rattle.symple_face.specs.Work.{PlainStart, plain_start}

-- each part of a run has its ends
each_part : (parts : List PlainPart) (one : IsOneRun parts) (P : PlainPart → Type 0) →
    ((whole : PlainPart) → whole.ends ≡ one.ends → P whole) → All P parts
each_part parts one P holds =
    subst (All P) (sym one.parts_are)
    (All-map P (part_of one.ends one.draws one.edges) (range_with_len 0 (length one.ends))
    (All-from_recursion (λ m. P (part_of one.ends one.draws one.edges m)) (range_with_len 0 (length one.ends))
    (all_true (λ m. P (part_of one.ends one.draws one.edges m))
    (λ m. holds (part_of one.ends one.draws one.edges m) refl) (range_with_len 0 (length one.ends)))))

pub parts_ready : (vertices : ℕ) (parts : List Part) (one : IsOneRun (map plain_of parts)) →
    vertices_of one.ends ≡ vertices → (split : Split) → All (λ part. part.split.value ≡ split) parts →
    (start : PlainStart) → ((whole : PlainPart) → vertices_of whole.ends ≡ vertices → IsStart whole split start) →
    All (λ part. IsStart (plain_of part) part.split.value start) parts
parts_ready vertices parts one sized split splits start ready = λ i d lt.
    let part = get_or parts i d in
    let all : All (λ (p : PlainPart). p.ends ≡ one.ends) (map plain_of parts) =
    each_part (map plain_of parts) one (λ p. p.ends ≡ one.ends) (λ whole same. same) in
    let ends : (plain_of part).ends ≡ one.ends =
    subst (λ (p : PlainPart). p.ends ≡ one.ends) (get_or-map plain_of parts i d (plain_of d) lt)
    (all i (plain_of d) (omega (arith, length-map parts plain_of, lt))) in
    subst (λ (s : Split). IsStart (plain_of part) s start) (sym (splits i d lt))
    (ready (plain_of part) (ap vertices_of ends ∙ sized))

-- the start that is read of an image is ready for the graph
module _ (split : Split) (vertices : ℕ) (key bytes : List ℕ) (start : Start) where
  pub read_ready : Reads split vertices key bytes (Ok start) → StartIsReady → (whole : PlainPart) →
      vertices_of whole.ends ≡ vertices → IsStart whole split (plain_start start)
  read_ready reads ready whole same =
      subst (λ (n : ℕ). Reads split n key bytes (Ok start) → IsStart whole split (plain_start start)) same
      (λ here. subst (IsStart whole split) (sym here.2) (ready whole split key bytes here.1)) reads
