-- A machine that was just made has read nothing.
use Rattle.std.proofs.Common.{◌≡◌, ℕ, zero, suc, List, [], ◌∷◌, length, map, get_or, refl, sym, ap, subst, ◌∙◌, arith, replicate}
use Rattle.std.proofs.lemmas.List.{length-map, length-replicate}
use Rattle.vert_base.specs.Neighbours.{target}
use Rattle.chunk_split.specs.Chunks.{vertices_of}
use Rattle.machine_parts.specs.declared.spans.Span.{Span}
use Rattle.machine_parts.specs.Flat.{zip_with}
use Rattle.machine_parts.specs.Spans.{AreSpans, vertex_of}
use Rattle.symple_face.specs.CoreSight.{targets_of}
use Rattle.symple_face.specs.Parts.{PlainPart}
use Rattle.machine_steps.specs.Counts.{AreCounts, first_read, lists_read}

zeros_at : (n i : ℕ) → get_or (replicate n zero) i zero ≡ zero
zeros_at zero i = refl
zeros_at (suc n) zero = refl
zeros_at (suc n) (suc i) = zeros_at n i

none_read : (part : PlainPart) (vs : List ℕ) →
    zip_with (first_read part) vs (replicate (length vs) 0) ≡ map (λ v. []) vs
none_read part [] = refl
none_read part (v ∷ vs) = ap (λ xs. [] ∷ xs) (none_read part vs)

module _ (part : PlainPart) (spans : List Span) (are : AreSpans target (vertices_of part.ends) part.scan spans)
    (counts : List ℕ) (is : counts ≡ replicate (length spans) 0) where
  many : length spans ≡ length (targets_of part)
  many = sym (length-map spans vertex_of) ∙ ap length are.vertices

  zeros : counts ≡ replicate (length (targets_of part)) 0
  zeros = is ∙ ap (λ n. replicate n 0) many

  pub nothing_read : lists_read part counts ≡ map (λ v. []) (targets_of part)
  nothing_read = ap (lists_read part) zeros ∙ none_read part (targets_of part)

  pub zero_counts : AreCounts part counts
  zero_counts = subst (λ (xs : List ℕ). AreCounts part xs) (sym zeros)
      (record {
        each = length-replicate (length (targets_of part)) 0;
        within = λ i lt. omega (arith, zeros_at (length (targets_of part)) i);
      })
