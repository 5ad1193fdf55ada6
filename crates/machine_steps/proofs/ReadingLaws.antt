-- The sources read of a vertex stand beside it among the targets.
use Rattle.std.proofs.Common.{◌≡◌, ℕ, zero, suc, ◌+◌, ◌-◌, ◌<◌, ◌≤◌, List, [], ◌∷◌, length, get_or, drop, refl, sym, ap, subst, ◌∙◌, arith, ⊎_elim}
use Rattle.std.specs.Prelude.{if◌then◌else◌}
use Rattle.std.specs.List.Sorted.{IsNonDecreasingBy}
use Rattle.std.proofs.lemmas.Bool.{cases_lt, eq-eqb, ne_eqb}
use Rattle.std.proofs.lemmas.List.{get_or-map, length-drop, length-map, length-take-le}
use Rattle.chunk_split.specs.Chunks.{vertices_of}
use Rattle.vert_base.specs.Neighbours.{bucket, target}
use Rattle.symple_face.specs.CoreSight.{beside, targets_of}
use Rattle.symple_face.specs.Parts.{PlainPart}
use Rattle.machine_parts.specs.declared.spans.Span.{Span}
use Rattle.machine_parts.specs.Spans.{AreSpans, IsSpan, vertex_of}
use Rattle.machine_parts.proofs.FlatLaws.{get_or-zip_with, length-zip_with}
use Rattle.machine_parts.proofs.SpanLaws.{no_span}
use Rattle.work_laws.specs.Sound.{members_in}
use Rattle.machine_steps.specs.Counts.{AreCounts, first_read, lists_read}

pub above : (v u : ℕ) → v ≤ u → (u ≡ v → ⊥) → v < u
above v u le other = omega arith

module _ {X : Type 0} (d : X) (v : ℕ) where
  beside_at : (us : List ℕ) (xs : List X) (i : ℕ) → length xs ≡ length us → i < length us →
      ((j : ℕ) → j < i → get_or us j 0 < v) → get_or us i 0 ≡ v → beside d v us xs ≡ get_or xs i d
  beside_at [] xs i same lt below here = absurd (omega arith)
  beside_at (u ∷ us) [] i same lt below here = absurd (omega arith)
  beside_at (u ∷ us) (x ∷ xs) zero same lt below here =
      ap (λ b. if b then x else beside d v us xs) (eq-eqb u v here)
  beside_at (u ∷ us) (x ∷ xs) (suc i) same lt below here =
      let first : u < v = below 0 (omega arith) in
      ap (λ b. if b then x else beside d v us xs) (ne_eqb u v (λ e. omega arith))
      ∙ beside_at us xs i (omega arith) (omega arith) (λ j low. below (suc j) (omega arith)) here

  beside_none : (us : List ℕ) (xs : List X) → ((j : ℕ) → j < length us → get_or us j 0 ≡ v → ⊥) →
      beside d v us xs ≡ d
  beside_none [] xs other = refl
  beside_none (u ∷ us) [] other = refl
  beside_none (u ∷ us) (x ∷ xs) other =
      ap (λ b. if b then x else beside d v us xs) (ne_eqb u v (other 0 (omega arith)))
      ∙ beside_none us xs (λ j low. other (suc j) (omega arith))

module _ (part : PlainPart) (counts : List ℕ) (fit : AreCounts part counts) (spans : List Span)
    (are : AreSpans target (vertices_of part.ends) part.scan spans) where
  count_is : length spans ≡ length (targets_of part)
  count_is = sym (length-map spans vertex_of) ∙ ap length are.vertices

  target_at : (j : ℕ) → j < length spans → get_or (targets_of part) j 0 ≡ vertex_of (get_or spans j no_span)
  target_at j lt = ap (λ vs. get_or vs j 0) (sym are.vertices) ∙ get_or-map vertex_of spans j no_span 0 lt

  module _ (place v : ℕ)
      (below : (i : ℕ) → i < place → vertex_of (get_or spans i no_span) < v)
      (others : (i : ℕ) → place ≤ i → i < length spans → v ≤ vertex_of (get_or spans i no_span)) where
    pub reads_here : place < length spans → vertex_of (get_or spans place no_span) ≡ v →
        beside [] v (targets_of part) (lists_read part counts) ≡ first_read part v (get_or counts place 0)
    reads_here lt here =
        let us : List ℕ = targets_of part in
        let n = count_is in
        let m = fit.each in
        let at : get_or us place 0 ≡ v = target_at place lt ∙ here in
        beside_at [] v us (lists_read part counts) place
        (length-zip_with (first_read part) us counts (sym m) ∙ m) (omega arith)
        (λ j low. subst (λ (x : ℕ). x < v) (sym (target_at j (omega arith))) (below j low)) at
        ∙ get_or-zip_with (first_read part) us counts place 0 0 [] (sym m) (omega arith)
        ∙ ap (λ u. first_read part u (get_or counts place 0)) at

    -- the spans rise, so that a later one isn't it either
    pub reads_none : IsNonDecreasingBy vertex_of spans →
        (place < length spans → v < vertex_of (get_or spans place no_span)) →
        beside [] v (targets_of part) (lists_read part counts) ≡ []
    reads_none up here =
        let n = count_is in
        beside_none [] v (targets_of part) (lists_read part counts)
        (λ j low e. other j low (sym (target_at j (omega arith)) ∙ e))
      where
        other : (j : ℕ) → j < length (targets_of part) → vertex_of (get_or spans j no_span) ≡ v → ⊥
        other j low e =
            let n = count_is in
            ⊎_elim
            (λ (lt : j < place). let h = below j lt in omega arith)
            (λ (from : place ≤ j).
            let h = here (omega arith) in let k = up place j no_span from (omega arith) in omega arith)
            (cases_lt j place)

  -- how many members a target has
  pub members_here : (place : ℕ) → place < length spans →
      length (members_in part (get_or (targets_of part) place 0))
      ≡ (get_or spans place no_span).end - (get_or spans place no_span).start
  members_here place lt =
      let span : Span = get_or spans place no_span in
      let is : IsSpan target part.scan span = are.each place no_span lt in
      let within = is.within in
      ap (λ v. length (bucket target v part.scan)) (target_at place lt)
      ∙ ap length (sym is.stand)
      ∙ length-take-le (span.end - span.start) (drop span.start part.scan)
      (omega (arith, length-drop span.start part.scan))

  pub count_fits : (place : ℕ) → place < length spans →
      (get_or spans place no_span).start + get_or counts place 0 ≤ (get_or spans place no_span).end
  count_fits place lt =
      let span : Span = get_or spans place no_span in
      let is : IsSpan target part.scan span = are.each place no_span lt in
      let some = is.some in
      let n = count_is in
      let m = fit.each in
      let few = fit.within place (omega arith) in
      let members = members_here place lt in
      omega arith
