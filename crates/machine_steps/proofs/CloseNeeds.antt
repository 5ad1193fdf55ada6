-- What the soundness of a state tells at the close of a round, and counts of which each is 0.
use Rattle.std.proofs.Common.{◌≡◌, ◌≤◌, ◌<◌, ◌+◌, ℕ, zero, suc, Bool, true, false, List, [], ◌∷◌, ◌++◌, All, length, map, replicate, refl, sym, ap, subst, ◌∙◌, arith}
use Rattle.std.specs.Prelude.{slice_index}
use Rattle.std.proofs.Math.ListN.{length-map, length-replicate}
use Rattle.std.proofs.Math.Logic.{∥∥₁_elim}
use Rattle.std.proofs.Props.{props}
use Rattle.std.proofs.lemmas.List.Elements.{All-weaker}
use Rattle.circulant_plan.specs.declared.spot.Spot.TheVariants.{Close}
use Rattle.slot_merge.specs.declared.partial.Partial.{Partial}
use Rattle.vert_eval.specs.Rounds.{slot_ops}
use Rattle.vert_tree.proofs.TypedLaws.{few_rounds}
use Rattle.instrument.specs.declared.split.Split.{Split}
use Rattle.symple_face.specs.CoreSight.{program_of, targets_of}
use Rattle.symple_face.specs.CoreTakes.{classes_of, reduced_ops, slot_count}
use Rattle.symple_face.specs.Parts.{PlainPart, chunk_vertices}
use Rattle.symple_face.specs.Shapes.{reduced_in}
use Rattle.symple_face.specs.State.{State}
use Rattle.machine_parts.specs.Flat.{zip_with}
use Rattle.slot_merge.specs.Partials.{empty_partial}
use Rattle.work_laws.specs.Sound.{ArePartials, FitsSpot, core_sound}
use Rattle.machine_steps.specs.Counts.{AreCounts, first_read, lists_read}
use Rattle.machine_steps.proofs.BlankLaws.{count_empty}

-- ---- counts
none_beside : (part : PlainPart) (vs : List ℕ) (n : ℕ) → n ≡ length vs →
    zip_with (first_read part) vs (replicate n 0) ≡ map (λ v. []) vs
none_beside part [] n is = refl
none_beside part (v ∷ vs) zero is = absurd (omega arith)
none_beside part (v ∷ vs) (suc n) is = ap (λ xs. [] ∷ xs) (none_beside part vs n (omega arith))

-- where no member was read, no source was
pub none_read : (part : PlainPart) (n : ℕ) → n ≡ length (targets_of part) →
    lists_read part (replicate n 0) ≡ map (λ v. []) (targets_of part)
none_read part n is = none_beside part (targets_of part) n is

zero_at : (n i : ℕ) → i < n → slice_index (replicate n 0) i ≡ 0
zero_at zero i lt = absurd (omega arith)
zero_at (suc n) zero lt = refl
zero_at (suc n) (suc i) lt = zero_at n i (omega arith)

pub none_counted : (part : PlainPart) (n : ℕ) → n ≡ length (targets_of part) → AreCounts part (replicate n 0)
none_counted part n is =
    let long = length-replicate {A = ℕ} n 0 in
    record {
      each = long ∙ is;
      within = λ i lt.
          let none = zero_at n i (omega (arith, long)) in
          omega (arith, none);
    }

-- ---- partials
pub wide_partials : (split : Split) (width : ℕ) (all : List (List Partial)) →
    width ≡ slot_count split + length (reduced_in split.dense) → All (ArePartials split) all →
    All (λ ps. length ps ≡ width) all
wide_partials split width all wide are =
    All-weaker (ArePartials split) (λ ps. length ps ≡ width)
    (λ ps each.
    sym (length-map ps (λ q. q.op)) ∙ ap length each.ops
    ∙ sym (length-map (slot_ops (program_of split) ++ reduced_ops (classes_of split.dense)) empty_partial)
    ∙ count_empty split ∙ sym wide) all are

-- ---- a sound state
pub record CloseNeeds (s : State) (width r : ℕ) : Type 0 where
  pub rows : length s.rows ≡ length (chunk_vertices s.part.ends s.part.at.machine)
  pub partials : length s.partials ≡ length s.rows
  pub ring : length s.ring ≡ length s.rows
  pub cells : All (λ ps. length ps ≡ width) s.partials
  pub round : r ≤ 10000

-- at a close it has what the close asks for
pub needs_at : (s : State) (width r : ℕ) (dense : Bool) →
    width ≡ slot_count s.split + length (reduced_in s.split.dense) →
    s.at.spot ≡ Close r dense → ∥ core_sound s ∥₁ → CloseNeeds s width r
needs_at s width r dense wide is sound =
    ∥∥₁_elim sound (hlevel props)
    (λ k. record {
      rows = k.fits.rows.0;
      partials = k.fits.partials.0 ∙ sym k.fits.rows.0;
      ring = k.fits.ring.0 ∙ sym k.fits.rows.0;
      cells = wide_partials s.split width s.partials wide k.fits.partials.1;
      round = low dense (subst (FitsSpot s) is k.spot) (few_rounds (program_of s.split) k.can.program.typed);
    })
  where
    low : (b : Bool) → FitsSpot s (Close r b) → (program_of s.split).limit ≤ 10000 → r ≤ 10000
    low true fits few = let most = fits.1.1 in omega arith
    low false fits few = let most = fits.1.1 in omega arith
