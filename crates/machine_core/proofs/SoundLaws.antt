-- What the soundness of a state tells of its numbers.
use Rattle.std.proofs.Common.{◌≡◌, ℕ, ◌+◌, ◌<◌, ◌≤◌, true, false, List, ◌++◌, length, sym, ap, ◌∙◌, arith}
use Rattle.std.specs.List.{All}
use Rattle.std.proofs.lemmas.List.{length-map}
use Rattle.vert_base.specs.declared.value.Combine.{Combine}
use Rattle.circulant_plan.specs.Standing.{round_of}
use Rattle.instrument.specs.declared.split.Split.{Split}
use Rattle.slot_merge.specs.declared.partial.Partial.{Partial}
use Rattle.slot_merge.specs.Partials.{empty_partial}
use Rattle.vert_eval.specs.Rounds.{slot_ops}
use Rattle.symple_face.specs.CoreTakes.{classes_of, reduced_ops, slot_count}
use Rattle.symple_face.specs.Shapes.{reduced_in, words_in}
use Rattle.std.proofs.Math.Logic.{∥∥₁_elim}
use Rattle.std.proofs.Props.{props}
use Rattle.circulant_plan.specs.declared.spot.Ring.{Ring}
use Rattle.circulant_plan.specs.declared.spot.Spot.{Spot}
use Rattle.circulant_plan.specs.declared.spot.Spot.TheVariants.{Tell, Judge, Begin, Scan, Close, Over}
use Rattle.circulant_plan.specs.Spots.{IsSpotOf}
use Rattle.symple_face.specs.CoreSight.{field_count, own_vertices, program_of}
use Rattle.symple_face.specs.Plans.{loop_carry, ring_of}
use Rattle.symple_face.specs.State.{State, p_of}
use Rattle.vert_tree.proofs.TypedLaws.{few_rounds}
use Rattle.machine_steps.proofs.BlankLaws.{count_empty}
use Rattle.work_laws.specs.Sound.{ArePartials, FitsSpot, core_sound}

low_round : (r limit : ℕ) → r ≤ limit + 1 → limit ≤ 10000 → r < 4294967295
low_round r limit low few = omega arith

spot_prop : (ring : Ring) (spot : Spot) → IsProp (IsSpotOf ring spot)
spot_prop ring Tell = hlevel props
spot_prop ring (Judge r) = hlevel props
spot_prop ring (Begin r) = hlevel props
spot_prop ring (Scan r step h) = hlevel props
spot_prop ring (Close r dense) = hlevel props
spot_prop ring Over = hlevel props

-- as many partials as there are slots and reduced lets
cells_of : (split : Split) (ps : List Partial) → ArePartials split ps →
    length ps ≡ slot_count split + length (reduced_in split.dense)
cells_of split ps are =
    let ops : List Combine = slot_ops (program_of split) ++ reduced_ops (classes_of split.dense) in
    sym (length-map ps (λ q. q.op)) ∙ ap length are.ops ∙ sym (length-map ops empty_partial) ∙ count_empty split

-- the numbers of a sound state: how many rows, partials and ring states it has, and how wide each of them is
pub record IsSteady (s : State) : Type 0 where
  pub round : s.at.round ≡ round_of s.at.round s.at.spot
  pub rows : length s.rows ≡ length (own_vertices s)
  pub fields : All (λ row. length row.words.items ≡ field_count s.split) s.rows
  pub partials : length s.partials ≡ length (own_vertices s)
  pub cells : All (λ ps. length ps ≡ slot_count s.split + length (reduced_in s.split.dense)) s.partials
  pub ring : length s.ring ≡ length (own_vertices s)
  pub words : All (λ st. length st.words ≡ words_in (loop_carry s.split.dense)) s.ring

steady_prop : (s : State) → IsProp (IsSteady s)
steady_prop s = hlevel props

steady_sound : (s : State) → core_sound s → IsSteady s
steady_sound s k = record {
  round = k.round;
  rows = k.fits.rows.0;
  fields = λ i d lt. (k.fits.rows.1 i d lt).count ∙ length-map (program_of s.split).fields.items (λ d. d.kind);
  partials = k.fits.partials.0;
  cells = λ i d lt. cells_of s.split _ (k.fits.partials.1 i d lt);
  ring = k.fits.ring.0;
  words = λ i d lt. (k.fits.ring.1 i d lt).count;
}

pub steady : (s : State) → ∥ core_sound s ∥₁ → IsSteady s
steady s sound = ∥∥₁_elim sound (steady_prop s) (steady_sound s)

module _ (s : State) where
  spot_fits : (spot : Spot) → (program_of s.split).limit ≤ 10000 → FitsSpot s spot →
      IsSpotOf (ring_of s.split (p_of s)) spot
  spot_fits Tell few fits = tt
  spot_fits (Judge r) few fits = let low = fits.1 in low_round r (program_of s.split).limit (omega arith) few
  spot_fits (Begin r) few fits = low_round r (program_of s.split).limit fits.1 few
  spot_fits (Scan r step h) few fits =
      let low = fits.1.1 in (low_round r (program_of s.split).limit (omega arith) few, fits.2, fits.3)
  spot_fits (Close r true) few fits = let low = fits.1.1 in low_round r (program_of s.split).limit (omega arith) few
  spot_fits (Close r false) few fits = let low = fits.1.1 in low_round r (program_of s.split).limit (omega arith) few
  spot_fits Over few fits = tt

  -- the spot is one of the table
  pub spot_of : ∥ core_sound s ∥₁ → IsSpotOf (ring_of s.split (p_of s)) s.at.spot
  spot_of sound =
      ∥∥₁_elim sound (spot_prop (ring_of s.split (p_of s)) s.at.spot)
      (λ k. spot_fits s.at.spot (few_rounds (program_of s.split) k.can.program.typed) k.spot)
