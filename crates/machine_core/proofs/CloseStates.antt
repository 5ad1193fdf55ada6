-- The state of a machine that closed a round.
use Rattle.std.proofs.Common.{◌≡◌, ◌≤◌, ◌<◌, ◌^◌, ℕ, Bool, true, false, List, [], map, sym, subst, arith}
use Rattle.std.proofs.Math.Logic.{∥∥₁_map}
use Rattle.circulant_plan.specs.declared.spot.Spot.TheVariants.{Close}
use Rattle.vert_base.specs.declared.value.Row.{Row}
use Rattle.vert_tree.proofs.TypedLaws.{few_rounds}
use Rattle.slot_merge.specs.declared.partial.Partial.{Partial}
use Rattle.dep_layout.specs.Spelling.{State as LoopState}
use Rattle.symple_face.specs.CoreClose.{close_go}
use Rattle.symple_face.specs.CoreSight.{program_of, targets}
use Rattle.symple_face.specs.State.{State}
use Rattle.work_laws.specs.Sound.{FitsSpot, core_sound}
use Rattle.work_laws.proofs.Closes.{close_go_fits}
use Rattle.vertex_work.specs.Closing.{Closes}

-- a state with what the close leaves is the closed one
module _ (s : State) (r : ℕ) (dense : Bool) (own : List Row) (came : List (List Partial))
    (loops : List LoopState) (reading reads : List (List ℕ)) where
  pub closed_state : Closes s r dense own came loops → reading ≡ map (λ v. []) (targets s) → reads ≡ s.reading →
      record s { rows = own; partials = came; ring = loops; reading = reading; reads = reads } ≡ close_go s r
      dense
  closed_state closes none turned = λ j. record s {
    rows = closes.rows j;
    partials = closes.partials j;
    ring = closes.ring j;
    reading = none j;
    reads = turned j;
  }

-- it keeps what a core keeps
pub closed_sound : (s : State) (r : ℕ) (dense : Bool) → s.at.spot ≡ Close r dense → ∥ core_sound s ∥₁ →
    ∥ core_sound (close_go s r dense) ∥₁
closed_sound s r dense is sound =
    ∥∥₁_map sound
    (λ k.
    let spot = subst (FitsSpot s) is k.spot in
    record {
      can = k.can;
      fits = close_go_fits s k.can k.fits r dense
          (low dense spot (few_rounds (program_of s.split) k.can.program.typed));
      round = k.round;
      spot = subst (FitsSpot (close_go s r dense)) (sym is) (same dense spot);
    })
  where
    low : (b : Bool) → FitsSpot s (Close r b) → (program_of s.split).limit ≤ 10000 → r < 2 ^ 32
    low true fits few = let most = fits.1.1 in omega arith
    low false fits few = let most = fits.1.1 in omega arith

    same : (b : Bool) → FitsSpot s (Close r b) → FitsSpot (close_go s r dense) (Close r b)
    same true fits = fits
    same false fits = fits
