-- A machine goes on from what the action of its spot leaves.
use Rattle.std.proofs.Common.{◌≡◌, ◌≢◌, ◌≤◌, ◌+◌, ◌-◌, ◌==◌, ℕ, Bool, true, false, List, [], refl, ap, sym, subst, ◌∙◌, arith}
use Rattle.std.specs.Prelude.{if◌then◌else◌, nat_le, nat_lt}
use Rattle.std.proofs.Math.Logic.{∥∥₁_elim, ∥∥₁_map}
use Rattle.std.proofs.lemmas.Bool.{and_parts, leb-true}
use Rattle.std.proofs.lemmas.List.Elements.{All-nil}
use Rattle.vert_base.specs.declared.value.Ruling.{Ruling}
use Rattle.vert_base.specs.declared.value.Ruling.TheVariants.{Stop, Dense, Sparse}
use Rattle.vert_base.specs.Letters.{Letter}
use Rattle.circulant_plan.specs.declared.spot.Ring.{Ring}
use Rattle.circulant_plan.specs.declared.spot.Spot.{Spot}
use Rattle.circulant_plan.specs.declared.spot.Spot.TheVariants.{Tell, Judge, Begin, Scan, Close, Over}
use Rattle.circulant_plan.specs.Skeleton.{Blocks, is_over, may_rule}
use Rattle.circulant_plan.specs.Standing.{next_standing, round_of, round_ruled}
use Rattle.circulant_plan.specs.Table.{next_spot}
use Rattle.double_buffer.specs.Held.{AreOfRound, Held}
use Rattle.symple_face.specs.declared.action.Action.TheVariants.{Ready}
use Rattle.circulant_plan.specs.Names.{verdict_name}
use Rattle.std.proofs.Props.{props}
use Rattle.symple_face.specs.CoreSight.{known, program_of}
use Rattle.symple_face.specs.CoreSparse.{begin_go}
use Rattle.vert_base.specs.declared.message.Name.{Name}
use Rattle.vert_tree.proofs.TypedLaws.{few_rounds}
use Rattle.symple_face.specs.CoreDense.{scan_kept, scan_read}
use Rattle.symple_face.specs.CoreWork.{acted, core_go, core_sent, held_at, moved}
use Rattle.symple_face.specs.Plans.{blocks_of, ring_of}
use Rattle.symple_face.specs.State.{State, action_of, machine, p_of}
use Rattle.work_laws.specs.Sound.{FitsSpot, core_sound}
use Rattle.work_laws.proofs.Gone.{go_sound, ready_knows}
use Rattle.work_laws.proofs.Moves.{acted_held}
use Rattle.work_laws.proofs.Sparse.{begin_go_fits}
use Rattle.machine_steps.specs.Going.{gone_from, onward, sent_from}
use Rattle.machine_steps.specs.Kept.{IsBuffer}
use Rattle.machine_core.proofs.SoundLaws.{steady}
use Rattle.state_laws.proofs.Rulings.{within_limit}

-- ---- what is left to do after the action
acted_onward : (s : State) (spot : Spot) → onward (acted s spot) ≡ gone_from s spot
acted_onward s Tell = refl
acted_onward s (Judge r) = refl
acted_onward s (Begin r) = refl
acted_onward s (Scan r step h) =
    elim (nat_lt step (p_of s - 1)) as (λ b. onward (if b then scan_read s r step h else scan_kept s r step h)
    ≡ moved (next_standing (ring_of s.split (p_of s)) (machine s) s.ruling s.at)
    (if b then scan_read s r step h else scan_kept s r step h))
    [ true ↦ refl | false ↦ refl ]
acted_onward s (Close r dense) = refl
acted_onward s Over = refl

-- by the spot where it stands
pub go_from : (s t : State) (spot : Spot) → s.at.spot ≡ spot → t ≡ acted s spot → onward t ≡ core_go s
go_from s t spot at is = ap onward is ∙ acted_onward s spot ∙ ap (gone_from s) (sym at)

pub sent_by : (s : State) (spot : Spot) → s.at.spot ≡ spot → core_sent s ≡ sent_from s spot
sent_by s spot at = ap (sent_from s) at

pub gone_sound : (s t : State) → ∥ core_sound s ∥₁ → action_of s ≡ Ready → onward t ≡ core_go s →
    ∥ core_sound (onward t) ∥₁
gone_sound s t sound ready is = ∥∥₁_map sound (λ k. subst core_sound (sym is) (go_sound s k ready))

-- ---- the messages held
module _ (m : ℕ) (held : List Letter) where
  none : (r : ℕ) → AreOfRound r m []
  none r = All-nil (λ (y : Letter). (y.name.round ≡ r) × (y.name.to ≡ m))

  stays : (ring : Ring) (ruling : Ruling) (r : ℕ) (at : Spot) →
      (is_over at ≡ false → AreOfRound (round_of r at) m held) →
      is_over (next_spot ring m at ruling) ≡ false →
      AreOfRound (round_of (round_ruled r at) (next_spot ring m at ruling)) m
      (held_at (next_spot ring m at ruling) held)
  stays ring ruling r Tell h =
      elim (m == 0) as (λ b. is_over (if b then Judge 0 else Begin 1) ≡ false →
      AreOfRound (round_of r (if b then Judge 0 else Begin 1)) m (held_at (if b then Judge 0 else Begin 1) held))
      [ true ↦ λ on. h refl | false ↦ λ on. none 1 ]
  stays ring Stop r (Judge k) h = λ on. cc
  stays ring Dense r (Judge k) h = λ on. none (k + 1)
  stays ring Sparse r (Judge k) h = λ on. none (k + 1)
  stays ring Stop r (Begin k) h = λ on. cc
  stays ring Dense r (Begin k) h = λ on. h refl
  stays ring Sparse r (Begin k) h = λ on. h refl
  stays ring ruling r (Scan k s half) h =
      elim (half == 0) as (λ b.
      let next : Spot = if b then Scan k s 1 else if nat_lt s (ring.machines - 1) then Scan k (s + 1) 0
      else Close k true in
      is_over next ≡ false → AreOfRound (round_of k next) m (held_at next held)) [
        | true ↦ λ on. h refl
        | false ↦ elim (nat_lt s (ring.machines - 1)) as (λ b.
            let next : Spot = if b then Scan k (s + 1) 0 else Close k true in
            is_over next ≡ false → AreOfRound (round_of k next) m (held_at next held))
            [ true ↦ λ on. h refl | false ↦ λ on. h refl ]
      ]
  stays ring ruling r (Close k dense) h =
      elim (m == 0) as (λ b. is_over (if b then Judge k else Begin (k + 1)) ≡ false →
      AreOfRound (round_of k (if b then Judge k else Begin (k + 1))) m
      (held_at (if b then Judge k else Begin (k + 1)) held))
      [ true ↦ λ on. h refl | false ↦ λ on. none (k + 1) ]
  stays ring ruling r Over h = λ on. cc

module _ (ring : Ring) (p m round : ℕ) (spot : Spot) (ruling : Ruling) (held new : Held) where
  pub moved_buffer : round ≡ round_of round spot → IsBuffer p m round spot held →
      new ≡ record held { letters = held_at (next_spot ring m spot ruling) held.letters } →
      IsBuffer p m (round_of (round_ruled round spot) (next_spot ring m spot ruling)) (next_spot ring m spot
      ruling) new
  moved_buffer of_spot buffer is =
      subst (IsBuffer p m (round_of (round_ruled round spot) (next_spot ring m spot ruling))
      (next_spot ring m spot ruling))
      (sym is)
      (record {
        machines = buffer.machines;
        together = stays m held.letters ring ruling round spot
            (λ on. subst (λ (r : ℕ). AreOfRound r m held.letters) of_spot (buffer.together on));
      })

-- no action leads back to the first spot
pub never_first : (ring : Ring) (m : ℕ) (spot : Spot) (ruling : Ruling) → next_spot ring m spot ruling ≢ Tell
never_first ring m Tell ruling = elim (m == 0) as (λ b. (if b then Judge 0 else Begin 1) ≢ Tell)
    [ true ↦ λ e. cc | false ↦ λ e. cc ]
never_first ring m (Judge r) Stop = λ e. cc
never_first ring m (Judge r) Dense = λ e. cc
never_first ring m (Judge r) Sparse = λ e. cc
never_first ring m (Begin r) Stop = λ e. cc
never_first ring m (Begin r) Dense = λ e. cc
never_first ring m (Begin r) Sparse = λ e. cc
never_first ring m (Scan r s h) ruling =
    elim (h == 0) as (λ b. (if b then Scan r s 1 else if nat_lt s (ring.machines - 1) then Scan r (s + 1) 0
    else Close r true) ≢ Tell) [
      | true ↦ λ e. cc
      | false ↦ elim (nat_lt s (ring.machines - 1)) as (λ b. (if b then Scan r (s + 1) 0 else Close r true) ≢ Tell)
          [ true ↦ λ e. cc | false ↦ λ e. cc ]
    ]
never_first ring m (Close r dense) ruling = elim (m == 0) as (λ b. (if b then Judge r else Begin (r + 1)) ≢ Tell)
    [ true ↦ λ e. cc | false ↦ λ e. cc ]
never_first ring m Over ruling = λ e. cc

-- where machine 0 stands in a round from 1 on, it has judged
module _ (ring : Ring) (r n t : ℕ) where
  summed_zero : (ruling : Ruling) (spot : Spot) → r ≡ round_of r spot → (1 ≤ r → n ≡ t) →
      ((k : ℕ) → spot ≡ Judge k → n ≡ t) → 1 ≤ round_of (round_ruled r spot) (next_spot ring 0 spot ruling) →
      n ≡ t
  summed_zero ruling Tell e old judge low = absurd (omega arith)
  summed_zero ruling (Judge k) e old judge low = judge k refl
  summed_zero Stop (Begin k) e old judge low = old (omega arith)
  summed_zero Dense (Begin k) e old judge low = old (omega arith)
  summed_zero Sparse (Begin k) e old judge low = old (omega arith)
  summed_zero ruling (Scan k s h) e old judge low =
      by (h == 0) (nat_lt s (ring.machines - 1)) low
    where
      by : (a b : Bool) →
          1 ≤ round_of k (if a then Scan k s 1 else if b then Scan k (s + 1) 0 else Close k true) → n ≡ t
      by true b low = old (omega arith)
      by false true low = old (omega arith)
      by false false low = old (omega arith)
  summed_zero ruling (Close k dense) e old judge low = old (omega arith)
  summed_zero ruling Over e old judge low = old low

module _ (ring : Ring) (m : ℕ) (ruling : Ruling) (r : ℕ) (spot : Spot) (n t : ℕ) where
  pub summed_onward : r ≡ round_of r spot → (1 ≤ r → n ≡ t) → ((k : ℕ) → spot ≡ Judge k → n ≡ t) → m ≡ 0 →
      1 ≤ round_of (round_ruled r spot) (next_spot ring m spot ruling) → n ≡ t
  summed_onward e old judge zeroth low =
      summed_zero ring r n t ruling spot e old judge
      (subst (λ (k : ℕ). 1 ≤ round_of (round_ruled r spot) (next_spot ring k spot ruling)) zeroth low)

-- the begin of a round keeps what a core keeps, and so does what is left to do
pub begun_sound : (s : State) (r : ℕ) → s.at.spot ≡ Begin r → ∥ core_sound s ∥₁ → ∥ core_sound (begin_go s r) ∥₁
begun_sound s r at sound =
    ∥∥₁_map sound
    (λ k.
    let spot : FitsSpot s (Begin r) = subst (FitsSpot s) at k.spot in
    let few = few_rounds (program_of s.split) k.can.program.typed in
    let low = spot.1 in
    let x : Name = verdict_name s.at.round (machine s) in
    let same : known (begin_go s r) ≡ known s =
    ap (λ b. if machine s == 0 then nat_le 1 s.at.round else b) (acted_held s (Begin r) x) in
    let after : FitsSpot (begin_go s r) (Begin r) = (spot.0, spot.1, λ knows. spot.2 (sym same ∙ knows)) in
    record {
      can = k.can;
      fits = begin_go_fits s k.can k.fits r (omega arith);
      round = k.round;
      spot = subst (FitsSpot (begin_go s r)) (sym at) after;
    })

-- a round that is begun takes place within the limit
pub begin_low : (s : State) (r : ℕ) → ∥ core_sound s ∥₁ → s.at.spot ≡ Begin r → action_of s ≡ Ready →
    (1 ≤ r) × (r ≤ 10000) × (s.ruling ≢ Stop)
begin_low s r sound at ready =
    ∥∥₁_elim sound (hlevel props)
    (λ k.
    let spot : FitsSpot s (Begin r) = subst (FitsSpot s) at k.spot in
    let ruled = spot.2 (ready_knows s r spot.0 at (k.round ∙ ap (round_of s.at.round) at) ready) in
    let few = few_rounds (program_of s.split) k.can.program.typed in
    let low = within_limit (blocks_of s.split) r s.ruling ruled.0 ruled.1 in
    (spot.0, omega arith, ruled.0))

-- and so does one that is closed
pub close_low : (s : State) (r : ℕ) (dense : Bool) → ∥ core_sound s ∥₁ → s.at.spot ≡ Close r dense →
    (1 ≤ r) × (r ≤ 10000)
close_low s r dense sound at =
    ∥∥₁_elim sound (hlevel props)
    (λ k.
    takes dense (few_rounds (program_of s.split) k.can.program.typed) (subst (FitsSpot s) at k.spot))
  where
    takes : (b : Bool) → (program_of s.split).limit ≤ 10000 → FitsSpot s (Close r b) → (1 ≤ r) × (r ≤ 10000)
    takes true few fits = let low = fits.1.1 in (fits.1.0, omega arith)
    takes false few fits = let low = fits.1.1 in (fits.1.0, omega arith)

-- a spot of a round tells its number
pub round_at : (s : State) (spot : Spot) → ∥ core_sound s ∥₁ → s.at.spot ≡ spot → s.at.round ≡ round_of s.at.round spot
round_at s spot sound at = (steady s sound).round ∙ ap (round_of s.at.round) at
