-- Each message goes from one spot to a later one, of another machine.
use Rattle.std.specs.Prelude.{◌≡◌, ◌≢◌, ◌<◌, ◌≤◌, ℕ, zero, suc, ◌+◌, ◌-◌, true, false}
use Rattle.std.specs.List.{Contains}
use Rattle.vert_base.specs.declared.message.Name.{Name}
use Rattle.vert_base.specs.declared.message.NameKind.{NameKind}
use Rattle.vert_base.specs.declared.message.NameKind.TheVariants.{Refresh, Dep, Update, Push, Tally, Verdict}
use Rattle.vert_base.specs.declared.value.Ruling.{Ruling}
use Rattle.vert_base.specs.declared.value.Ruling.TheVariants.{Stop, Dense, Sparse}
use Rattle.circulant_plan.specs.declared.spot.Ring.{Ring}
use Rattle.circulant_plan.specs.declared.spot.Spot.{Spot}
use Rattle.circulant_plan.specs.declared.spot.Spot.TheVariants.{Tell, Judge, Begin, Scan, Close, Over}
use Rattle.circulant_plan.specs.Ring.{chunk_of}
use Rattle.circulant_plan.specs.Table.{needs_of, gives_of}
use Rattle.circulant_plan.specs.Standing.{Standing, standing_at, next_standing, round_of, place_of}

-- the spots that stand in the list of actions of machine m, where the spot's round has this ruling
abbrev pub HasSpot : Ring → ℕ → Ruling → Spot → Type 0
HasSpot ring m ruling Tell = Unit {0}
HasSpot ring m ruling (Judge r) = m ≡ 0
HasSpot ring m ruling (Begin r) = 1 ≤ r
HasSpot ring m ruling (Scan r s h) = (1 ≤ r) × (s < ring.machines) × (h ≤ 1) × (ruling ≡ Dense)
HasSpot ring m ruling (Close r true) = (1 ≤ r) × (ruling ≡ Dense)
HasSpot ring m ruling (Close r false) = (1 ≤ r) × (ruling ≡ Sparse)
HasSpot ring m ruling Over = Unit {0}

-- the spot that closes a round by its ruling
abbrev pub close_at : ℕ → Ruling → Spot
close_at r Stop = Over
close_at r Dense = Close r true
close_at r Sparse = Close r false

-- the spot at which the tally of a round is sent: that of round 0 at the first action
abbrev pub tally_at : ℕ → Ruling → Spot
tally_at zero ruling = Tell
tally_at (suc r) ruling = close_at (suc r) ruling

-- the spot at which a message is sent, by the ruling of its round
abbrev pub sent_of_kind : NameKind → Ruling → Name → Spot
sent_of_kind Refresh ruling x = Begin x.round
sent_of_kind Dep ruling x = Scan x.round x.step x.half
sent_of_kind Update ruling x = Scan x.round x.step x.half
sent_of_kind Push ruling x = Begin x.round
sent_of_kind Tally ruling x = tally_at x.round ruling
sent_of_kind Verdict ruling x = Judge (x.round - 1)

abbrev pub sending_spot : Ruling → Name → Spot
sending_spot ruling x = sent_of_kind x.kind ruling x

-- the first spot that needs a message, of p machines
abbrev pub needed_of_kind : NameKind → ℕ → Name → Spot
needed_of_kind Refresh p x = Scan x.round (chunk_of x.to x.from p) 0
needed_of_kind Dep p x = Scan x.round (x.step + 1) x.half
needed_of_kind Update p x = Close x.round true
needed_of_kind Push p x = Close x.round false
needed_of_kind Tally p x = Judge x.round
needed_of_kind Verdict p x = Begin x.round

abbrev pub needing_spot : ℕ → Name → Spot
needing_spot p x = needed_of_kind x.kind p x

-- the place of a spot that isn't Over
abbrev pub place_at : Spot → ℕ
place_at spot = place_of (standing_at 0 spot)

-- what machine m needs at a spot is of its round, and another machine sends it at an earlier place
pub record IsSentBefore (ring : Ring) (m : ℕ) (ruling : Ruling) (spot : Spot) (x : Name) : Type 0 where
  pub to : x.to ≡ m
  pub from : x.from < ring.machines
  pub other : x.from ≢ m
  pub round : x.round ≡ round_of 0 spot
  pub has : HasSpot ring x.from ruling (sending_spot ruling x)
  pub sent : Contains (gives_of ring x.from (sending_spot ruling x) ruling) x
  pub earlier : place_at (sending_spot ruling x) < place_at spot

-- what machine m sends at a spot another machine needs at a later place, in the message's round
pub record IsNeededLater (ring : Ring) (m : ℕ) (ruling : Ruling) (spot : Spot) (x : Name) : Type 0 where
  pub from : x.from ≡ m
  pub to : x.to < ring.machines
  pub other : x.to ≢ m
  pub round : x.round ≡ round_of 0 (needing_spot ring.machines x)
  pub has : HasSpot ring x.to ruling (needing_spot ring.machines x)
  pub needed : Contains (needs_of ring x.to (needing_spot ring.machines x)) x
  pub later : place_at spot < place_at (needing_spot ring.machines x)

-- an action leads to a later place in the list of the machine, whose round is again that of the spot
pub record IsOneOn (ring : Ring) (m : ℕ) (ruling : Ruling) (s : Standing) : Type 0 where
  pub has : HasSpot ring m ruling (next_standing ring m ruling s).spot
  pub later : place_of s < place_of (next_standing ring m ruling s)
  pub round :
      (next_standing ring m ruling s).round
      ≡ round_of (next_standing ring m ruling s).round (next_standing ring m ruling s).spot

abbrev pub NeededIsSent : Type 0
NeededIsSent =
    (ring : Ring) (m : ℕ) (ruling : Ruling) (spot : Spot) (x : Name) → m < ring.machines → ring.machines ≤ 64 →
    ruling ≢ Stop →
    HasSpot ring m ruling spot → Contains (needs_of ring m spot) x → IsSentBefore ring m ruling spot x

abbrev pub SentIsNeeded : Type 0
SentIsNeeded =
    (ring : Ring) (m : ℕ) (ruling : Ruling) (spot : Spot) (x : Name) → m < ring.machines → ring.machines ≤ 64 →
    ruling ≢ Stop →
    HasSpot ring m ruling spot → Contains (gives_of ring m spot ruling) x → IsNeededLater ring m ruling spot x

-- at a judge the ruling is the one that it makes
abbrev pub ActionsLeadOn : Type 0
ActionsLeadOn =
    (ring : Ring) (m : ℕ) (ruling : Ruling) (s : Standing) → m < ring.machines → ring.machines ≤ 64 →
    HasSpot ring m ruling s.spot →
    s.round ≡ round_of s.round s.spot → s.spot ≢ Over → ((r : ℕ) → s.spot ≡ Begin r → ruling ≢ Stop) →
    IsOneOn ring m ruling s
