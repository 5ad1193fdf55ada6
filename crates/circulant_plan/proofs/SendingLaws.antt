-- Where a message is sent and where it is needed, whatever the mode of its round.
use Rattle.std.proofs.Common.{◌≡◌, ◌≢◌, ◌⊎◌, ℕ, zero, suc, ◌+◌, ◌*◌, ◌≤◌, false, refl, inl, inr, arith}
use Rattle.vert_base.specs.declared.message.Name.{Name}
use Rattle.vert_base.specs.declared.message.NameKind.{NameKind}
use Rattle.vert_base.specs.declared.message.NameKind.TheVariants.{Refresh, Dep, Update, Push, Tally, Verdict}
use Rattle.vert_base.specs.declared.value.Ruling.{Ruling}
use Rattle.vert_base.specs.declared.value.Ruling.TheVariants.{Stop, Dense, Sparse}
use Rattle.circulant_plan.specs.Names.{tally_name}
use Rattle.circulant_plan.specs.Deliveries.{close_at, tally_at, sent_of_kind, sending_spot, needed_of_kind, needing_spot, place_at}
use Rattle.circulant_plan.specs.Skeleton.{is_over}

-- the places on the line of all actions at which a message is sent and first needed. They don't depend on the
-- mode of its round
abbrev pub sent_at : Name → ℕ
sent_at x = place_at (sending_spot Dense x)

abbrev pub needed_at : ℕ → Name → ℕ
needed_at p x = place_at (needing_spot p x)

-- where a tally is sent doesn't matter for its place
tally_place : (r : ℕ) (ruling : Ruling) → ruling ≢ Stop → place_at (tally_at r ruling) ≡ place_at (tally_at r Dense)
tally_place zero ruling mode = refl
tally_place (suc r) Stop mode = absurd (mode refl)
tally_place (suc r) Dense mode = refl
tally_place (suc r) Sparse mode = refl

sent_place_of : (kind : NameKind) (ruling : Ruling) (x : Name) → ruling ≢ Stop →
    place_at (sent_of_kind kind ruling x) ≡ place_at (sent_of_kind kind Dense x)
sent_place_of Refresh ruling x mode = refl
sent_place_of Dep ruling x mode = refl
sent_place_of Update ruling x mode = refl
sent_place_of Push ruling x mode = refl
sent_place_of Tally ruling x mode = tally_place x.round ruling mode
sent_place_of Verdict ruling x mode = refl

pub sent_place : (ruling : Ruling) (x : Name) → ruling ≢ Stop → place_at (sending_spot ruling x) ≡ sent_at x
sent_place ruling x mode = sent_place_of x.kind ruling x mode

-- a message but a verdict is sent in its round
tally_round : (r : ℕ) → 256 * r ≤ place_at (tally_at r Dense)
tally_round zero = omega arith
tally_round (suc r) = omega arith

sent_round_of : (kind : NameKind) (x : Name) → (kind ≡ Verdict) ⊎ (256 * x.round ≤ place_at (sent_of_kind kind Dense x))
sent_round_of Refresh x = inr (omega arith)
sent_round_of Dep x = inr (omega arith)
sent_round_of Update x = inr (omega arith)
sent_round_of Push x = inr (omega arith)
sent_round_of Tally x = inr (tally_round x.round)
sent_round_of Verdict x = inl refl

pub sent_round : (x : Name) → (x.kind ≡ Verdict) ⊎ (256 * x.round ≤ sent_at x)
sent_round x = sent_round_of x.kind x

not_over_of : (kind : NameKind) (p : ℕ) (x : Name) → is_over (needed_of_kind kind p x) ≡ false
not_over_of Refresh p x = refl
not_over_of Dep p x = refl
not_over_of Update p x = refl
not_over_of Push p x = refl
not_over_of Tally p x = refl
not_over_of Verdict p x = refl

pub needing_not_over : (p : ℕ) (x : Name) → is_over (needing_spot p x) ≡ false
needing_not_over p x = not_over_of x.kind p x

tally_not_over : (r : ℕ) (ruling : Ruling) → ruling ≢ Stop → is_over (tally_at r ruling) ≡ false
tally_not_over zero ruling mode = refl
tally_not_over (suc r) Stop mode = absurd (mode refl)
tally_not_over (suc r) Dense mode = refl
tally_not_over (suc r) Sparse mode = refl

sending_of : (kind : NameKind) (ruling : Ruling) (x : Name) → ruling ≢ Stop →
    is_over (sent_of_kind kind ruling x) ≡ false
sending_of Refresh ruling x mode = refl
sending_of Dep ruling x mode = refl
sending_of Update ruling x mode = refl
sending_of Push ruling x mode = refl
sending_of Tally ruling x mode = tally_not_over x.round ruling mode
sending_of Verdict ruling x mode = refl

pub sending_not_over : (ruling : Ruling) (x : Name) → ruling ≢ Stop → is_over (sending_spot ruling x) ≡ false
sending_not_over ruling x mode = sending_of x.kind ruling x mode

pub tally_spot : (r : ℕ) (ruling : Ruling) → 1 ≤ r → tally_at r ruling ≡ close_at r ruling
tally_spot zero ruling later = absurd (omega arith)
tally_spot (suc r) ruling later = refl

tally_sent_of : (q : ℕ) → place_at (tally_at q Dense) ≡ 256 * q + 254
tally_sent_of zero = refl
tally_sent_of (suc q) = refl

pub tally_sent : (q m : ℕ) → sent_at (tally_name q m) ≡ 256 * q + 254
tally_sent q m = tally_sent_of q
