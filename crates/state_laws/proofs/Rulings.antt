-- What a ruling and a verdict tell of the round.
use Rattle.std.proofs.Common.{◌≡◌, ◌≢◌, ℕ, ◌+◌, ◌≤◌, true, refl}
use Rattle.std.specs.Prelude.{nat_le}
use Rattle.std.proofs.lemmas.Bool.{and_parts, leb-true}
use Rattle.vert_base.specs.declared.message.NameKind.{NameKind}
use Rattle.vert_base.specs.declared.message.NameKind.TheVariants.{Refresh, Dep, Update, Push, Tally, Verdict}
use Rattle.vert_base.specs.declared.value.Ruling.{Ruling}
use Rattle.vert_base.specs.declared.value.Ruling.TheVariants.{Stop, Dense, Sparse}
use Rattle.circulant_plan.specs.Skeleton.{Blocks, may_rule, standing_taken}
use Rattle.circulant_plan.specs.Standing.{Standing, round_of}
use Rattle.circulant_plan.specs.Table.{after_judge}

-- a round that is ruled is within the limit
pub within_limit : (blocks : Blocks) (r : ℕ) (ruling : Ruling) → ruling ≢ Stop → may_rule blocks r ruling ≡ true →
    r ≤ blocks.limit
within_limit blocks r Stop on may = absurd (on refl)
within_limit blocks r Dense on may = leb-true _ _ (and_parts blocks.dense (nat_le r blocks.limit) may).1
within_limit blocks r Sparse on may = leb-true _ _ (and_parts blocks.sparse (nat_le r blocks.limit) may).1

-- a take leaves the round as it is
pub taken_round : (kind : NameKind) (a : Ruling) (s : Standing) → (standing_taken kind a s).round ≡ s.round
taken_round Refresh a s = refl
taken_round Dep a s = refl
taken_round Update a s = refl
taken_round Push a s = refl
taken_round Tally a s = refl
taken_round Verdict Stop s = refl
taken_round Verdict Dense s = refl
taken_round Verdict Sparse s = refl

-- a judge goes on to the next round
pub judged_on : (r : ℕ) (a : Ruling) → round_of (r + 1) (after_judge r a) ≡ r + 1
judged_on r Stop = refl
judged_on r Dense = refl
judged_on r Sparse = refl
