-- What the spot behind a begin tells of its round.
use Rattle.vert_base.specs.declared.value.Ruling.{Ruling}
use Rattle.vert_base.specs.declared.value.Ruling.TheVariants.{Stop, Dense, Sparse}
use Rattle.circulant_plan.specs.declared.spot.Spot.{Spot}
use Rattle.circulant_plan.specs.declared.spot.Spot.TheVariants.{Tell, Judge, Begin, Scan, Close, Over}

-- the ruling of the round, where this is the spot behind the begin
abbrev pub ruling_behind : Spot → Ruling
ruling_behind Tell = Stop
ruling_behind (Judge r) = Stop
ruling_behind (Begin r) = Stop
ruling_behind (Scan r s h) = Dense
ruling_behind (Close r dense) = Sparse
ruling_behind Over = Stop
