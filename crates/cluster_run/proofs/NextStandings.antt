-- The standing behind an action: the list ends, a new round begins, or the round stays.
use Rattle.std.proofs.Common.{◌≡◌, ℕ, ◌+◌, ◌<◌, Bool, true, false, refl, sym, arith, nat_lt}
use Rattle.std.specs.Prelude.{if◌then◌else◌, ◌==◌, ◌-◌}
use Rattle.vert_base.specs.declared.value.Ruling.{Ruling}
use Rattle.vert_base.specs.declared.value.Ruling.TheVariants.{Stop, Dense, Sparse}
use Rattle.circulant_plan.specs.declared.spot.Ring.{Ring}
use Rattle.circulant_plan.specs.declared.spot.Spot.{Spot}
use Rattle.circulant_plan.specs.declared.spot.Spot.TheVariants.{Tell, Judge, Begin, Scan, Close, Over}
use Rattle.circulant_plan.specs.Skeleton.{is_over}
use Rattle.circulant_plan.specs.Standing.{Standing, standing_at, round_of, round_ruled, next_standing}
use Rattle.circulant_plan.specs.Table.{after_begin, after_judge, next_spot}
use Rattle.symple_face.specs.Lawful.{is_begin}

pub data IsOnward (s t : Standing) : Type 0 where
  ends : is_over t.spot ≡ true → IsOnward s t
  begins : is_begin t.spot ≡ true → s.round < t.round → IsOnward s t
  stays : is_begin t.spot ≡ false → t.round ≡ s.round → IsOnward s t

abbrev by_spot : ℕ → Spot → Spot → Type 0
by_spot round spot next = IsOnward (record { spot = spot; round = round }) (standing_at (round_ruled round spot) next)

from_tell : (round : ℕ) (b : Bool) → round ≡ 0 → by_spot round Tell (if b then Judge 0 else Begin 1)
from_tell round true e = stays refl (sym e)
from_tell round false e = begins refl (omega arith)

from_judge : (round r : ℕ) (a : Ruling) → round ≡ r → by_spot round (Judge r) (after_judge r a)
from_judge round r Stop e = ends refl
from_judge round r Dense e = begins refl (omega arith)
from_judge round r Sparse e = begins refl (omega arith)

from_begin : (round r : ℕ) (a : Ruling) → round ≡ r → by_spot round (Begin r) (after_begin r a)
from_begin round r Stop e = ends refl
from_begin round r Dense e = stays refl (sym e)
from_begin round r Sparse e = stays refl (sym e)

from_scan : (round r s h : ℕ) (a b : Bool) → round ≡ r →
    by_spot round (Scan r s h) (if a then Scan r s 1 else if b then Scan r (s + 1) 0 else Close r true)
from_scan round r s h true b e = stays refl (sym e)
from_scan round r s h false true e = stays refl (sym e)
from_scan round r s h false false e = stays refl (sym e)

from_close : (round r : ℕ) (dense b : Bool) → round ≡ r →
    by_spot round (Close r dense) (if b then Judge r else Begin (r + 1))
from_close round r dense true e = stays refl (sym e)
from_close round r dense false e = begins refl (omega arith)

onward_by : (ring : Ring) (m : ℕ) (a : Ruling) (spot : Spot) (round : ℕ) → round ≡ round_of round spot →
    by_spot round spot (next_spot ring m spot a)
onward_by ring m a Tell round e = from_tell round (m == 0) e
onward_by ring m a (Judge r) round e = from_judge round r a e
onward_by ring m a (Begin r) round e = from_begin round r a e
onward_by ring m a (Scan r s h) round e = from_scan round r s h (h == 0) (nat_lt s (ring.machines - 1)) e
onward_by ring m a (Close r dense) round e = from_close round r dense (m == 0) e
onward_by ring m a Over round e = ends refl

pub onward : (ring : Ring) (m : ℕ) (a : Ruling) (s : Standing) → s.round ≡ round_of s.round s.spot →
    IsOnward s (next_standing ring m a s)
onward ring m a s e = onward_by ring m a s.spot s.round e
