-- What a core keeps besides what its state says.
use Rattle.std.specs.Prelude.{◌≡◌, ◌+◌, ℕ, false, length}
use Rattle.circulant_plan.specs.declared.spot.Spot.{Spot}
use Rattle.circulant_plan.specs.Skeleton.{is_over}
use Rattle.double_buffer.specs.Held.{AreOfRound, Held}
use Rattle.instrument.specs.declared.split.Split.{Split}
use Rattle.symple_face.specs.CoreSight.{field_count}
use Rattle.symple_face.specs.CoreTakes.{slot_count}
use Rattle.symple_face.specs.Plans.{loop_carry}
use Rattle.symple_face.specs.Shapes.{reduced_in, words_in}

-- how wide its tables are: rows, partials and ring states
pub record AreWide (split : Split) (fields cells words : ℕ) : Type 0 where
  pub rows : fields ≡ field_count split
  pub partials : cells ≡ slot_count split + length (reduced_in split.dense)
  pub ring : words ≡ words_in (loop_carry split.dense)

-- its buffer is that of machine m of p, and until the machine is over it holds messages of its round
pub record IsBuffer (p m round : ℕ) (spot : Spot) (held : Held) : Type 0 where
  pub machines : held.machines ≡ p
  pub together : is_over spot ≡ false → AreOfRound round m held.letters
