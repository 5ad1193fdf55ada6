-- Whether there is a next round, and in which mode.
use Rattle.std.specs.Prelude.{ℕ, ◌*◌, ◌==◌, ◌||◌, nat_lt, if◌then◌else◌}
use Rattle.vert_base.specs.declared.value.Mode.{Mode}
use Rattle.vert_base.specs.declared.value.Mode.TheVariants as mode
use Rattle.vert_base.specs.declared.value.Ruling.{Ruling}
use Rattle.vert_base.specs.declared.value.Ruling.TheVariants.{Stop, Dense, Sparse}

-- the mode of a round: the fixed one, or by the edges from active vertices against all edges
abbrev pub mode_of : ℕ → ℕ → Mode → Ruling
mode_of active_edges edges mode.Dense = Dense
mode_of active_edges edges mode.Sparse = Sparse
mode_of active_edges edges mode.Auto = if nat_lt edges (20 * active_edges) then Dense else Sparse

-- no round where nothing is active or past the limit, else one in its mode
abbrev pub ruling_of : ℕ → ℕ → ℕ → ℕ → ℕ → Mode → Ruling
ruling_of active active_edges edges round limit mode =
    if active == 0 || nat_lt limit round then Stop else mode_of active_edges edges mode
