-- The states that show what a function was given.
use Rattle.std.specs.Prelude.{◌≡◌, ℤ, List}
use Rattle.slot_merge.specs.declared.partial.Partial.{Partial}
use Rattle.vert_base.specs.declared.value.Row.{Row}
use Rattle.instrument.specs.declared.split.Split.{Split}
use Rattle.symple_face.specs.CoreSight.{known_totals}
use Rattle.symple_face.specs.Parts.{PlainPart}
use Rattle.symple_face.specs.State.{State}

-- a state of this part and program, which knows these totals and has these rows
pub record Shows (whole : PlainPart) (program : Split) (known : List ℤ) (own : List Row) (s : State) : Type 0 where
  pub part : s.part ≡ whole
  pub split : s.split ≡ program
  pub totals : known_totals s ≡ known
  pub rows : s.rows ≡ own

-- a state of this part and program which has these partials
pub record ShowsPartials (whole : PlainPart) (program : Split) (all : List (List Partial)) (s : State) : Type 0 where
  pub part : s.part ≡ whole
  pub split : s.split ≡ program
  pub partials : s.partials ≡ all
