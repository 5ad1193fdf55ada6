-- What a machine tells that lies about its rows.
use Rattle.std.specs.Prelude.{pos, List, [], ◌∷◌}
use Rattle.arrayvec.specs.ArrayVec.{with_item}
use Rattle.vert_base.specs.declared.value.Row.{Row}
use Rattle.vert_base.specs.declared.value.ValueType.{ValueType}
use Rattle.vert_base.specs.declared.value.ValueType.TheVariants as kind
use Rattle.vert_tree.specs.Kinds.{kinds_of}
use Rattle.symple_face.specs.Work.{Work}

-- the row with 77 as its first word, where the first field is a number
abbrev pub lying_row : List ValueType → Row → Row
lying_row [] row = row
lying_row (kind.Int ∷ kinds) row = record row { words = with_item row.words 0 (pos 77) }
lying_row (kind.Bool ∷ kinds) row = row

-- the work of another kind of machine, but for its rows
abbrev pub lying_work : Work → Work
lying_work work =
    record work { row = λ s v. lying_row (kinds_of s.split.program.program.fields.items) (work.row s v) }
