-- What makes a program a typed one.
use Rattle.std.specs.Prelude.{Bool, ◌&&◌, is_some}
use Rattle.vert_tree.specs.declared.program.Program.{Program}
use Rattle.vert_tree.specs.Kinds.{is_kinded}
use Rattle.vert_tree.specs.Limits.{is_limited, is_shallow, mode_stands, names_stand, version_stands}
use Rattle.vert_tree.specs.Places.{is_placed}
use Rattle.vert_tree.specs.Readable.{declares_once, is_readable, totals_combine}

-- every name has its place and every expression its type, within the limits, and all is read where it
-- may be
abbrev pub is_typed : Program → Bool
is_typed p =
    is_placed p
    && (is_kinded p
    && (is_limited p
    && (is_shallow p
    && (names_stand p
    && (version_stands p
    && (mode_stands p.mode (is_some p.dense) (is_some p.sparse)
    && (is_readable p
    && (declares_once p
    && totals_combine p))))))))
