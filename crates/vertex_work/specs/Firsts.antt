-- The rows before the first round.
use Rattle.std.specs.Prelude.{◌≡◌, false, [], length, map}
use Rattle.vert_base.specs.declared.value.Row.{Row}
use Rattle.vert_tree.specs.declared.program.Program.{Program}
use Rattle.vert_tree.specs.Places.{Counts}
use Rattle.vert_eval.specs.declared.environment.Env.{Env}
use Rattle.vert_eval.specs.SourceRun.{with_row}
use Rattle.vert_eval.specs.Values.{counts_of, value_of}
use Rattle.vert_eval.specs.Words.{is_set}
use Rattle.chunk_split.specs.Chunks.{vertices_of}
use Rattle.symple_face.specs.Parts.{PlainPart}

abbrev pub row_of_fields : Program → Env → Row
row_of_fields p env = record {
  words = record { items = map (λ d. value_of d.value env) p.fields.items };
  active = false;
}

-- the row that a program gives an environment
abbrev pub first_row_by : Program → Env → Row
first_row_by p env =
    record (row_of_fields p env) { active = is_set (value_of p.start (with_row (row_of_fields p env) env)) }

-- how many words there are where the fields have theirs
abbrev pub counts_with : Program → Env → Counts
counts_with p env =
    record (counts_of env) { fields = length p.fields.items; other_fields = length p.fields.items }

-- an environment of a part before the first round, in which no slot has a value
pub record IsBlank (part : PlainPart) (env : Env) : Type 0 where
  pub n : env.n ≡ vertices_of part.ends
  pub round : env.round ≡ 0
  pub draws : env.draws ≡ part.draws
  pub totals : env.totals.items ≡ []
  pub slots : env.slots.items ≡ []
