-- What the begin of a round works.
use Rattle.std.specs.Prelude.{length}
use Rattle.flat_table.specs.Grids.{Rows}
use Rattle.slot_merge.specs.declared.partial.Partial.{Partial}
use Rattle.vert_tree.specs.Places.{sends_in}
use Rattle.vert_eval.specs.declared.environment.Env.{Env}
use Rattle.symple_face.specs.CoreSight.{program_of}
use Rattle.symple_face.specs.PartViews.{plain_of}
use Rattle.symple_face.specs.State.{State}
use Rattle.vertex_work.specs.declared.ground.Ground.{Ground}
use Rattle.vertex_work.specs.declared.receivers.Receivers.{Receivers}
use Rattle.vertex_work.specs.Pushing.{CanReceive}
use Rattle.vertex_work.specs.Receiving.{IsReceiving}
use Rattle.vertex_work.specs.Shown.{Shows}
use Rattle.machine_steps.specs.Working.{AreOwnRows, HasNumbers}

-- the receivers of a part, an environment with the numbers of a round, and partials of the own vertices
pub record CanWork (g : Ground) (rs : Receivers) (env : Env) (table : Rows Partial) : Type 0 where
  pub receiving : IsReceiving (plain_of g.part) g.code rs.rows.now rs
  pub numbers : HasNumbers (plain_of g.part) g.part.split.value env.round env.totals.items env
  pub rows : AreOwnRows (plain_of g.part) g.part.split.value env.totals.items rs.rows.now
  pub can : CanReceive rs (length (sends_in (program_of g.part.split.value).sparse)) env table

-- a state that shows what they see
abbrev pub ShowsTo : Ground → Receivers → Env → State → Type 0
ShowsTo g rs env s = Shows (plain_of g.part) g.part.split.value env.totals.items rs.rows.now.rows s
