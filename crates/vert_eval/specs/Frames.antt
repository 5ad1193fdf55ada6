-- What a run leaves as it is.
use Rattle.std.specs.Prelude.{◌≡◌, false, []}
use Rattle.vert_tree.specs.Places.{Rights}
use Rattle.vert_eval.specs.declared.environment.Env.{Env}
use Rattle.vert_eval.specs.declared.environment.Flow.TheVariants.{Going}
use Rattle.vert_eval.specs.Runs.{Ran}
use Rattle.vert_eval.specs.Values.{counts_of}

-- all but the words of fields and locals, the marks of locals and the next flag
pub record SameFrame (old new : Env) : Type 0 where
  pub counts : counts_of new ≡ counts_of old
  pub id : new.id ≡ old.id
  pub n : new.n ≡ old.n
  pub round : new.round ≡ old.round
  pub indeg : new.indeg ≡ old.indeg
  pub outdeg : new.outdeg ≡ old.outdeg
  pub draws : new.draws ≡ old.draws
  pub active : new.row.active ≡ old.row.active
  pub other : new.other ≡ old.other
  pub other_row : new.other_row ≡ old.other_row
  pub sends : new.sends ≡ old.sends
  pub slots : new.slots ≡ old.slots
  pub totals : new.totals ≡ old.totals
  pub key : new.key ≡ old.key

-- the old environment at the neighbour that the new one is at
abbrev pub beside : Env → Env → Env
beside old new = record old { other = new.other; other_row = new.other_row }

-- what a run without a right neither changes nor does
pub record WithinRights (r : Rights) (old : Env) (ran : Ran) : Type 0 where
  pub fields : r.fields ≡ false → ran.env.row ≡ old.row
  pub locals : r.locals ≡ false → ran.env.locals ≡ old.locals
  pub touched : r.locals ≡ false → ran.env.touched ≡ old.touched
  pub active : r.active ≡ false → ran.env.next_active ≡ old.next_active
  pub emits : r.emits ≡ false → ran.emitted ≡ []
  pub breaks : r.breaks ≡ false → ran.flow ≡ Going
