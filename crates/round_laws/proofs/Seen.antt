-- What a machine sees is what stands in the source's round.
use Rattle.std.proofs.Common.{◌≡◌, pos, false, [], ◌∷◌, refl}
use Rattle.vert_base.specs.declared.graph.Edge.{Edge}
use Rattle.vert_base.specs.Neighbours.{source}
use Rattle.vert_eval.specs.declared.environment.Env.{Env}
use Rattle.vert_eval.specs.Rounds.{Scene, at_member, reading}
use Rattle.vert_eval.specs.Runs.{followed_by, run}
use Rattle.symple_face.specs.Sight.{Sight, seen_at}
use Rattle.round_laws.specs.Seen.{EnvironmentsAreSeen, LoopsAreSeen, SeesVertex}

pub seen_environment : EnvironmentsAreSeen
seen_environment g s v key slots all here = λ i. record {
  id = record { 0 = v };
  n = all.n i;
  round = all.round i;
  indeg = here.ins i;
  outdeg = here.outs i;
  draws = all.draws i;
  row = here.row i;
  next_active = false;
  locals = record { items = [] };
  touched = 0;
  other = record { id = record { 0 = v }; weight = pos 0; indeg = here.ins i; outdeg = here.outs i };
  other_row = here.row i;
  sends = record { items = [] };
  slots = record { items = slots };
  totals = record { items = all.totals i };
  key = key;
}

-- at a member of the neighbours
pub seen_member : (g : Sight) (s : Scene) (e : Edge) (env : Env) → SeesVertex g s (source e) →
    seen_at g e env ≡ at_member s e env
seen_member g s e env there = λ i. record env {
  other =
      record { id = record { 0 = source e }; weight = e.weight; indeg = there.ins i; outdeg = there.outs i };
  other_row = there.row i;
}

pub loop_seen : LoopsAreSeen
loop_seen g s body [] env there = refl
loop_seen g s body (e ∷ es) env there = λ i.
    followed_by (reading (source e) (run body (seen_member g s e env there.0 i)))
    (λ after. loop_seen g s body es after there.1 i)
