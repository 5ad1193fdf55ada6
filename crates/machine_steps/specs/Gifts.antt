-- What a machine sends at the begin of a round.
use Rattle.std.specs.Prelude.{ℕ, Bool, true, false}
use Rattle.vert_base.specs.Letters.{Letter}
use Rattle.circulant_plan.specs.Names.{push_name, refresh_name}
use Rattle.symple_face.specs.CoreWork.{push_sent, refresh_sent}
use Rattle.symple_face.specs.State.{State, machine}

-- the message to machine k: rows in a dense round, else sends
abbrev pub gift : State → ℕ → Bool → ℕ → Letter
gift s r true k = record { name = refresh_name r (machine s) k; body = refresh_sent s k }
gift s r false k = record { name = push_name r (machine s) k; body = push_sent s r k }
