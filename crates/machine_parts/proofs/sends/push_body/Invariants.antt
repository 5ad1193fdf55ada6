-- The vertices so far are told of, and of the environment all stays but what is entered anew.
use Rattle.std.proofs.Common.{◌≡◌, ◌-◌}
use Rattle.body_shape.specs.Push.{push_body}
use Rattle.machine_parts.specs.Sending.{own_sends}
use Rattle.machine_parts.proofs.SendingLaws.{sends_upto}
use Rattle.machine_parts.proofs.TotalLaws.{settled}
use Rattle.machine_parts.proofs.sends.push_body.Given as goal

abbrev pub invariant-vertices : goal.invariant-vertices
invariant-vertices l = record {
  env : settled l.env ≡ settled l.initial.env;
  body : l.body.items
      ≡ push_body (sends_upto (λ v. own_sends l.sparse l.rows.rows l.degrees l.start l.initial.env (v.0 - l.start))
      l.at l.list);
}
