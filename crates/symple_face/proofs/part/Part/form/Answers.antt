-- The steps of the plan are below the number of machines.
use Rattle.symple_face.proofs.PlanLaws.{dep_step}
use Rattle.symple_face.proofs.part.Part.form.Goals as goal

pub dep_form-requires-clause-step : goal.dep_form-requires-clause-step
dep_form-requires-clause-step c = dep_step c.args.self.now.split.value c.args.self.now.at.machines
    c.args.self.now.at.machine c.args.name.now c.requires c.in-Dep.is
