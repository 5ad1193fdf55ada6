-- What is sure of the numbers and flags of a line.
use Rattle.std.specs.Prelude.{◌≡◌, ◌≤◌, ℕ, true, None}
use Rattle.std.specs.Option.{ForSome}
use Rattle.vert_base.specs.declared.limits.TheConstants.{MACHINES, VERTICES}
use Rattle.symple_words.specs.Lines.{PlainLine, RunOf, RecordOf, ReplayOf, ResumeOf, ShowOf, FreeOf, PlanOf, DemoOf, RenewOf, SplitOf, WorkerOf}
use Rattle.symple_words.specs.declared.line.GraphForm.{GraphForm}

abbrev pub AreMachines : ℕ → Type 0
AreMachines machines = (1 ≤ machines) × (machines ≤ MACHINES)

-- vertices are said of a text file alone, and weights of a binary one
pub record IsGraphForm (form : GraphForm) : Type 0 where
  pub vertices : ForSome form.vertices (λ n. n ≤ VERTICES)
  pub text : form.binary ≡ true → form.vertices ≡ None
  pub binary : form.weighted ≡ true → form.binary ≡ true

abbrev pub IsWithin : PlainLine → Type 0
IsWithin (RunOf job machines image) = IsGraphForm job.form × AreMachines machines
IsWithin (RecordOf job schedule machines seed lossy) = IsGraphForm job.form × AreMachines machines
IsWithin (ReplayOf job schedule) = IsGraphForm job.form
IsWithin (ResumeOf job image machines) = IsGraphForm job.form × AreMachines machines
IsWithin (ShowOf program) = Unit {0}
IsWithin (FreeOf program) = Unit {0}
IsWithin (PlanOf graph form machines) = IsGraphForm form × AreMachines machines
IsWithin (DemoOf seed machines) = AreMachines machines
IsWithin (RenewOf schedule target) = Unit {0}
IsWithin (SplitOf program graph prefix form machines draws) = IsGraphForm form × AreMachines machines
IsWithin (WorkerOf part rows) = Unit {0}
