-- How the two tasks of parts go is how `symple` plays them.
use Rattle.std.proofs.Common.{◌≡◌, ◌∙◌, ℕ, List, Option, ap}
use Rattle.command_steps.specs.Commands.{split_order, worker_order}
use Rattle.command_steps.specs.Leaves.{Leaves}
use Rattle.command_steps.specs.Notes.{Fault}
use Rattle.command_steps.specs.Orders.{Course, Drawn, DrawnLossy, Followed, Imaged, Order, Parted, Plain, Renewed, Resumed, Served, Shown, Task}
use Rattle.command_steps.specs.States.{Outside}
use Rattle.command_steps.proofs.LeavesLaws.{weaker}
use Rattle.command_steps.proofs.WalkLaws.{as_order}
use Rattle.part_runs.specs.PartWalks.{IsPartRun}
use Rattle.symple_face.specs.Work.{Work}
use Rattle.symple_run.specs.Played.{IsPlayed}
use Rattle.symple_words.specs.declared.line.GraphForm.{GraphForm}

pub part_run_played : (work : Work) (task : Task) (course : Course) → IsPartRun work task course →
    IsPlayed work task course
part_run_played work (Plain play) course is = absurd is
part_run_played work (Imaged play origin image) course is = absurd is
part_run_played work (Resumed play origin even odd) course is = absurd is
part_run_played work (Drawn play seed schedule) course is = absurd is
part_run_played work (DrawnLossy play seed schedule) course is = absurd is
part_run_played work (Followed play schedule) course is = absurd is
part_run_played work (Shown seed machines) course is = absurd is
part_run_played work (Renewed schedule target) course is = absurd is
part_run_played work (Parted play program prefix) course is = is
part_run_played work (Served part rows) course is = is

-- what an order of parts leaves, the order of a line leaves that is the same
pub part_order : (work : Work) (first second : Order) (w after : Outside) (outcome : Option Fault) → first ≡ second →
    Leaves (IsPartRun work) first w after outcome → Leaves (IsPlayed work) second w after outcome
part_order work first second w after outcome same leaves =
    as_order (IsPlayed work) first second w after outcome same
    (weaker (IsPartRun work) (IsPlayed work) (part_run_played work) first w after outcome leaves)

-- by equal names
module _ (a b c x y z : List ℕ) (form : GraphForm) (machines draws : ℕ) where
  pub split_same : a ≡ x → b ≡ y → c ≡ z →
      split_order a b c form machines draws ≡ split_order x y z form machines draws
  split_same p q r =
      ap (λ (name : List ℕ). split_order name b c form machines draws) p
      ∙ ap (λ (name : List ℕ). split_order x name c form machines draws) q
      ∙ ap (λ (name : List ℕ). split_order x y name form machines draws) r

pub worker_same : (a b x y : List ℕ) → a ≡ x → b ≡ y → worker_order a b ≡ worker_order x y
worker_same a b x y p q =
    ap (λ (name : List ℕ). worker_order name b) p ∙ ap (λ (name : List ℕ). worker_order x name) q
