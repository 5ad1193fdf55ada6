-- The own senders are worked, where the program has a sparse block.
use Rattle.std.proofs.Common.{ℕ, ◌∙◌, ap, length, subst, sym}
use Rattle.vert_tree.specs.Places.{sends_in}
use Rattle.vert_tree.proofs.TypedLaws.{few_sends}
use Rattle.vertex_work.specs.Pushing.{CanReceive}
use Rattle.machine_steps.proofs.WorkingLaws.{no_block_worked, own_names, own_senders, own_worked, still_works}
use Rattle.machine_steps.proofs.begin.work_all_own.Goals as goal

pub work_own-requires-clause-senders : goal.work_own-requires-clause-senders
work_own-requires-clause-senders c =
    own_senders c.args.ground.now c.args.receivers.now c.args.env.now c.args.partials.now c.requires c.machine.result
    c.senders_of-senders.result.now c.machine.ensures.number c.senders_of-senders.ensures

pub work_own-requires-clause-few : goal.work_own-requires-clause-few
work_own-requires-clause-few c =
    let program = c.args.ground.now.part.split.value.program in
    few_sends program.program program.typed c.in-Some.sparse
    (ap (λ p. p.sparse) (sym c.program.ensures) ∙ c.in-Some.is)

pub work_own-requires-clause-names : goal.work_own-requires-clause-names
work_own-requires-clause-names c =
    own_names c.args.ground.now c.args.receivers.now c.args.env.now c.requires.numbers c.requires.rows c.in-Some.sparse
    (ap (λ p. p.sparse) (sym c.program.ensures) ∙ c.in-Some.is)

pub returns-in-Some-clause-worked : goal.returns-in-Some-clause-worked
returns-in-Some-clause-worked c =
    own_worked c.args.ground.now c.args.receivers.now c.args.env.now c.args.partials.now c.requires c.in-Some.sparse
    (ap (λ p. p.sparse) (sym c.program.ensures) ∙ c.in-Some.is) c.args.partials.now c.work_own.new.partials
    c.work_own.ensures.added

pub returns-in-Some-clause-can : goal.returns-in-Some-clause-can
returns-in-Some-clause-can c =
    let has = ap (λ p. p.sparse) (sym c.program.ensures) ∙ c.in-Some.is in
    still_works c.args.ground.now c.args.receivers.now c.args.env.now c.work_own.new.env c.args.partials.now
    c.work_own.new.partials c.requires c.work_own.ensures.settled
    (subst (λ (n : ℕ). CanReceive c.args.receivers.now n c.work_own.new.env c.work_own.new.partials)
    (sym (ap (λ o. length (sends_in o)) has)) c.work_own.ensures.can)

pub returns-in-None-clause-worked : goal.returns-in-None-clause-worked
returns-in-None-clause-worked c = λ s shows.
    no_block_worked c.args.ground.now c.args.receivers.now c.args.env.now c.args.partials.now c.requires
    (ap (λ p. p.sparse) (sym c.program.ensures) ∙ c.in-None.is) c.args.partials.now.rows s shows
