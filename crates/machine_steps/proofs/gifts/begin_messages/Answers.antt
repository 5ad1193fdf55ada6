-- By the ruling rows, sends or nothing.
use Rattle.std.proofs.Common.{◌∙◌, false, true}
use Rattle.std.proofs.lemmas.Result.{IfOk-weaker}
use Rattle.symple_face.specs.PartViews.{plain_of}
use Rattle.machine_steps.proofs.GiftLaws.{dense_sent, others_are, sparse_sent}
use Rattle.machine_steps.proofs.gifts.begin_messages.Goals as goal

pub returns-in-Dense : goal.returns-in-Dense
returns-in-Dense c =
    IfOk-weaker c.messages.result _ _
    (λ out is s shows at rules.
    is s shows
    ∙ others_are s (plain_of c.args.ground.now.part) c.args.round true shows.part
    ∙ dense_sent s c.args.round at (rules ∙ c.in-Dense.is))
    c.messages.ensures

pub returns-in-Sparse : goal.returns-in-Sparse
returns-in-Sparse c =
    IfOk-weaker c.messages-in-Sparse.result _ _
    (λ out is s shows at rules.
    is s shows
    ∙ others_are s (plain_of c.args.ground.now.part) c.args.round false shows.part
    ∙ sparse_sent s c.args.round at (rules ∙ c.in-Sparse.is))
    c.messages-in-Sparse.ensures
