use Rattle.std.proofs.Common.{◌≡◌, ◌<◌, length, ap, ◌∙◌, arith}
use Rattle.vert_tree.specs.Places.{body_placed}
use Rattle.vert_eval.specs.Values.{counts_of}
use Rattle.vert_eval.specs.Rounds.{empty_row}
use Rattle.plain_run.proofs.dense.visit.Goals as goal

pub run_body-requires-clause-names : goal.run_body-requires-clause-names
run_body-requires-clause-names c =
    let u = c.args.member.now.from.0 in
    let lt : u < length c.args.scene.now.rows.now = omega arith in
    let same : counts_of c.enter_member.new.env ≡ counts_of c.args.env.now =
    ap counts_of c.enter_member.ensures ∙ ap (λ n. record (counts_of c.args.env.now) { other_fields = n })
    (c.requires.wide u empty_row lt) in
    (c.requires.names.0, ap (λ k. body_placed c.requires.names.0 k c.args.body.now) same ∙ c.requires.names.1)
