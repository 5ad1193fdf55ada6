use Rattle.std.proofs.Common.{◌≡◌, ◌<◌, ℤ, List, length, ap, ◌∙◌, arith}
use Rattle.std.proofs.Math.ListN.{length-map}
use Rattle.std.specs.List.{list_all}
use Rattle.vert_tree.specs.Places.{Counts, body_placed, expr_placed, sparse_rights}
use Rattle.slot_merge.specs.Partials.{with_emissions}
use Rattle.vert_eval.specs.declared.environment.Env.{Env}
use Rattle.vert_eval.specs.Rounds.{at_member, empty_row, row_at, sender_at, sent_by, slot_ops}
use Rattle.vert_eval.specs.Runs.{run}
use Rattle.vert_eval.specs.Values.{counts_of, value_of}
use Rattle.plain_run.specs.Views.{counts_in, program_of, scene_of}
use Rattle.plain_run.proofs.BlockLaws.{sparse_parts}
use Rattle.plain_run.proofs.sparse.receive.Goals as goal

pub put_sends-requires-clause-names : goal.put_sends-requires-clause-names
put_sends-requires-clause-names c =
    ap (λ k. list_all (λ d. expr_placed k d.value) c.args.sparse.now.sends.items) c.requires.counts
    ∙ (sparse_parts (counts_in c.args.scene.now) c.args.sparse.now c.requires.placed).sends

pub run_body-requires-clause-names : goal.run_body-requires-clause-names
run_body-requires-clause-names c =
    let scene = c.args.scene.now in
    let sparse = c.args.sparse.now in
    let counts = counts_in scene in
    let u = c.args.member.now.from.0 in
    let words = c.put_sends.new.words in
    let lt : u < length scene.rows.now = omega arith in
    let width = length (row_at scene.rows.now u).words.items in
    let put : Counts → Counts = λ k. record k { other_fields = width; sends = length words.items } in
    let many = ap length c.put_sends.ensures ∙ length-map sparse.sends.items (λ d. value_of d.value c.args.sender.now)
    in
    let now : counts_of (record c.enter_member.new.env { sends = words })
    ≡ record counts { sends = length sparse.sends.items } =
    ap (λ e. record (counts_of e) { sends = length words.items }) c.enter_member.ensures
    ∙ ap put c.enter_bare.ensures.counts
    ∙ ap (λ n. record counts { other_fields = n; sends = length words.items }) (c.requires.ready.wide u empty_row lt)
    ∙ ap (λ n. record counts { sends = n }) many in
    let parts = sparse_parts counts sparse c.requires.placed in (
      sparse_rights,
      ap (body_placed sparse_rights (counts_of (record c.enter_member.new.env { sends = words })))
          c.deref.ensures.value ∙ ap (λ k. body_placed sparse_rights k sparse.body.items) now ∙ parts.body,
    )

pub returns-clause-emits : goal.returns-clause-emits
returns-clause-emits c =
    let scene = scene_of c.args.scene.now in
    let sparse = c.args.sparse.now in
    let member = c.args.member.now in
    let old = c.args.emits.now.slots.items in
    let words = c.put_sends.new.words in
    let receiver = sender_at scene (slot_ops (program_of c.args.scene.now)) c.args.v in
    let env : Env = record c.enter_member.new.env { sends = words } in
    let over : List ℤ → Env = λ ws. record (at_member scene member receiver) { sends = record { items = ws } } in
    let same : env ≡ over (sent_by sparse c.args.sender.now) =
    ap (λ e. let made : Env = record e { sends = words } in made) (c.enter_member.ensures
    ∙ ap (at_member scene member) c.enter_bare.ensures.env) ∙ ap over c.put_sends.ensures in
    c.run_body.ensures.emits
    ∙ ap (λ b. with_emissions env.key old (run b env).emitted) c.deref.ensures.value
    ∙ ap (λ e. with_emissions e.key old (run sparse.body.items e).emitted) same
