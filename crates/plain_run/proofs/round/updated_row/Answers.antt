use Rattle.std.proofs.Common.{◌≡◌, ◌<◌, length, map, ap, ◌∙◌, arith}
use Rattle.std.proofs.Math.ListN.{length-map}
use Rattle.vert_tree.specs.Places.{body_placed, update_rights}
use Rattle.vert_eval.specs.declared.environment.Env.{Env}
use Rattle.vert_base.specs.declared.value.Row.{Row}
use Rattle.vert_eval.specs.Rounds.{empty_row, env_at}
use Rattle.vert_eval.specs.Runs.{run}
use Rattle.vert_eval.specs.Values.{counts_of}
use Rattle.plain_run.specs.Views.{counts_in, program_of, scene_of}
use Rattle.plain_run.proofs.EnvLaws.{counts_at}
use Rattle.vert_tree.proofs.TypedLaws.{few_totals, update_placed}
use Rattle.plain_run.proofs.round.updated_row.Goals as goal

pub enter_vertex-requires-clause-totals : goal.enter_vertex-requires-clause-totals
enter_vertex-requires-clause-totals c = rw c.requires.ready.totals
    (few_totals (program_of c.args.scene.now) c.args.scene.now.program.now.typed)

pub run_body-requires-clause-names : goal.run_body-requires-clause-names
run_body-requires-clause-names c =
    let scene = c.args.scene.now in
    let program = program_of scene in
    let values = map (λ p. p.value) c.args.desk.now.emits.slots.items in
    let env : Env = record c.enter_vertex.new.env { slots = c.put_values.new.values } in
    let lt : c.args.v < length scene.rows.now = omega arith in
    let many : length values ≡ length program.slots.items =
    length-map c.args.desk.now.emits.slots.items (λ p. p.value) ∙ c.requires.slots in
    let same : env ≡ env_at (scene_of scene) c.args.v values =
    ap (λ e. let made : Env = record e { slots = c.put_values.new.values } in made) c.enter_vertex.ensures.env
    ∙ ap (env_at (scene_of scene) c.args.v) c.put_values.ensures in
    let now : counts_of env ≡ counts_in scene =
    ap counts_of same ∙ counts_at (scene_of scene) program c.args.v values
    (c.requires.ready.wide c.args.v empty_row lt) many c.requires.ready.totals in (
      update_rights,
      ap (body_placed update_rights (counts_of env)) c.deref.ensures.value
          ∙ ap (λ k. body_placed update_rights k program.update.items) now
          ∙ update_placed program scene.program.now.typed,
    )

pub returns-clause-row : goal.returns-clause-row
returns-clause-row c =
    let scene = scene_of c.args.scene.now in
    let update = (program_of c.args.scene.now).update.items in
    let values = map (λ p. p.value) c.args.desk.now.emits.slots.items in
    let env : Env = record c.enter_vertex.new.env { slots = c.put_values.new.values } in
    let same : env ≡ env_at scene c.args.v values =
    ap (λ e. let made : Env = record e { slots = c.put_values.new.values } in made) c.enter_vertex.ensures.env
    ∙ ap (env_at scene c.args.v) c.put_values.ensures in
    let left = c.run_body.new.env in
    let row : Env → Row = λ e. record e.row { active = e.next_active } in
    ap (λ (r : Row). let made : Row = record r { active = left.next_active } in made) c.copy_row.ensures
    ∙ ap row (c.run_body.ensures.env ∙ ap (λ b. (run b env).env) c.deref.ensures.value
    ∙ ap (λ e. (run update e).env) same)
