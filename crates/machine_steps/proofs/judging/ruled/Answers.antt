use Rattle.std.proofs.Common.{◌≡◌, ◌≤◌, ◌+◌, ◌∙◌, [], ap, refl, sym, subst}
use Rattle.std.specs.Prelude.{if◌then◌else◌}
use Rattle.machine_parts.specs.Judging.{IsStopPlaced}
use Rattle.mode_switch.specs.Ruling.{ruling_of}
use Rattle.symple_face.specs.PartViews.{plain_of}
use Rattle.symple_face.specs.Sight.{seen_env}
use Rattle.vert_base.specs.declared.value.Ruling.TheVariants.{Stop}
use Rattle.vert_eval.specs.declared.environment.Env.{Env}
use Rattle.vert_eval.specs.SourceRun.{stops}
use Rattle.vert_tree.specs.declared.program.Program.{Program}
use Rattle.vert_tree.specs.Places.{no_counts}
use Rattle.vert_tree.proofs.TypedLaws.{few_rounds}
use Rattle.machine_steps.specs.Plain.{counted_of}
use Rattle.machine_steps.proofs.JudgeLaws.{nobody_sight, rules_anywhere, stop_placed}
use Rattle.machine_steps.proofs.judging.ruled.Goals as goal

pub rule-requires-clause-names : goal.rule-requires-clause-names
rule-requires-clause-names c =
    let part = plain_of c.args.ground.now.part in
    let typed = c.args.ground.now.part.split.value.program in
    let totals = c.args.sums.now.totals.items in
    let clear = c.clear_rows.ensures in
    let made = c.new_env-env.ensures in
    let env : c.enter.new.env ≡ seen_env (nobody_sight part c.args.round totals) 0 0 [] =
    c.enter.ensures.seen (nobody_sight part c.args.round totals) [] (record {
      n = ap (λ (e : Env). e.n) clear ∙ made.n ∙ c.setting.ensures.vertices;
      round = ap (λ (e : Env). e.round) clear ∙ made.round ∙ c.setting.ensures.round;
      draws = ap (λ (e : Env). e.draws) clear ∙ made.draws ∙ c.setting.ensures.draws;
      totals = ap (λ (e : Env). e.totals.items) clear ∙ made.totals ∙ c.as_slice.ensures.value;
      slots = ap (λ (e : Env). e.slots.items) clear ∙ made.slots;
      row = ap (λ (e : Env). e.row) clear;
      other = ap (λ (e : Env). e.other_row) clear;
      ins = refl;
      outs = refl;
    }) in
    subst (λ (q : Program). IsStopPlaced q.stop c.enter.new.env) (sym c.program.ensures)
    (subst (λ (e : Env). IsStopPlaced typed.program.stop e) (sym env)
    (stop_placed typed.program typed.typed (seen_env (nobody_sight part c.args.round totals) 0 0 [])
    (λ j. record no_counts { totals = c.requires.totals j })))

pub rule-requires-clause-limit : goal.rule-requires-clause-limit
rule-requires-clause-limit c =
    let typed = c.args.ground.now.part.split.value.program in
    subst (λ (q : Program). q.limit ≤ 10000) (sym c.program.ensures) (few_rounds typed.program typed.typed)

pub returns : goal.returns
returns c = λ s is_part is_split.
    let part = plain_of c.args.ground.now.part in
    let split = c.args.ground.now.part.split.value in
    let p = split.program.program in
    let sums = counted_of c.args.sums.now in
    let totals = c.args.sums.now.totals.items in
    let clear = c.clear_rows.ensures in
    let made = c.new_env-env.ensures in
    let env : c.enter.new.env ≡ seen_env (nobody_sight part c.args.round totals) 0 0 [] =
    c.enter.ensures.seen (nobody_sight part c.args.round totals) [] (record {
      n = ap (λ (e : Env). e.n) clear ∙ made.n ∙ c.setting.ensures.vertices;
      round = ap (λ (e : Env). e.round) clear ∙ made.round ∙ c.setting.ensures.round;
      draws = ap (λ (e : Env). e.draws) clear ∙ made.draws ∙ c.setting.ensures.draws;
      totals = ap (λ (e : Env). e.totals.items) clear ∙ made.totals ∙ c.as_slice.ensures.value;
      slots = ap (λ (e : Env). e.slots.items) clear ∙ made.slots;
      row = ap (λ (e : Env). e.row) clear;
      other = ap (λ (e : Env). e.other_row) clear;
      ins = refl;
      outs = refl;
    }) in
    c.rule.ensures
    ∙ ap (λ (q : Program). if stops q.stop c.enter.new.env then Stop
    else ruling_of sums.active sums.edges part.edges (c.enter.new.env.round + 1) q.limit q.mode) c.program.ensures
    ∙ ap (λ (e : Env). if stops p.stop e then Stop
    else ruling_of sums.active sums.edges part.edges (e.round + 1) p.limit p.mode) env
    ∙ rules_anywhere part split c.args.round sums s is_part is_split
