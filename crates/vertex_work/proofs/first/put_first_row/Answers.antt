use Rattle.std.proofs.Common.{◌≡◌, ◌+◌, ◌≤◌, [], length, set, ap, sym, subst, ◌∙◌, arith}
use Rattle.std.specs.List.{list_all}
use Rattle.vert_base.specs.declared.value.Row.{Row}
use Rattle.vert_base.specs.Ends.{start_of}
use Rattle.vert_tree.specs.declared.program.Program.{Program}
use Rattle.vert_tree.specs.Places.{expr_placed}
use Rattle.vert_tree.proofs.TypedLaws.{few_fields, fields_placed, start_placed}
use Rattle.vert_eval.specs.declared.environment.Env.{Env}
use Rattle.vert_eval.specs.Values.{counts_of}
use Rattle.machine_parts.specs.Flat.{RowTable}
use Rattle.symple_face.specs.CoreFirst.{first_row_of}
use Rattle.symple_face.specs.PartViews.{plain_of}
use Rattle.symple_face.specs.Sight.{seen_env}
use Rattle.vertex_work.specs.Firsts.{counts_with, first_row_by}
use Rattle.vertex_work.proofs.FirstLaws.{blank_sight, ready}
use Rattle.vertex_work.proofs.first.put_first_row.Goals as goal

pub first_row-row-requires : goal.first_row-row-requires
first_row-row-requires c =
    let part = plain_of c.args.ground.now.part in
    let typed = c.args.ground.now.part.split.value.program in
    let p = typed.program in
    let v = c.start.result + c.args.place in
    let env : c.enter.new.env ≡ seen_env (blank_sight part) v 0 [] =
    c.enter.ensures.seen (blank_sight part) []
    (ready part c.args.env.now c.clear_rows.new.env v _ c.args.degree.now c.requires.blank c.clear_rows.ensures
    c.requires.degree (ap (λ a. a + c.args.place) c.start.ensures.start)) in
    let few = few_fields p typed.typed in
    let within = c.own_count-count.ensures.within in
    let count = c.own_count-count.ensures.count in
    let first = c.start.ensures.start in
    let inside = c.requires.own in
    let round = ap (λ (e : Env). e.round) env in
    let id = ap (λ (e : Env). e.id.0) env in
    record {
      room = subst (λ (q : Program). length q.fields.items ≤ 16) (sym c.program.ensures) few;
      fields = ap (λ (q : Program). list_all (λ d. expr_placed (counts_of c.enter.new.env) d.value) q.fields.items)
          c.program.ensures
          ∙ ap (λ (e : Env). list_all (λ d. expr_placed (counts_of e) d.value) p.fields.items) env
          ∙ fields_placed p typed.typed;
      start = ap (λ (q : Program). expr_placed (counts_with q c.enter.new.env) q.start) c.program.ensures
          ∙ ap (λ (e : Env). expr_placed (counts_with p e) p.start) env ∙ start_placed p typed.typed;
      draws = record { round = omega (arith, round); id = omega (arith, id, within, count, first, inside) };
    }

pub returns-clause-rows : goal.returns-clause-rows
returns-clause-rows c =
    let part = plain_of c.args.ground.now.part in
    let split = c.args.ground.now.part.split.value in
    let p = split.program.program in
    let v = c.start.result + c.args.place in
    let a = start_of part.ends part.at.machine in
    let old : RowTable = c.args.rows.now in
    let env : c.enter.new.env ≡ seen_env (blank_sight part) v 0 [] =
    c.enter.ensures.seen (blank_sight part) []
    (ready part c.args.env.now c.clear_rows.new.env v _ c.args.degree.now c.requires.blank c.clear_rows.ensures
    c.requires.degree (ap (λ a. a + c.args.place) c.start.ensures.start)) in
    c.write.ensures
    ∙ ap (λ (row : Row). record old { rows = set old.rows c.args.place row })
    (c.first_row-row.ensures.row
    ∙ ap (λ (q : Program). first_row_by q c.enter.new.env) c.program.ensures
    ∙ ap (first_row_by p) env
    ∙ ap (λ a. first_row_of part split (a + c.args.place)) c.start.ensures.start)

pub returns-clause-blank : goal.returns-clause-blank
returns-clause-blank c =
    let part = plain_of c.args.ground.now.part in
    let v = c.start.result + c.args.place in
    let env : c.enter.new.env ≡ seen_env (blank_sight part) v 0 [] =
    c.enter.ensures.seen (blank_sight part) []
    (ready part c.args.env.now c.clear_rows.new.env v _ c.args.degree.now c.requires.blank c.clear_rows.ensures
    c.requires.degree (ap (λ a. a + c.args.place) c.start.ensures.start)) in
    let after = c.first_row-row.ensures in
    record {
      n = after.n ∙ ap (λ (e : Env). e.n) env;
      round = after.round ∙ ap (λ (e : Env). e.round) env;
      draws = after.seed ∙ ap (λ (e : Env). e.draws) env;
      totals = ap (λ ws. ws.items) after.totals ∙ ap (λ (e : Env). e.totals.items) env;
      slots = ap (λ vs. vs.items) after.slots ∙ ap (λ (e : Env). e.slots.items) env;
    }
