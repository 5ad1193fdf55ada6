-- The pass leaves what the close of a round leaves.
use Rattle.std.proofs.Common.{◌&&◌, ◌∙◌, ap, length, map, replicate, subst, sym, arith}
use Rattle.std.specs.List.{range_with_len}
use Rattle.vert_code.specs.Blocks.{lists_of}
use Rattle.vert_code.proofs.Programs.{code_names, code_runs}
use Rattle.vert_tree.proofs.TypedLaws.{few_slots, few_totals}
use Rattle.symple_face.specs.CoreScan.{fresh}
use Rattle.symple_face.specs.CoreSight.{program_of}
use Rattle.symple_face.specs.CoreTakes.{empty_partials}
use Rattle.symple_face.specs.PartViews.{plain_of}
use Rattle.machine_parts.specs.Flat.{fresh_state}
use Rattle.vertex_work.specs.Closing.{CanClose, ended_at, has_tail, own_view}
use Rattle.machine_steps.proofs.BlankLaws.{count_empty, same_for_each}
use Rattle.machine_steps.proofs.ClosedLaws.{each_of_own, pass_closed, shown_closed}
use Rattle.machine_steps.proofs.HalfLaws.{own_degrees}
use Rattle.machine_steps.proofs.close.close_rows.Goals as goal

pub new_env-env-requires-clause-slots : goal.new_env-env-requires-clause-slots
new_env-env-requires-clause-slots c =
    let split = c.args.ground.now.part.split.value in
    let few = few_slots (program_of split) split.program.typed in
    omega (arith, few, c.setting.ensures.slots)

pub new_env-env-requires-clause-totals : goal.new_env-env-requires-clause-totals
new_env-env-requires-clause-totals c =
    let split = c.args.ground.now.part.split.value in
    let few = few_totals (program_of split) split.program.typed in
    omega (arith, few, c.requires.totals)

pub end_rows-requires-clause-can : goal.end_rows-requires-clause-can
end_rows-requires-clause-can c =
    let g = c.args.ground.now in
    let split = g.part.split.value in
    let rows = c.args.rows.now in
    let own = own_degrees (plain_of g.part) c.machine.result c.degrees.result.now c.machine.ensures.number
    c.degrees.ensures in
    subst
    (λ s. CanClose s g.code c.start.result (length rows.rows) (length c.degrees.result.now) rows.width
    c.new_env-env.result)
    (sym c.split-split.ensures)
    (record {
      code = record {
        names = code_names (program_of split) split.program.typed (lists_of g.code) g.compiled;
        runs = code_runs (program_of split) split.program.typed (lists_of g.code) g.compiled;
      };
      each = own.each ∙ sym c.requires.count;
      width = c.requires.wide.rows;
      totals = ap length c.new_env-env.ensures.totals ∙ c.requires.totals;
      round = omega (arith, c.new_env-env.ensures.round, c.setting.ensures.round, c.requires.round);
      ids = omega (arith, c.own_count-own.ensures, c.start.ensures, c.requires.count);
    })

pub end_rows-requires-clause-cells : goal.end_rows-requires-clause-cells
end_rows-requires-clause-cells c =
    let split = c.args.ground.now.part.split.value in
    ap length (c.as_slice.ensures.value ∙ c.empty_row-empty.ensures)
    ∙ ap (λ s. length (empty_partials s)) c.split-split.ensures
    ∙ count_empty split ∙ sym c.requires.wide.partials

pub returns-clause-closed : goal.returns-clause-closed
returns-clause-closed c s shows ps st =
    let g = c.args.ground.now in
    let part = plain_of g.part in
    let split = g.part.split.value in
    let totals = c.args.totals.now in
    let rows = c.args.rows.now.rows in
    let partials = c.args.partials.now.rows in
    let states = c.args.ring.now.states in
    let degrees = c.degrees.result.now in
    let start = c.start.result in
    let key = c.from.result in
    let tail = c.runs_tail-tail.result in
    let env = c.new_env-env.result in
    let n = length rows in
    let same = c.split-split.ensures in
    record {
      rows = ap (λ t. t.rows) c.end_rows.ensures.rows
          ∙ ap (λ x. map (ended_at tail x (own_view rows degrees start env) key start partials states)
          (range_with_len start n)) same
          ∙ pass_closed part split totals rows partials states c.args.round start key c.machine.result c.args.dense tail
          degrees env c.start.ensures.start (c.from.ensures ∙ c.machines.ensures.count) c.machine.ensures.number
          c.degrees.ensures c.requires.count
          (c.runs_tail-tail.ensures ∙ ap (λ x. c.args.dense && has_tail (program_of x).dense) same)
          (c.new_env-env.ensures.n ∙ c.setting.ensures.vertices)
          (c.new_env-env.ensures.round ∙ c.setting.ensures.round)
          (c.new_env-env.ensures.draws ∙ c.setting.ensures.draws) c.new_env-env.ensures.totals
          ∙ sym (shown_closed s part split totals rows partials states c.args.round c.args.dense shows ps st);
      partials = ap (λ t. t.rows) c.end_rows.ensures.partials
          ∙ same_for_each (empty_partials c.split-split.result.now) start n
          ∙ ap (λ x. replicate n (empty_partials x)) (same ∙ sym shows.split)
          ∙ sym (each_of_own (empty_partials s.split) s part n shows.part c.requires.count);
      ring = ap (λ t. t.states) c.refresh_ring.ensures
          ∙ ap (λ w. replicate (length states) (fresh_state w)) c.ring_width.ensures.width
          ∙ ap (λ x. replicate (length states) (fresh x)) (same ∙ sym shows.split)
          ∙ sym (each_of_own (fresh s.split) s part (length states) shows.part (c.requires.states ∙ c.requires.count));
    }
