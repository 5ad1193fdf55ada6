-- The tail runs in the environment that is seen at the vertex.
use Rattle.vert_tree.specs.declared.program.SlotDecl.{SlotDecl}
use Rattle.std.proofs.lemmas.List.{take_all}
use Rattle.std.proofs.Common.{◌≡◌, ◌+◌, ◌-◌, length-drop, ◌<◌, map, ◌∙◌, List, Option, ℤ, ap, drop, length, sym, take, arith}
use Rattle.vert_tree.proofs.TypedLaws.{few_slots}
use Rattle.vert_eval.specs.declared.environment.Env.{Env}
use Rattle.vert_eval.specs.Rounds.{no_values, row_at}
use Rattle.symple_face.specs.CoreSight.{none, program_of}
use Rattle.symple_face.specs.CoreTakes.{slot_count}
use Rattle.vert_eval.specs.SourceRun.{with_row}
use Rattle.machine_parts.specs.Flat.{state_at}
use Rattle.vertex_work.specs.Closing.{ending_partials, own_view, with_block}
use Rattle.vertex_work.proofs.EndingLaws.{seen_there, tail_taken}
use Rattle.vertex_work.proofs.ending.end_loop.Goals as goal

pub clear_values-requires : goal.clear_values-requires
clear_values-requires c =
    let p = program_of c.args.ending.now.split.now in
    let few = few_slots p c.args.ending.now.split.now.program.typed in
    omega (arith, few, ap length c.deref.ensures.value)

pub returns-clause-slots : goal.returns-clause-slots
returns-clause-slots c =
    let split = c.args.ending.now.split.now in
    let p = program_of split in
    let rows = c.args.rows.now.rows in
    let degrees = c.args.ending.now.degrees.now in
    let start = c.args.ending.now.start in
    let key = c.args.ending.now.key in
    let place = c.args.place in
    let own = c.args.own.now in
    let env = c.args.env.now in
    let n = slot_count split in
    let d = c.in-Some.dense in
    let g = own_view rows degrees start env in
    let st = state_at c.args.ring.now.states place in
    let within : c.args.place < length c.args.ending.now.degrees.now = omega (arith, c.requires.can.each) in
    let put = λ (vs : List (Option ℤ)). let e : Env = record env { slots = record { items = vs } } in e in
    let none_now = c.clear_values.ensures
    ∙ ap (λ (l : List SlotDecl). no_values (map (λ s. s.op) l)) c.deref.ensures.value in
    let read = c.read_row_of.ensures.row ∙ ap (λ vs. with_row (row_at rows place) (put vs)) none_now in
    let seen = seen_there rows degrees start place env c.read_row_of.new.env c.enter.new.env (none split) key _ within
    read c.enter.ensures.entered in
    let many : c.len.result ≡ slot_count c.args.ending.now.split.now = omega (arith, c.len.ensures) in
    tail_taken split d g key _ own _ c.args.emits.now.slots.items c.run_tail.new.emits.slots.items st
    c.handed.result.now c.enter.new.env seen c.handed.ensures
    (take_all (length own - c.len.result) (drop c.len.result own) (omega (arith, length-drop c.len.result own))
    ∙ ap (λ k. drop k own) many) c.requires.slots c.run_tail.ensures.slots
    ∙ ap (λ o. take n (with_block o split g key own st (start + place))) (sym c.in-Some.is)
    ∙ ap (λ b. take n (ending_partials b split g key own st (start + place))) (sym c.if-not-ending.false)
