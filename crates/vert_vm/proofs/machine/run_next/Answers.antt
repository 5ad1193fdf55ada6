use Rattle.std.proofs.Common.{ℤ, ◌+◌, ◌∷◌, length, pos, sym, ap, ◌∙◌, subst, to_z, of_z, w64}
use Rattle.std.specs.Prelude.{slice_index_or}
use Rattle.std.proofs.lemmas.Int.{to_z-of_z}
use Rattle.std.proofs.lemmas.List.{get_or_default}
use Rattle.vert_eval.specs.Runs.{Ran}
use Rattle.vert_code.specs.declared.instr.Instr.TheVariants.{Push}
use Rattle.vert_code.specs.Machine.{gives}
use Rattle.vert_vm.specs.Ends.{SameEnd, rest_of}
use Rattle.vert_vm.proofs.NextLaws.{if_both, load_entered, load_is, load_low, load_more, next_ends, next_entered, next_within}
use Rattle.vert_vm.proofs.StepLaws.{can_at}
use Rattle.vert_vm.proofs.machine.run_next.Goals as goal

pub bounds-list-place-in-Some : goal.bounds-list-place-in-Some
bounds-list-place-in-Some c =
    let a = c.args in
    let list = a.list.now in
    let i = slice_index_or list a.place (Push (pos 0)) in
    let is = get_or_default list a.place (Push (pos 0)) i c.requires.inside in
    load_more list a.place i c.requires.inside is c.in-Some.value a.stack.now a.env.now (c.in-Some.ensures.loads
    a.place a.stack.now) c.requires.entered

pub run_above-requires-clause-height : goal.run_above-requires-clause-height
run_above-requires-clause-height c =
    let a = c.args in
    let list = a.list.now in
    let i = slice_index_or list a.place (Push (pos 0)) in
    let is = get_or_default list a.place (Push (pos 0)) i c.requires.inside in
    load_low list a.place i c.requires.inside is c.in-Some.value a.stack.now a.env.now (c.in-Some.ensures.loads
    a.place a.stack.now) c.requires.entered

pub run_above-requires-clause-room : goal.run_above-requires-clause-room
run_above-requires-clause-room c =
    let a = c.args in
    let list = a.list.now in
    let i = slice_index_or list a.place (Push (pos 0)) in
    let is = get_or_default list a.place (Push (pos 0)) i c.requires.inside in
    let loads = c.in-Some.ensures.loads a.place a.stack.now in
    let entered = load_entered list a.place i c.requires.inside is c.in-Some.value a.stack.now a.env.now loads
    c.requires.entered in
    let more = load_more list a.place i c.requires.inside is c.in-Some.value a.stack.now a.env.now loads
    c.requires.entered in
    let taker = slice_index_or list (a.place + 1) (Push (pos 0)) in
    can_at list (a.place + 1) taker more (get_or_default list (a.place + 1) (Push (pos 0)) taker more) (length
    (c.in-Some.value ∷ a.stack.now)) entered

pub run_step-requires-clause-room : goal.run_step-requires-clause-room
run_step-requires-clause-room c =
    let a = c.args in
    let list = a.list.now in
    let i = slice_index_or list a.place (Push (pos 0)) in
    can_at list a.place i c.requires.inside (get_or_default list a.place (Push (pos 0)) i c.requires.inside)
    (length a.stack.now) c.requires.entered

pub returns-in-Some-clause-within : goal.returns-in-Some-clause-within
returns-in-Some-clause-within c =
    let a = c.args in
    let list = a.list.now in
    let i = slice_index_or list a.place (Push (pos 0)) in
    let is = get_or_default list a.place (Push (pos 0)) i c.requires.inside in
    let value = to_z w64 (of_z w64 c.in-Some.value) in
    let kept = to_z-of_z w64 c.in-Some.value c.in-Some.ensures.fits in
    let loads = c.in-Some.ensures.loads a.place a.stack.now ∙ ap (λ (v : ℤ). gives v a.stack.now a.env.now) (sym
    kept) in
    let entered = load_entered list a.place i c.requires.inside is value a.stack.now a.env.now loads
    c.requires.entered in
    let more = load_more list a.place i c.requires.inside is value a.stack.now a.env.now loads c.requires.entered in
    let taker = slice_index_or list (a.place + 1) (Push (pos 0)) in
    let takes = get_or_default list (a.place + 1) (Push (pos 0)) taker more in
    let h = c.run_above.ensures in
    let new = c.run_above.new in
    if_both _ _ _ c.run_above.result h.next h.going (λ n to going.
    next_within list (a.place + 1) taker more takes (value ∷ a.stack.now) new.stack a.env.now new.env
    a.emits.now.slots.items new.emits.slots.items entered h.stack h.env h.emits n to)

pub returns-in-Some-clause-entered : goal.returns-in-Some-clause-entered
returns-in-Some-clause-entered c =
    let a = c.args in
    let list = a.list.now in
    let i = slice_index_or list a.place (Push (pos 0)) in
    let is = get_or_default list a.place (Push (pos 0)) i c.requires.inside in
    let value = to_z w64 (of_z w64 c.in-Some.value) in
    let kept = to_z-of_z w64 c.in-Some.value c.in-Some.ensures.fits in
    let loads = c.in-Some.ensures.loads a.place a.stack.now ∙ ap (λ (v : ℤ). gives v a.stack.now a.env.now) (sym
    kept) in
    let entered = load_entered list a.place i c.requires.inside is value a.stack.now a.env.now loads
    c.requires.entered in
    let more = load_more list a.place i c.requires.inside is value a.stack.now a.env.now loads c.requires.entered in
    let taker = slice_index_or list (a.place + 1) (Push (pos 0)) in
    let takes = get_or_default list (a.place + 1) (Push (pos 0)) taker more in
    let h = c.run_above.ensures in
    let new = c.run_above.new in
    if_both _ _ _ c.run_above.result h.next h.going (λ n to going.
    next_entered list (a.place + 1) taker more takes (value ∷ a.stack.now) new.stack a.env.now new.env
    a.emits.now.slots.items new.emits.slots.items entered h.stack h.env h.emits n to)

pub returns-in-Some-clause-ends : goal.returns-in-Some-clause-ends
returns-in-Some-clause-ends c =
    let a = c.args in
    let list = a.list.now in
    let i = slice_index_or list a.place (Push (pos 0)) in
    let is = get_or_default list a.place (Push (pos 0)) i c.requires.inside in
    let value = to_z w64 (of_z w64 c.in-Some.value) in
    let kept = to_z-of_z w64 c.in-Some.value c.in-Some.ensures.fits in
    let loads = c.in-Some.ensures.loads a.place a.stack.now ∙ ap (λ (v : ℤ). gives v a.stack.now a.env.now) (sym
    kept) in
    let entered = load_entered list a.place i c.requires.inside is value a.stack.now a.env.now loads
    c.requires.entered in
    let more = load_more list a.place i c.requires.inside is value a.stack.now a.env.now loads c.requires.entered in
    let whole = load_is list a.place i c.requires.inside is value a.stack.now a.env.now loads c.requires.entered in
    let taker = slice_index_or list (a.place + 1) (Push (pos 0)) in
    let takes = get_or_default list (a.place + 1) (Push (pos 0)) taker more in
    let h = c.run_above.ensures in
    let new = c.run_above.new in
    if_both _ _ _ c.run_above.result h.next h.going (λ n to going.
    subst (λ (r : Ran). SameEnd new.env.key new.emits.slots.items (rest_of list n new.stack new.env) a.env.now.key
    a.emits.now.slots.items r) (sym whole)
    (next_ends list (a.place + 1) taker more takes (value ∷ a.stack.now) new.stack a.env.now new.env
    a.emits.now.slots.items new.emits.slots.items entered h.stack h.env h.emits h.kept.key n to going))

pub returns-in-None-clause-within : goal.returns-in-None-clause-within
returns-in-None-clause-within c =
    let a = c.args in
    let list = a.list.now in
    let i = slice_index_or list a.place (Push (pos 0)) in
    let is = get_or_default list a.place (Push (pos 0)) i c.requires.inside in
    let h = c.run_step.ensures in
    let new = c.run_step.new in
    if_both _ _ _ c.run_step.result h.next h.going (λ n to going.
    next_within list a.place i c.requires.inside is a.stack.now new.stack a.env.now new.env a.emits.now.slots.items
    new.emits.slots.items c.requires.entered h.stack h.env h.emits n to)

pub returns-in-None-clause-entered : goal.returns-in-None-clause-entered
returns-in-None-clause-entered c =
    let a = c.args in
    let list = a.list.now in
    let i = slice_index_or list a.place (Push (pos 0)) in
    let is = get_or_default list a.place (Push (pos 0)) i c.requires.inside in
    let h = c.run_step.ensures in
    let new = c.run_step.new in
    if_both _ _ _ c.run_step.result h.next h.going (λ n to going.
    next_entered list a.place i c.requires.inside is a.stack.now new.stack a.env.now new.env
    a.emits.now.slots.items new.emits.slots.items c.requires.entered h.stack h.env h.emits n to)

pub returns-in-None-clause-ends : goal.returns-in-None-clause-ends
returns-in-None-clause-ends c =
    let a = c.args in
    let list = a.list.now in
    let i = slice_index_or list a.place (Push (pos 0)) in
    let is = get_or_default list a.place (Push (pos 0)) i c.requires.inside in
    let h = c.run_step.ensures in
    let new = c.run_step.new in
    if_both _ _ _ c.run_step.result h.next h.going (λ n to going.
    next_ends list a.place i c.requires.inside is a.stack.now new.stack a.env.now new.env a.emits.now.slots.items
    new.emits.slots.items c.requires.entered h.stack h.env h.emits h.kept.key n to going)
