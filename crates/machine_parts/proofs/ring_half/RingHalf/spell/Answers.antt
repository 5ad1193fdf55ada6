-- The marks come first, then the words of the started vertices.
use Rattle.std.proofs.Common.{◌++◌, map, sym, ap, ◌∙◌}
use Rattle.std.specs.List.{flat_map}
use Rattle.dep_layout.specs.Spelling.{mark_bytes, mark_of, sent_bytes}
use Rattle.machine_parts.specs.Flat.{StateTable}
use Rattle.machine_parts.proofs.RingLaws.{marks_in}
use Rattle.machine_parts.proofs.ring_half.RingHalf.spell.Goals as goal

pub returns : goal.returns
returns c =
    let r = c.self.inside in
    let states = c.args.self.now.states in
    let marks = c.deref.ensures.value
    ∙ sym (marks_in r.marks.items r.words.rows c.self.invariant.0.size)
    ∙ ap (λ (t : StateTable). map mark_of t.states) c.self.view_is in
    c.in_ok-put_states.ensures
    ∙ ap (λ front. front ++ flat_map sent_bytes states)
    (c.in_ok-put_marks.ensures ∙ ap (λ front. front ++ mark_bytes c.deref.result.now) c.in_ok-body.ensures.items
    ∙ ap mark_bytes marks)
