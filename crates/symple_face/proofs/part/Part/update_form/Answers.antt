-- The form of an update by its parts.
use Rattle.std.proofs.Common.{◌≡◌, ap, sym, ◌∙◌, map, length}
use Rattle.std.specs.Prelude.{◌&&◌, nat_le, nat_lt}
use Rattle.symple_face.specs.PartViews.{plain_of}
use Rattle.symple_face.specs.Shapes.{count_within, half_in, reduced_in, updated}
use Rattle.symple_face.proofs.ListLaws.{length-filter-map}
use Rattle.symple_face.proofs.part.Part.update_form.Goals as goal

pub returns : goal.returns
returns c =
    let range = half_in c.args.self.now.cuts c.args.name.now.to c.args.name.now.half in
    let all = updated (plain_of c.args.self.now) c.args.name.now in
    let count : c.count_within.result ≡ count_within range all =
    c.count_within.ensures.value
    ∙ (sym (length-filter-map (λ v. v.0) (λ v. nat_le c.half_of.result.0 v && nat_lt v c.half_of.result.1)
    c.updated.result.now)
    ∙ (ap (λ r. count_within r (map (λ v. v.0) c.updated.result.now)) c.half_of.ensures.value
    ∙ ap (λ l. count_within range l) c.updated.ensures.list)) in
    let slots : c.slot_count.result ≡ length c.args.self.now.split.value.program.program.slots.items =
    c.slot_count.ensures ∙ ap (λ s. length s.program.program.slots.items) c.deref.ensures in
    let reduced : c.reduced_count.result ≡ length (reduced_in c.args.self.now.split.value.dense) =
    c.reduced_count.ensures ∙ ap (λ s. length (reduced_in s.dense)) c.deref-2.ensures in
    cc (count, slots, reduced)
