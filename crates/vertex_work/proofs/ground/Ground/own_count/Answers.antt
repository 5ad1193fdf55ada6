use Rattle.std.proofs.Common.{◌-◌, ◌≡◌, ap, sym, ◌∙◌}
use Rattle.std.specs.Prelude.{slice_index}
use Rattle.std.proofs.lemmas.List.FromFn.{length-range_with_len}
use Rattle.vert_base.specs.Ends.{start_of}
use Rattle.vertex_work.proofs.ground.Ground.own_count.Goals as goal

pub returns-clause-count : goal.returns-clause-count
returns-clause-count c =
    let ends = c.args.self.now.part.cuts in
    let m = c.args.self.now.part.at.machine in
    let a : c.end.result ≡ slice_index ends m = c.end.ensures.value ∙ ap (slice_index ends)
    c.machine-machine.ensures.number in
    let b : c.start.result ≡ start_of ends m = c.start.ensures ∙ ap (start_of ends) c.machine-machine.ensures.number in
    ap (λ x. x - c.start.result) a ∙ ap (λ y. slice_index ends m - y) b
    ∙ sym (length-range_with_len (start_of ends m) (slice_index ends m - start_of ends m))
