-- One more degree.
use Rattle.std.proofs.Common.{◌∙◌, ◌++◌, ◌∷◌, [], ap, arith, map, sym}
use Rattle.std.specs.List.{range_with_len}
use Rattle.std.proofs.lemmas.List.FromFn.{map-range_with_len_more}
use Rattle.symple_face.specs.Parts.{degree_in}
use Rattle.mirror_table.proofs.degrees.degrees.Goals as goal

pub loop-v-preserved : goal.loop-v-preserved
loop-v-preserved c =
    let f = degree_in c.args.table.now.list c.args.table.now.list in
    let v = c.loop-v.v in
    c.in_ok-push.ensures.items
    ∙ (ap (λ ys. ys ++ c.degree.result ∷ []) c.loop-v.invariant
    ∙ (ap (λ d. map f (range_with_len 0 v) ++ d ∷ []) c.degree.ensures
    ∙ sym (map-range_with_len_more f 0 v v (omega arith))))
