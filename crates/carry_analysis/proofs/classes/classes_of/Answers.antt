use Rattle.std.proofs.Common.{◌≡◌, ◌++◌, ◌∷◌, [], false, refl, ap, sym, ◌∙◌, get_or, length, map, take, replicate, arith}
use Rattle.std.proofs.lemmas.List.{map_more}
use Rattle.carry_analysis.specs.declared.seen.Seen.TheVariants.{Nowhere}
use Rattle.carry_analysis.specs.Classes.{body_marks, has_break}
use Rattle.carry_analysis.specs.Walks.{class_seen, walk_after}
use Rattle.carry_analysis.proofs.ClassLaws.{classes_are}
use Rattle.carry_analysis.proofs.SightLaws.{after-length, break-seen, sight}
use Rattle.carry_analysis.proofs.classes.classes_of.Goals as goal

pub loop-i-preserved : goal.loop-i-preserved
loop-i-preserved c =
    let wide : length c.walk_body.new.walk.lets ≡ 8 =
    ap (λ s. length s.lets) c.walk_body.ensures
    ∙ after-length (sight (replicate 8 Nowhere) false) (body_marks c.deref.result.now) in
    c.push.ensures.items
    ∙ ap (λ x. c.loop-i.locals.items ++ x ∷ []) c.class_seen.ensures
    ∙ ap (λ l. l ++ class_seen (get_or c.walk_body.new.walk.lets c.loop-i.i Nowhere) ∷ []) c.loop-i.invariant
    ∙ sym (map_more class_seen c.walk_body.new.walk.lets c.loop-i.i Nowhere (omega (arith, wide)))

pub returns-clause-locals : goal.returns-clause-locals
returns-clause-locals c =
    let ds = c.args.dense.now.lets.items in
    let count : c.loop-i.i ≡ length ds = omega arith in
    c.loop-i.invariant
    ∙ ap (λ n. map class_seen (take n c.walk_body.new.walk.lets)) count
    ∙ ap (λ s. map class_seen (take (length ds) s.lets)) c.walk_body.ensures
    ∙ ap (λ l. map class_seen (take (length ds) (walk_after (sight (replicate 8 Nowhere) false) (body_marks l)).lets))
    c.deref.ensures.value
    ∙ classes_are ds (body_marks c.args.dense.now.body.items) c.requires.few

pub returns-clause-breaks : goal.returns-clause-breaks
returns-clause-breaks c =
    ap (λ s. s.breaks) c.walk_body.ensures
    ∙ break-seen (sight (replicate 8 Nowhere) false) (body_marks c.deref.result.now) refl
    ∙ ap (λ l. has_break (body_marks l)) c.deref.ensures.value
