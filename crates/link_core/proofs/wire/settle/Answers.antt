use Rattle.std.proofs.Common.{◌≡◌, ◌≤◌, refl, ap, sym, ◌∙◌, subst, arith}
use Rattle.std.specs.Prelude.{if◌then◌else◌}
use Rattle.std.proofs.lemmas.Result.{on_ok_weaker}
use Rattle.link_core.specs.Piles.{count_of}
use Rattle.link_core.specs.Wires.{traffic_of}
use Rattle.link_core.proofs.WireLaws.{right, right_if, right_there, settled_fewer, settled_more, settled_same}
use Rattle.link_core.proofs.wire.settle.Goals as goal

pub returns-then-not-is : goal.returns-then-not-is
returns-then-not-is c =
    let t = traffic_of c.args.wire.now in
    let few = c.if-not-is.true in
    let is = c.count_of-is.ensures.count in
    let none : count_of c.args.name.now c.args.wire.now.repeatable ≡ 0 = omega arith in
    let one : right t c.args.name.now ≡ 1 =
    right_if t c.args.name.now c.can_repeat-can.result c.can_repeat-can.ensures
    ∙ ap (λ b. if b then 1 else 0) c.if-can.true in
    record {
      settled = on_ok_weaker c.add.result
          (λ added. record {
            settled = λ y.
                ap (count_of y) added
                ∙ settled_more c.args.name.now c.args.wire.now.repeatable (right t)
                c.count_of-is.ensures.order.ascend c.requires.others none one y;
            traffic = refl;
          })
          c.add.ensures.added;
    }

pub returns-then-not-can : goal.returns-then-not-can
returns-then-not-can c =
    let t = traffic_of c.args.wire.now in
    let none : right t c.args.name.now ≡ 0 =
    right_if t c.args.name.now c.can_repeat-can.result c.can_repeat-can.ensures
    ∙ ap (λ b. if b then 1 else 0) c.if-not-can.true in
    record {
      settled = record {
        settled = λ y.
            ap (count_of y) c.remove.ensures.removed
            ∙ settled_fewer c.args.name.now c.args.wire.now.repeatable (right t)
            c.count_of-is.ensures.order.ascend c.requires.others c.requires.once none y;
        traffic = refl;
      };
    }

pub returns-else-is : goal.returns-else-is
returns-else-is c =
    let t = traffic_of c.args.wire.now in
    let few : c.count_of-is.result ≤ 1 = subst (λ n. n ≤ 1) (sym c.count_of-is.ensures.count) c.requires.once in
    record {
      settled = record {
        settled = λ y.
            settled_same c.args.name.now c.args.wire.now.repeatable (right t) c.count_of-is.ensures.order.ascend
            c.requires.others
            (sym c.count_of-is.ensures.count
            ∙ right_there t c.args.name.now c.can_repeat-can.result c.count_of-is.result c.can_repeat-can.ensures few
            c.else-can.either c.else-is.either)
            y;
        traffic = refl;
      };
    }
