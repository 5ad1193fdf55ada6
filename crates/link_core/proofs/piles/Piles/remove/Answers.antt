use Rattle.std.proofs.Common.{sym, ◌∙◌, subst, arith}
use Rattle.std.proofs.Math.ListN.{length-set}
use Rattle.link_core.specs.declared.pile.Pile.{Pile}
use Rattle.link_core.specs.Piles.{ArePiles}
use Rattle.link_core.specs.PilePlaces.{IsPileAt}
use Rattle.link_core.proofs.PileLaws.{fewer_are}
use Rattle.link_core.proofs.PileMoves.{fallen_there, last_there}
use Rattle.link_core.proofs.piles.Piles.remove.Goals as goal

pub invariant_of-self : goal.invariant_of-self
invariant_of-self c =
    let there : IsPileAt c.args.name.now c.self.inside.piles.items c.in-Ok.at =
    subst (λ ps. IsPileAt c.args.name.now ps c.in-Ok.at) c.deref.ensures.value c.in-Ok.ensures.there in (
      subst ArePiles
          (sym (c.remove.ensures.items
          ∙ last_there c.args.name.now c.self.inside.piles.items c.in-Ok.at there c.index-pile.result.now
          c.index-pile.ensures c.if-pile-le1.true))
          (fewer_are c.args.name.now c.self.inside.piles.items c.self.invariant.0),
      (let len = c.remove.ensures.len in let few = c.self.invariant.1 in omega arith),
    )

pub invariant_of-self-else-pile-le1 : goal.invariant_of-self-else-pile-le1
invariant_of-self-else-pile-le1 c =
    let there : IsPileAt c.args.name.now c.self.inside.piles.items c.in-Ok.at =
    subst (λ ps. IsPileAt c.args.name.now ps c.in-Ok.at) c.deref.ensures.value c.in-Ok.ensures.there in (
      subst ArePiles
          (sym (fallen_there c.args.name.now c.self.inside.piles.items c.in-Ok.at there c.index-pile.result.now
          c.index-pile.ensures c.if-pile-le1.false))
          (fewer_are c.args.name.now c.self.inside.piles.items c.self.invariant.0),
      (let few = c.self.invariant.1 in omega (arith, length-set {A = Pile})),
    )
