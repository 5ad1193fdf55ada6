use Rattle.std.proofs.Common.{sym, ◌∙◌, subst, arith}
use Rattle.std.proofs.Math.ListN.{length-set}
use Rattle.link_core.specs.declared.pile.Pile.{Pile}
use Rattle.link_core.specs.Piles.{ArePiles}
use Rattle.link_core.specs.PilePlaces.{HasNoPile, IsPileAt}
use Rattle.link_core.proofs.PileLaws.{more_are}
use Rattle.link_core.proofs.PileMoves.{risen_there}
use Rattle.link_core.proofs.piles.Piles.add.Goals as goal

pub invariant_of-self : goal.invariant_of-self
invariant_of-self c =
    let there : IsPileAt c.args.name.now c.self.inside.piles.items c.in-Ok.at =
    subst (λ ps. IsPileAt c.args.name.now ps c.in-Ok.at) c.deref.ensures.value c.in-Ok.ensures.there in (
      subst ArePiles
          (sym (risen_there c.args.name.now c.self.inside.piles.items c.in-Ok.at there c.index-pile.result.now
          c.index-pile.ensures c.saturating_add.result c.saturating_add.ensures))
          (more_are c.args.name.now c.self.inside.piles.items c.self.invariant.0),
      (let few = c.self.invariant.1 in omega (arith, length-set {A = Pile})),
    )

pub invariant_of-self-in-Err : goal.invariant_of-self-in-Err
invariant_of-self-in-Err c =
    let none : HasNoPile c.args.name.now c.self.inside.piles.items c.in-Err.at =
    subst (λ ps. HasNoPile c.args.name.now ps c.in-Err.at) c.deref.ensures.value c.in-Err.ensures.missing in (
      subst ArePiles (sym (c.in_ok-insert-in-Err.ensures.items ∙ sym none.more_is))
          (more_are c.args.name.now c.self.inside.piles.items c.self.invariant.0),
      (let len = c.in_ok-insert-in-Err.ensures.len in
          let low = c.if-len-ge-MOST_PILES.false in
          let is = c.len.ensures in
          omega arith),
    )
