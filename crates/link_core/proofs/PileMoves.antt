-- What a write at the pile of a name makes of the piles.
use Rattle.std.proofs.Common.{◌≡◌, ℕ, ◌+◌, ◌-◌, ◌<◌, ◌≤◌, List, ap, sym, ◌∙◌, subst}
use Rattle.std.specs.Prelude.{min, slice_index_or, slice_set}
use Rattle.std.specs.List.{remove}
use Rattle.vert_base.specs.declared.message.Name.{Name}
use Rattle.link_core.specs.declared.pile.Pile.{Pile}
use Rattle.link_core.specs.Piles.{fallen, fewer, more, risen}
use Rattle.link_core.specs.PilePlaces.{IsPileAt}

module _ (x : Name) (ps : List Pile) (at : ℕ) (there : IsPileAt x ps at) (p : Pile) (is : p ≡ slice_index_or ps at p)
  where
    pub risen_there : (n : ℕ) → n ≡ min (p.count + 1) 255 →
        slice_set ps at (record { name = p.name; count = n }) ≡ more x ps
    risen_there n e =
        ap (λ (m : ℕ). slice_set ps at (record { name = p.name; count = m })) e
        ∙ ap (λ (q : Pile). slice_set ps at (risen q)) is
        ∙ sym (there.more_is p)

    pub fallen_there : 1 < p.count → slice_set ps at (record { name = p.name; count = p.count - 1 }) ≡ fewer x ps
    fallen_there many =
        ap (λ (q : Pile). slice_set ps at (fallen q)) is
        ∙ sym (there.fewer_is p (subst (λ (q : Pile). 1 < q.count) is many))

    pub last_there : p.count ≤ 1 → remove ps at ≡ fewer x ps
    last_there few = sym (there.last_is p (subst (λ (q : Pile). q.count ≤ 1) is few))
