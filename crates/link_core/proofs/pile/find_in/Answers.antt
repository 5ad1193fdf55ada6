use Rattle.std.proofs.Common.{◌≡◌, ◌∙◌, ◌<◌, ◌≤◌, List, length, true, false, sym, subst, arith, rules}
use Rattle.std.specs.Prelude.{slice_index_or}
use Rattle.vert_base.specs.Names.{is_before}
use Rattle.link_core.specs.declared.pile.Pile.{Pile}
use Rattle.link_core.specs.PilePlaces.{HasNoPile, IsPileAt}
use Rattle.link_core.proofs.PilePlaceLaws.{missing, same_item, there}
use Rattle.link_core.proofs.pile.find_in.Goals as goal

pub returns-in-Some-clause-there : goal.returns-in-Some-clause-there
returns-in-Some-clause-there c =
    let x = c.args.name.now in
    let ps : List Pile = c.args.piles.now in
    let within : c.place_of-at.result < length ps = search rules in
    let is : c.in-Some.pile.now ≡ slice_index_or ps c.place_of-at.result c.in-Some.pile.now = search rules in
    let after : is_before x c.in-Some.pile.now.name ≡ false = search rules in
    subst (IsPileAt x ps) (sym c.place_of-at.ensures.value)
    (there x ps (subst (λ n. n < length ps) c.place_of-at.ensures.value within)
    (λ d. subst (λ n. is_before x (slice_index_or ps n d).name ≡ false) c.place_of-at.ensures.value
    (subst (λ (p : Pile). is_before x p.name ≡ false)
    (is ∙ same_item ps c.place_of-at.result c.in-Some.pile.now d within) after)))

pub returns-in_default-clause-missing : goal.returns-in_default-clause-missing
returns-in_default-clause-missing c =
    let x = c.args.name.now in
    let ps : List Pile = c.args.piles.now in
    let within : c.place_of-at.result < length ps = search rules in
    let is : c.in-Some.pile.now ≡ slice_index_or ps c.place_of-at.result c.in-Some.pile.now = search rules in
    let before : is_before x c.in-Some.pile.now.name ≡ true = search rules in
    subst (HasNoPile x ps) (sym c.place_of-at.ensures.value)
    (missing x ps c.requires
    (λ d lt. subst (λ n. is_before x (slice_index_or ps n d).name ≡ true) c.place_of-at.ensures.value
    (subst (λ (p : Pile). is_before x p.name ≡ true)
    (is ∙ same_item ps c.place_of-at.result c.in-Some.pile.now d within) before)))

pub returns-in_default-2-clause-missing : goal.returns-in_default-2-clause-missing
returns-in_default-2-clause-missing c =
    let x = c.args.name.now in
    let ps : List Pile = c.args.piles.now in
    let past : length ps ≤ c.place_of-at.result = search rules in
    subst (HasNoPile x ps) (sym c.place_of-at.ensures.value)
    (missing x ps c.requires
    (λ d lt. absurd (let at = c.place_of-at.ensures.value in omega (arith, past, lt, at))))
