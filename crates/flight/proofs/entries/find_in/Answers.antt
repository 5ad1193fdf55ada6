use Rattle.std.proofs.Common.{arith, rules, ◌≡◌, ◌∙◌, ◌<◌, ◌≤◌, length, List, true, false, subst}
use Rattle.std.specs.Prelude.{slice_index_or}
use Rattle.vert_base.specs.Names.{is_before}
use Rattle.flight.specs.declared.entries.Entry.{Entry}
use Rattle.flight.proofs.PlaceLaws.{same_item}
use Rattle.flight.proofs.EntryLaws.{found_there, nowhere}
use Rattle.flight.proofs.entries.find_in.Goals as goal

pub returns-in_err-entry-clause-none : goal.returns-in_err-entry-clause-none
returns-in_err-entry-clause-none c =
    let past : length c.args.entries.now.items ≤ c.place_of-at.result = search rules in
    rw c.from_residual.ensures
    (nowhere c.args.name.now c.args.entries.now.items c.place_of-at.result c.requires c.place_of-at.ensures.value
    (λ other within. absurd (omega (arith, past, within))))

pub returns-then-is_before-clause-none : goal.returns-then-is_before-clause-none
returns-then-is_before-clause-none c =
    let x = c.args.name.now in
    let es : List Entry = c.args.entries.now.items in
    let is : c.in_ok-entry.entry.now ≡ slice_index_or es c.place_of-at.result c.in_ok-entry.entry.now = search rules in
    let before : is_before x c.in_ok-entry.entry.now.name ≡ true = search rules in
    nowhere x es c.place_of-at.result c.requires c.place_of-at.ensures.value (λ other within.
    subst (λ (e : Entry). is_before x e.name ≡ true)
    (is ∙ same_item es c.place_of-at.result c.in_ok-entry.entry.now other within) before)

pub returns-else-is_before-clause-some : goal.returns-else-is_before-clause-some
returns-else-is_before-clause-some c =
    let x = c.args.name.now in
    let es : List Entry = c.args.entries.now.items in
    let within : c.place_of-at.result < length es = search rules in
    let is : c.in_ok-entry.entry.now ≡ slice_index_or es c.place_of-at.result c.in_ok-entry.entry.now = search rules in
    let after : is_before x c.in_ok-entry.entry.now.name ≡ false = search rules in
    found_there x es c.place_of-at.result c.place_of-at.ensures.value within (λ other.
    subst (λ (e : Entry). is_before x e.name ≡ false)
    (is ∙ same_item es c.place_of-at.result c.in_ok-entry.entry.now other within) after)
