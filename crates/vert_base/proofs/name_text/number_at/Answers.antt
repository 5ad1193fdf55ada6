use Rattle.std.proofs.Common.{◌≡◌, ◌∙◌, ap, sym, drop, ◌++◌}
use Rattle.std.specs.Prelude.{decimal}
use Rattle.vert_base.proofs.TextLaws.{same_number}
use Rattle.vert_base.proofs.name_text.number_at.Goals as goal

pub returns-in_err-number_in-clause-found : goal.returns-in_err-number_in-clause-found
returns-in_err-number_in-clause-found c = λ number rest small end e.
    let digits : c.split_at.result.1.now ≡ decimal number ++ rest = c.split_at.ensures.back ∙ ap (drop 1) e in
    let same = same_number c.split_at.result.1.now number rest c.digits_at.result small end digits
    c.digits_at.ensures.digits c.digits_at.ensures.end in
    let none = c.in_err-number_in.ensures.found number small (same.0 ∙ sym c.split_at-2.ensures.front) in
    absurd cc

pub returns-clause-found : goal.returns-clause-found
returns-clause-found c = λ number rest small end e.
    let digits : c.split_at.result.1.now ≡ decimal number ++ rest = c.split_at.ensures.back ∙ ap (drop 1) e in
    let same = same_number c.split_at.result.1.now number rest c.digits_at.result small end digits
    c.digits_at.ensures.digits c.digits_at.ensures.end in
    let found = c.in_ok-number_in.ensures.found number small (same.0 ∙ sym c.split_at-2.ensures.front) in
    (cc, c.split_at-2.ensures.back ∙ same.1)
