use Rattle.std.proofs.Common.{◌≡◌, ◌<◌, [], ◌∷◌, ◌++◌, ◌∙◌, append_assoc, arith}
use Rattle.std.specs.Prelude.{codes, decimal}
use Rattle.std.proofs.lemmas.Option.{same_Some}
use Rattle.link_core.proofs.PlainLines.{header_plain}
use Rattle.link_core.proofs.line.header_at.Goals as goal

pub returns-in_err-line-clause-found : goal.returns-in_err-line-clause-found
returns-in_err-line-clause-found c = λ m rest some few same.
    absurd (c.in_err-line.ensures.found (codes "schedule 3 machines " ++ decimal m) rest (header_plain m few)
    (same ∙ append_assoc (codes "schedule 3 machines " ++ decimal m) (10 ∷ []) rest))

pub returns-in_err-machines-clause-found : goal.returns-in_err-machines-clause-found
returns-in_err-machines-clause-found c = λ m rest some few same.
    let at = c.in_ok-line.ensures.found (codes "schedule 3 machines " ++ decimal m) rest (header_plain m few)
    (same ∙ append_assoc (codes "schedule 3 machines " ++ decimal m) (10 ∷ []) rest) in
    let none = c.in_err-machines.ensures.found m few at.0 in
    absurd (cc)

pub returns-then-machines-lt1-clause-found : goal.returns-then-machines-lt1-clause-found
returns-then-machines-lt1-clause-found c = λ m rest some few same.
    let at = c.in_ok-line.ensures.found (codes "schedule 3 machines " ++ decimal m) rest (header_plain m few)
    (same ∙ append_assoc (codes "schedule 3 machines " ++ decimal m) (10 ∷ []) rest) in
    let number : c.in_ok-machines.machines ≡ m =
    same_Some c.in_ok-machines.machines m (c.in_ok-machines.ensures.found m few at.0) in
    let none : c.in_ok-machines.machines < 1 = omega arith in
    absurd (omega (arith, number, none, some))

pub returns-clause-found : goal.returns-clause-found
returns-clause-found c = λ m rest some few same.
    let at = c.in_ok-line.ensures.found (codes "schedule 3 machines " ++ decimal m) rest (header_plain m few)
    (same ∙ append_assoc (codes "schedule 3 machines " ++ decimal m) (10 ∷ []) rest) in
    (same_Some c.in_ok-machines.machines m (c.in_ok-machines.ensures.found m few at.0), at.1)
