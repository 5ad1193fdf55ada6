use Rattle.std.proofs.Common.{◌≡◌, sym, subst, None, refl}
use Rattle.delivery_log.specs.LineReading.{IsHeader}
use Rattle.delivery_log.specs.declared.form.Form.TheVariants.{Whole, Roundless}
use Rattle.delivery_log.proofs.TakeLaws.{no_header, not_whole, one_form, some_same}
use Rattle.delivery_log.proofs.line.header_in.Goals as goal

pub returns-in-Some-clause-found : goal.returns-in-Some-clause-found
returns-in-Some-clause-found c = λ form machines is.
    let same : Whole ≡ form = one_form c.args.line.now Whole form c.in-Some.machines machines
    c.in-Some.ensures.spelled is in
    let whole : IsHeader Whole machines c.args.line.now =
    subst (λ f. IsHeader f machines c.args.line.now) (sym same) is in
    (same, some_same c.in-Some.machines machines (c.in-Some.ensures.found machines whole))

pub returns-in_err-machines_in-clause-found : goal.returns-in_err-machines_in-clause-found
returns-in_err-machines_in-clause-found c = λ form machines is.
    absurd (no_header c.args.line.now form machines c.machines_in.result None c.machines_in.ensures.found
    c.in_default.is c.in_err-machines_in.ensures.found refl is)

pub returns-clause-found : goal.returns-clause-found
returns-clause-found c = λ form machines is.
    let same : Roundless ≡ form = not_whole c.args.line.now form machines c.machines_in.result
    c.machines_in.ensures.found c.in_default.is is in
    let brief : IsHeader Roundless machines c.args.line.now =
    subst (λ f. IsHeader f machines c.args.line.now) (sym same) is in
    (same, some_same c.in_ok-machines_in.field-0 machines (c.in_ok-machines_in.ensures.found machines brief))
