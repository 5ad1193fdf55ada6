use Rattle.std.proofs.Common.{refl, sym, ◌∙◌}
use Rattle.link_core.proofs.LinkTextLaws.{one_link_fault, tells_one}
use Rattle.link_core.proofs.laws.links_have_one_text.Goals as goal

pub returns-clause-pair : goal.returns-clause-pair
returns-clause-pair c = tells_one

pub returns-clause-fault : goal.returns-clause-fault
returns-clause-fault c = one_link_fault

pub returns-clause-text : goal.returns-clause-text
returns-clause-text c = λ machines events is fits. record { is = is; fits = fits; spelled = refl }

pub returns-clause-alone : goal.returns-clause-alone
returns-clause-alone c = λ machines events a b said also. said.spelled ∙ sym also.spelled

pub returns-clause-recorded : goal.returns-clause-recorded
returns-clause-recorded c = λ text machines events is each.
    record {
      is = record { some = is.some; few = is.few; each = each };
      fits = is.fits;
      spelled = is.spelled;
    }
