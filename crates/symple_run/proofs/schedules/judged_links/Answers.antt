use Rattle.std.proofs.Common.{Err, refl, subst}
use Rattle.link_core.specs.declared.fault.LinkTextFault.{LinkTextFault}
use Rattle.link_core.specs.declared.fault.LinkTextFault.TheVariants.{Header, Line, TooLong}
use Rattle.link_core.specs.LinkSays.{GivesLinks}
use Rattle.symple_run.specs.FileWalks.{BadLinkText}
use Rattle.symple_run.proofs.schedules.judged_links.Goals as goal

pub returns-in-Err-Header : goal.returns-in-Err-Header
returns-in-Err-Header c =
    BadLinkText Header (λ e. cc)
    (subst (λ (why : LinkTextFault). GivesLinks c.args.text.now (Err why)) c.in-Err-Header.field-0-is
    c.in-Err-Header.ensures.told) refl

pub returns-in-Err-Line : goal.returns-in-Err-Line
returns-in-Err-Line c =
    BadLinkText (Line c.in-Err-Line.line) (λ e. cc)
    (subst (λ (why : LinkTextFault). GivesLinks c.args.text.now (Err why)) c.in-Err-Line.field-0-is
    c.in-Err-Line.ensures.told) refl

pub returns-in-Err-TooLong : goal.returns-in-Err-TooLong
returns-in-Err-TooLong c =
    BadLinkText TooLong (λ e. cc)
    (subst (λ (why : LinkTextFault). GivesLinks c.args.text.now (Err why)) c.in-Err-TooLong.field-0-is
    c.in-Err-TooLong.ensures.told) refl
