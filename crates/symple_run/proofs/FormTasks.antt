-- Tasks with the text of a schedule of any form go one way: its first line says its form, and a text of form 3 says one
-- pair of machines and events, or has one fault.
use Rattle.std.proofs.Common.{◌≡◌, ◌≢◌, ℕ, List, [], ◌∷◌, ◌++◌, Err, refl, sym, ap, subst, ◌∙◌, arith, drop}
use Rattle.std.specs.Prelude.{flat_map}
use Rattle.command_steps.specs.Notes.{Fault}
use Rattle.command_steps.specs.Orders.{Course, Fails}
use Rattle.delivery_log.specs.declared.form.Form.{Form}
use Rattle.delivery_log.specs.declared.form.Form.TheVariants.{Roundless, Whole}
use Rattle.delivery_log.specs.Says.{HasNoHeader}
use Rattle.delivery_log.specs.ScheduleTexts.{header_line as first_line}
use Rattle.link_core.specs.declared.event.LinkEvent.{LinkEvent}
use Rattle.link_core.specs.declared.fault.LinkTextFault.{LinkTextFault}
use Rattle.link_core.specs.declared.fault.LinkTextFault.TheVariants.{Header, Line, TooLong, Want}
use Rattle.link_core.specs.LinkSays.{GivesLinks, SaysLinks}
use Rattle.link_core.specs.LinkTexts.{event_line, header_line}
use Rattle.link_runs.proofs.OneLaws.{bad_header, not_bad, one_bad_line, says_header, tells_one}
use Rattle.symple_run.specs.Followed.{ByEachForm, ByEvents, ByLinkText, ByLinks, LinksAreFaulty, TellsLinks, link_text_fault}
use Rattle.symple_run.proofs.TextTasks.{text_holds, text_settles}
use Rattle.vert_base.specs.declared.message.Event.{Event}

-- ---- a text of form 3
-- that says machines and events has no fault
pub no_link_fault : (text : List ℕ) (machines : ℕ) (events : List LinkEvent) → SaysLinks text machines events →
    (why : LinkTextFault) → why ≢ Want → GivesLinks text (Err why) → ⊥
no_link_fault text machines events says TooLong real gives =
    let fits = says.fits in absurd (omega (arith, fits, gives))
no_link_fault text machines events says Header real gives = says_header text machines events says gives
no_link_fault text machines events says (Line number) real gives = not_bad text machines number events says gives
no_link_fault text machines events says Want real gives = real refl

-- and one that says none has one
pub one_link_fault : (text : List ℕ) (why because : LinkTextFault) → why ≢ Want → because ≢ Want →
    GivesLinks text (Err why) → GivesLinks text (Err because) → why ≡ because
one_link_fault text TooLong TooLong a b long also = refl
one_link_fault text TooLong Header a b long also = let fits = also.fits in absurd (omega (arith, long, fits))
one_link_fault text TooLong (Line n) a b long also = let fits = also.fits in absurd (omega (arith, long, fits))
one_link_fault text TooLong Want a b long also = absurd (b refl)
one_link_fault text Header TooLong a b lacks also = let fits = lacks.fits in absurd (omega (arith, also, fits))
one_link_fault text Header Header a b lacks also = refl
one_link_fault text Header (Line n) a b lacks also = absurd (bad_header text n also lacks)
one_link_fault text Header Want a b lacks also = absurd (b refl)
one_link_fault text (Line m) TooLong a b bad also = let fits = bad.fits in absurd (omega (arith, also, fits))
one_link_fault text (Line m) Header a b bad also = absurd (bad_header text m bad also)
one_link_fault text (Line m) (Line n) a b bad also = ap Line (one_bad_line text m n bad also)
one_link_fault text (Line m) Want a b bad also = absurd (b refl)
one_link_fault text Want because a b gives also = absurd (a refl)

links_settle : (text : List ℕ) (told : ℕ → List LinkEvent → Course → Type 0) →
    ((machines : ℕ) (events : List LinkEvent) (a b : Course) → told machines events a → told machines events b → a
    ≡ b) →
    (course other : Course) → ByLinkText text told course → ByLinkText text told other → course ≡ other
links_settle text told settles course other (TellsLinks m es a is) (TellsLinks n fs b also) =
    let pair = tells_one text m n es fs a b in
    settles n fs course other
    (subst (λ (list : List LinkEvent). told n list course) pair.1
    (subst (λ (k : ℕ). told k es course) pair.0 is)) also
links_settle text told settles course other (TellsLinks m es a is) (LinksAreFaulty why real gives also) =
    absurd (no_link_fault text m es a why real gives)
links_settle text told settles course other (LinksAreFaulty why real gives is) (TellsLinks n fs b also) =
    absurd (no_link_fault text n fs b why real gives)
links_settle text told settles course other (LinksAreFaulty why real gives is) (LinksAreFaulty because too shows also) =
    is
    ∙ ap (λ (fault : LinkTextFault). Fails (link_text_fault fault)) (one_link_fault text why because real too gives
    shows)
    ∙ sym also

-- ---- a text of any form
-- where what is told settles a course, so does the text
module _ (text : List ℕ) (told : ℕ → Form → List Event → Course → Type 0)
    (linked : ℕ → List LinkEvent → Course → Type 0) where
  pub each_settles : ((machines : ℕ) (form : Form) (events : List Event) (a b : Course) → told machines form
      events a → told machines form events b → a ≡ b) →
      ((machines : ℕ) (events : List LinkEvent) (a b : Course) → linked machines events a → linked machines
      events b → a ≡ b) → (course other : Course) → ByEachForm text told linked course →
      ByEachForm text told linked other → course ≡ other
  each_settles one two course other (ByEvents some is) (ByEvents some' also) =
      text_settles text told one course other is also
  each_settles one two course other (ByEvents some is) (ByLinks none also) = absurd (some none)
  each_settles one two course other (ByLinks none is) (ByEvents some also) = absurd (some none)
  each_settles one two course other (ByLinks none is) (ByLinks none' also) =
      links_settle text linked two course other is also

-- what holds of a course that fails, and of each that is told, holds of that by a text
links_hold : (text : List ℕ) (told : ℕ → List LinkEvent → Course → Type 0) (P : Course → Type 0) →
    ((fault : Fault) → P (Fails fault)) →
    ((machines : ℕ) (events : List LinkEvent) (course : Course) → told machines events course → P course) →
    (course : Course) → ByLinkText text told course → P course
links_hold text told P fails holds course (TellsLinks machines events says is) = holds machines events course is
links_hold text told P fails holds course (LinksAreFaulty why real gives is) =
    subst P (sym is) (fails (link_text_fault why))

module _ (text : List ℕ) (told : ℕ → Form → List Event → Course → Type 0)
    (linked : ℕ → List LinkEvent → Course → Type 0) (P : Course → Type 0) where
  pub each_holds : ((fault : Fault) → P (Fails fault)) →
      ((machines : ℕ) (form : Form) (events : List Event) (course : Course) → told machines form events course →
      P course) →
      ((machines : ℕ) (events : List LinkEvent) (course : Course) → linked machines events course → P course) →
      (course : Course) → ByEachForm text told linked course → P course
  each_holds fails holds also course (ByEvents some is) = text_holds text told P fails holds course is
  each_holds fails holds also course (ByLinks none is) = links_hold text linked P fails also course is

-- a text of form 3 has no first line of another one: its number stands behind nine bytes
abbrev first_of : List ℕ → ℕ
first_of [] = 0
first_of (byte ∷ bytes) = byte

other_front : (form : Form) (m n : ℕ) (r s : List ℕ) → header_line m ++ r ≡ first_line form n ++ 10 ∷ s → ⊥
other_front Whole m n r s same =
    let number : 51 ≡ 49 = ap (λ (t : List ℕ). first_of (drop 9 t)) same in absurd (omega (arith, number))
other_front Roundless m n r s same =
    let number : 51 ≡ 50 = ap (λ (t : List ℕ). first_of (drop 9 t)) same in absurd (omega (arith, number))

pub no_other_header : (text : List ℕ) (machines : ℕ) (events : List LinkEvent) → SaysLinks text machines events →
    HasNoHeader text
no_other_header text machines events says = record {
  fits = says.fits;
  none = λ form n rest some few same.
      other_front form machines n (flat_map event_line events) rest (sym says.spelled ∙ same);
}
