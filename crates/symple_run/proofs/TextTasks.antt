-- Tasks with the text of a schedule go one way: the text says one pair of machines and events, or has one fault.
use Rattle.std.proofs.Common.{◌≡◌, ◌≢◌, ℕ, List, [], Err, refl, sym, ap, subst, ◌∙◌}
use Rattle.command_steps.specs.Courses.{TakesNothing}
use Rattle.command_steps.specs.Notes.{Fault}
use Rattle.command_steps.specs.Orders.{Course, Fails, Play, Task, follows}
use Rattle.command_steps.specs.Quiet.{Spares}
use Rattle.delivery_log.specs.declared.fault.ScheduleFault.{ScheduleFault}
use Rattle.delivery_log.specs.declared.fault.ScheduleFault.TheVariants.{Header, Line, TooLong, Want}
use Rattle.delivery_log.specs.declared.form.Form.{Form}
use Rattle.delivery_log.specs.Choosers.{IsDrawnRun, generator_of}
use Rattle.delivery_log.specs.Says.{Gives, Says}
use Rattle.delivery_log.specs.ScheduleTexts.{events_lines, text_of}
use Rattle.delivery_log.proofs.DrawnLaws.{drawn_is_one}
use Rattle.delivery_log.proofs.PairLaws.{has_one_fault, one_header, reads_back, stands_for_one}
use Rattle.symple_face.specs.Cluster.{World}
use Rattle.symple_face.specs.Work.{Work}
use Rattle.symple_run.specs.Followed.{ByText, IsFaulty, IsRenewed, Tells, text_fault}
use Rattle.symple_run.specs.Recorded.{IsDrawnPlay}
use Rattle.machine_runs.specs.Tellings.{by_worlds, recorded}
use Rattle.symple_run.proofs.CourseShapes.{recorded_calm, recorded_spares, renewed_calm, renewed_spares}
use Rattle.machine_runs.proofs.FirstLaws.{first_same}
use Rattle.vert_base.specs.declared.message.Event.{Event}

-- a text that says machines and events has no fault
pub no_fault : (text : List ℕ) (machines : ℕ) (events : List Event) → Says text machines events →
    (why : ScheduleFault) →
    why ≢ Want → Gives text (Err why) → ⊥
no_fault text machines events says TooLong real gives = reads_back text machines events (Err TooLong) says gives
no_fault text machines events says Header real gives = reads_back text machines events (Err Header) says gives
no_fault text machines events says (Line number) real gives =
    reads_back text machines events (Err (Line number)) says gives
no_fault text machines events says Want real gives = real refl

-- and says them in one form
pub one_form : (text : List ℕ) (m n : ℕ) (es fs : List Event) (a : Says text m es) (b : Says text n fs) → a.form
    ≡ b.form
one_form text m n es fs a b =
    (one_header a.form b.form m n (text_of (events_lines a.form 0 es)) (text_of (events_lines b.form 0 fs)) a.is.some
    a.is.few b.is.some b.is.few (sym a.spelled ∙ b.spelled)).form

-- where what is told settles a course, so does the text
pub text_settles : (text : List ℕ) (told : ℕ → Form → List Event → Course → Type 0) →
    ((machines : ℕ) (form : Form) (events : List Event) (a b : Course) → told machines form events a →
    told machines form events b → a ≡ b) →
    (course other : Course) → ByText text told course → ByText text told other → course ≡ other
text_settles text told settles course other (Tells m es a is) (Tells n fs b also) =
    let pair = stands_for_one text m n es fs a b in
    settles n b.form fs course other
    (subst (λ (f : Form). told n f fs course) (one_form text m n es fs a b)
    (subst (λ (list : List Event). told n a.form list course) pair.1
    (subst (λ (k : ℕ). told k a.form es course) pair.0 is))) also
text_settles text told settles course other (Tells m es a is) (IsFaulty why real gives also) =
    absurd (no_fault text m es a why real gives)
text_settles text told settles course other (IsFaulty why real gives is) (Tells n fs b also) =
    absurd (no_fault text n fs b why real gives)
text_settles text told settles course other (IsFaulty why real gives is) (IsFaulty because too shows also) =
    is
    ∙ ap (λ (fault : ScheduleFault). Fails (text_fault fault)) (has_one_fault text why because real too gives shows)
    ∙ sym also

-- what holds of a course that fails, and of each that is told, holds of that by a text
pub text_holds : (text : List ℕ) (told : ℕ → Form → List Event → Course → Type 0) (P : Course → Type 0) →
    ((fault : Fault) → P (Fails fault)) →
    ((machines : ℕ) (form : Form) (events : List Event) (course : Course) → told machines form events course →
    P course) →
    (course : Course) → ByText text told course → P course
text_holds text told P fails holds course (Tells machines events says is) = holds machines says.form events course is
text_holds text told P fails holds course (IsFaulty why real gives is) = subst P (sym is) (fails (text_fault why))

-- ---- the text renewed
pub renewed_same : (text target : List ℕ) (course other : Course) → IsRenewed text target course →
    IsRenewed text target other → course ≡ other
renewed_same text target course other is also =
    text_settles text _ (λ machines form events a b one two. one ∙ sym two) course other is also

pub renew_calm : (text target : List ℕ) (course : Course) → IsRenewed text target course → TakesNothing course
renew_calm text target course is =
    text_holds text _ TakesNothing (λ fault. tt)
    (λ machines form events c one. subst TakesNothing (sym one) (renewed_calm target machines events)) course is

pub renew_spares : (courses : Task → Course → Type 0) (text target other : List ℕ) → other ≢ target →
    (course : Course) → IsRenewed text target course → Spares courses other (follows course)
renew_spares courses text target other apart course is =
    text_holds text _ (λ c. Spares courses other (follows c)) (λ fault. tt)
    (λ machines form events c one. subst (λ d. Spares courses other (follows d)) (sym one)
    (renewed_spares target machines events courses other apart)) course is

-- ---- machines of a kind
module _ (work : Work) where
  pub drawn_same : (play : Play) (seed : ℕ) (name : List ℕ) (course other : Course) →
      IsDrawnPlay work play seed name course → IsDrawnPlay work play seed name other → course ≡ other
  drawn_same play seed name course other a b =
      let first = first_same work play.program play.graph play.machines play.draws a.first b.first a.is_first b.is_first
      in
      let events = drawn_is_one work b.first (generator_of seed) a.events b.events
      (subst (λ (w : World). IsDrawnRun work w (generator_of seed) a.events) first a.drawn) b.drawn in
      a.course_is
      ∙ ap (λ (w : World). recorded (by_worlds work play.lines) name play.machines [] w a.events) first
      ∙ ap (λ (es : List Event). recorded (by_worlds work play.lines) name play.machines [] b.first es) events
      ∙ sym b.course_is

  pub drawn_calm : (play : Play) (seed : ℕ) (name : List ℕ) (course : Course) →
      IsDrawnPlay work play seed name course → TakesNothing course
  drawn_calm play seed name course is = subst TakesNothing (sym is.course_is)
      (recorded_calm (by_worlds work play.lines) name play.machines [] is.first is.events)

  pub drawn_spares : (courses : Task → Course → Type 0) (play : Play) (seed : ℕ) (name other : List ℕ) →
      other ≢ name → (course : Course) → IsDrawnPlay work play seed name course → Spares courses other (follows course)
  drawn_spares courses play seed name other apart course is =
      subst (λ c. Spares courses other (follows c)) (sym is.course_is)
      (recorded_spares (by_worlds work play.lines) name play.machines courses other apart [] is.first is.events)
