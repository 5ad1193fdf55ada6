-- Runs over links, and by the text of a schedule of any form, go one way: those of machines of a kind, and those that
-- the source's run tells.
use Rattle.std.proofs.Common.{◌≡◌, ◌≢◌, ℕ, List, [], sym, ap, subst, ◌∙◌}
use Rattle.circulant_plan.specs.Skeleton.{Skeleton}
use Rattle.command_steps.specs.Courses.{TakesNothing}
use Rattle.command_steps.specs.Notes.{Fault}
use Rattle.command_steps.specs.Orders.{Course, Fails, Play, Task, follows}
use Rattle.command_steps.specs.Quiet.{IsQuiet, Spares}
use Rattle.delivery_log.specs.Choosers.{generator_of}
use Rattle.link_core.specs.declared.event.LinkEvent.{LinkEvent}
use Rattle.link_core.specs.Links.{Linked, linked_anew}
use Rattle.link_core.specs.LinkTexts.{links_text}
use Rattle.link_runs.proofs.OneLaws.{header_short, one_drawn, one_in_order}
use Rattle.link_runs.specs.LinkedPlays.{IsDrawnFar, IsLossyPlay}
use Rattle.link_runs.specs.LinkTellings.{by_links, listed_links}
use Rattle.link_runs.specs.SourceLinks.{IsFarOrder, Ordered, by_source_links, ordered_anew}
use Rattle.machine_runs.proofs.FirstLaws.{first_same}
use Rattle.machine_runs.specs.SourceTellings.{by_source}
use Rattle.machine_runs.specs.Tellings.{Listed, Telling, by_worlds, followed, followed_as, listed, recorded_as}
use Rattle.symple_face.specs.Cluster.{World}
use Rattle.symple_face.specs.Source.{Source}
use Rattle.symple_face.specs.Work.{Work}
use Rattle.symple_run.specs.Followed.{IsFollowed}
use Rattle.symple_run.specs.SourceSchedules.{IsSourceLossy, IsSourceReplay}
use Rattle.symple_run.specs.SourceTexts.{first_order, source_on}
use Rattle.symple_run.proofs.CourseShapes.{followed_as_calm, followed_as_quiet, followed_as_spares, recorded_as_calm, recorded_as_spares}
use Rattle.symple_run.proofs.FormTasks.{each_holds, each_settles}
use Rattle.symple_run.proofs.SourceTasks.{order_same, source_same}
use Rattle.vert_base.specs.declared.message.Event.{Event}

-- ---- machines of a kind
module _ (work : Work) where
  module _ (play : Play) (seed : ℕ) (name : List ℕ) where
    pub lossy_same : (course other : Course) → IsLossyPlay work play seed name course →
        IsLossyPlay work play seed name other → course ≡ other
    lossy_same course other a b =
        let first = first_same work play.program play.graph play.machines play.draws a.first b.first a.is_first
        b.is_first in
        let m = play.machines in
        a.course_is
        ∙ ap (λ (w : World). recorded_as (by_links work play.lines) (links_text m) name [] (linked_anew w) a.events)
        first
        ∙ one_drawn work play.lines name m [] (linked_anew b.first) (generator_of seed) a.events b.events
        (header_short m a.few.1)
        (subst (λ (w : World). IsDrawnFar work m [] (linked_anew w) (generator_of seed) a.events) first a.drawn) b.drawn
        ∙ sym b.course_is

    pub lossy_calm : (course : Course) → IsLossyPlay work play seed name course → TakesNothing course
    lossy_calm course is = subst TakesNothing (sym is.course_is)
        (recorded_as_calm (by_links work play.lines) (links_text play.machines) name [] (linked_anew is.first)
        is.events)

    pub lossy_spares : (courses : Task → Course → Type 0) (other : List ℕ) → other ≢ name → (course : Course) →
        IsLossyPlay work play seed name course → Spares courses other (follows course)
    lossy_spares courses other apart course is =
        subst (λ c. Spares courses other (follows c)) (sym is.course_is)
        (recorded_as_spares (by_links work play.lines) (links_text play.machines) name courses other apart []
        (linked_anew is.first) is.events)

  module _ (play : ℕ → Play) (text : List ℕ) where
    pub followed_same : (course other : Course) → IsFollowed work play text course → IsFollowed work play text other →
        course ≡ other
    followed_same course other is also =
        each_settles text _ _
        (λ machines form events a b one two.
        let p = play machines in
        one.course_is
        ∙ ap (λ (w : World). followed (by_worlds work p.lines) form 0 1 w events)
        (first_same work p.program p.graph p.machines p.draws one.first two.first one.is_first two.is_first)
        ∙ sym two.course_is)
        (λ machines events a b one two.
        let p = play machines in
        one.course_is
        ∙ ap (λ (w : World). followed_as (by_links work p.lines) (linked_anew w) (listed_links 1 events))
        (first_same work p.program p.graph p.machines p.draws one.first two.first one.is_first two.is_first)
        ∙ sym two.course_is) course other is also

    follow_holds : (P : Course → Type 0) → ((fault : Fault) → P (Fails fault)) →
        ((X E : Type 0) (t : Telling X E) (x : X) (ls : List (Listed E)) → P (followed_as t x ls)) →
        (course : Course) → IsFollowed work play text course → P course
    follow_holds P fails each course is =
        each_holds text _ _ P fails
        (λ machines form events c one.
        subst P (sym one.course_is) (each World Event (by_worlds work (play machines).lines) one.first (listed form 0
        1 events)))
        (λ machines events c one.
        subst P (sym one.course_is)
        (each Linked LinkEvent (by_links work (play machines).lines) (linked_anew one.first) (listed_links 1 events)))
        course is

    pub follow_calm : (course : Course) → IsFollowed work play text course → TakesNothing course
    follow_calm course is = follow_holds TakesNothing (λ fault. tt) (λ X E t x ls. followed_as_calm t x ls) course is

    pub follow_spares : (courses : Task → Course → Type 0) (other : List ℕ) (course : Course) →
        IsFollowed work play text course → Spares courses other (follows course)
    follow_spares courses other course is = follow_holds (λ c. Spares courses other (follows c)) (λ fault. tt)
        (λ X E t x ls. followed_as_spares t courses other x ls) course is

    pub follow_quiet : (courses : Task → Course → Type 0) (course : Course) → IsFollowed work play text course →
        IsQuiet courses (follows course)
    follow_quiet courses course is = follow_holds (λ c. IsQuiet courses (follows c)) (λ fault. tt)
        (λ X E t x ls. followed_as_quiet t courses x ls) course is

-- ---- the source's run
module _ (play : Play) (seed : ℕ) (name : List ℕ) where
  pub source_lossy_same : (course other : Course) → IsSourceLossy play seed name course →
      IsSourceLossy play seed name other → course ≡ other
  source_lossy_same course other a b =
      let src = source_same play a.on b.on in
      let k = order_same play a.on b.on in
      let m = play.machines in
      let k_b = first_order play b.on in
      a.course_is
      ∙ (λ i. recorded_as (by_source_links play.lines (src i)) (links_text m) name [] (ordered_anew (k i)) a.events)
      ∙ one_in_order play.lines (source_on play b.on) name m [] (ordered_anew k_b) (generator_of seed) a.events b.events
      (header_short m a.few.1)
      (subst (λ (s : Source). IsFarOrder s m [] (ordered_anew k_b) (generator_of seed) a.events) src
      (subst (λ (x : Skeleton). IsFarOrder (source_on play a.on) m [] (ordered_anew x) (generator_of seed) a.events) k
      a.drawn)) b.drawn
      ∙ sym b.course_is

  pub source_lossy_calm : (course : Course) → IsSourceLossy play seed name course → TakesNothing course
  source_lossy_calm course is = subst TakesNothing (sym is.course_is)
      (recorded_as_calm (by_source_links play.lines (source_on play is.on)) (links_text play.machines) name []
      (ordered_anew (first_order play is.on)) is.events)

  pub source_lossy_spares : (courses : Task → Course → Type 0) (other : List ℕ) → other ≢ name → (course : Course) →
      IsSourceLossy play seed name course → Spares courses other (follows course)
  source_lossy_spares courses other apart course is =
      subst (λ c. Spares courses other (follows c)) (sym is.course_is)
      (recorded_as_spares (by_source_links play.lines (source_on play is.on)) (links_text play.machines) name courses
      other apart [] (ordered_anew (first_order play is.on)) is.events)

module _ (play : ℕ → Play) (text : List ℕ) where
  pub replay_same : (course other : Course) → IsSourceReplay play text course → IsSourceReplay play text other →
      course ≡ other
  replay_same course other is also =
      each_settles text _ _
      (λ machines form events a b one two.
      let p = play machines in
      let src = source_same p one.on two.on in
      let k = order_same p one.on two.on in
      one.course_is ∙ (λ i. followed (by_source p.lines (src i)) form 0 1 (k i) events) ∙ sym two.course_is)
      (λ machines events a b one two.
      let p = play machines in
      let src = source_same p one.on two.on in
      let k = order_same p one.on two.on in
      one.course_is
      ∙ (λ i. followed_as (by_source_links p.lines (src i)) (ordered_anew (k i)) (listed_links 1 events))
      ∙ sym two.course_is) course other is also

  replay_holds : (P : Course → Type 0) → ((fault : Fault) → P (Fails fault)) →
      ((X E : Type 0) (t : Telling X E) (x : X) (ls : List (Listed E)) → P (followed_as t x ls)) →
      (course : Course) → IsSourceReplay play text course → P course
  replay_holds P fails each course is =
      each_holds text _ _ P fails
      (λ machines form events c one.
      let p = play machines in
      subst P (sym one.course_is)
      (each Skeleton Event (by_source p.lines (source_on p one.on)) (first_order p one.on) (listed form 0 1 events)))
      (λ machines events c one.
      let p = play machines in
      subst P (sym one.course_is)
      (each Ordered LinkEvent (by_source_links p.lines (source_on p one.on)) (ordered_anew (first_order p one.on))
      (listed_links 1 events)))
      course is

  pub replay_calm : (course : Course) → IsSourceReplay play text course → TakesNothing course
  replay_calm course is = replay_holds TakesNothing (λ fault. tt) (λ X E t x ls. followed_as_calm t x ls) course is

  pub replay_spares : (courses : Task → Course → Type 0) (other : List ℕ) (course : Course) →
      IsSourceReplay play text course → Spares courses other (follows course)
  replay_spares courses other course is = replay_holds (λ c. Spares courses other (follows c)) (λ fault. tt)
      (λ X E t x ls. followed_as_spares t courses other x ls) course is

  pub replay_quiet : (courses : Task → Course → Type 0) (course : Course) → IsSourceReplay play text course →
      IsQuiet courses (follows course)
  replay_quiet courses course is = replay_holds (λ c. IsQuiet courses (follows c)) (λ fault. tt)
      (λ X E t x ls. followed_as_quiet t courses x ls) course is
