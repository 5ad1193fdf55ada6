-- What courses of recorded, followed and renewed runs do to the outside, whatever tells them.
use Rattle.std.proofs.Common.{◌≡◌, ◌≢◌, ℕ, ◌≤◌, Bool, true, false, List, [], ◌∷◌, ◌++◌, length, Option, Some, None, nat_lt, refl, sym, ap, subst, append_assoc, append-nil}
use Rattle.std.specs.Prelude.{if◌then◌else◌}
use Rattle.std.proofs.lemmas.Bool.{ltb-false}
use Rattle.command_steps.specs.declared.impossible.Impossible.{Impossible}
use Rattle.command_steps.specs.Courses.{TakesNothing, course_end}
use Rattle.command_steps.specs.Comes.{Comes}
use Rattle.command_steps.specs.Notes.{Fault, LongSchedule}
use Rattle.command_steps.specs.Orders.{Course, Fails, Task, follows}
use Rattle.command_steps.specs.Quiet.{IsQuiet, Spares}
use Rattle.command_steps.proofs.ComesLaws.{Must}
use Rattle.command_steps.proofs.OrderLaws.{ends_alike}
use Rattle.delivery_log.specs.declared.form.Form.TheVariants.{Roundless}
use Rattle.delivery_log.specs.ScheduleTexts.{schedule_text}
use Rattle.outside.specs.Files.{File}
use Rattle.symple_run.specs.Followed.{renewed}
use Rattle.machine_runs.specs.Tellings.{Listed, Telling, followed_as, recorded, recorded_as, told_end, told_event, unless_lacking, unless_refused}
use Rattle.vert_base.specs.declared.limits.TheConstants.{SCHEDULE_BYTES}
use Rattle.vert_base.specs.declared.message.Event.{Event}

-- a course that is the same comes out alike
module _ (courses : Task → Course → Type 0) (course other : Course) where
  pub same_alike : course ≡ other → TakesNothing course →
      (files : List File) (input : Option (List ℕ)) (outcome : Option Fault) →
      Comes courses (follows course) files input outcome → Must courses (follows other) files input outcome
  same_alike same calm files input outcome =
      ends_alike courses files input outcome course other calm (subst TakesNothing same calm) (ap course_end same)

-- a fact of a course that fails, and of one that goes on
either_holds : (P : Course → Type 0) → ((fault : Fault) → P (Fails fault)) → (b : Bool) (fault : Fault)
    (rest : Course) → P rest → P (if b then Fails fault else rest)
either_holds P fails true fault rest holds = fails fault
either_holds P fails false fault rest holds = holds

refused_holds : (P : Course → Type 0) → ((fault : Fault) → P (Fails fault)) → (o : Option Impossible) (line : ℕ)
    (rest : Course) → P rest → P (unless_refused o line rest)
refused_holds P fails None line rest holds = holds
refused_holds P fails (Some why) line rest holds = fails _

lacking_holds : (P : Course → Type 0) → ((fault : Fault) → P (Fails fault)) → (o : Option Fault) (rest : Course) →
    P rest → P (unless_lacking o rest)
lacking_holds P fails None rest holds = holds
lacking_holds P fails (Some fault) rest holds = fails fault

module _ {X E : Type 0} (t : Telling X E) (text : List E → List ℕ) (name : List ℕ) where
  too_long : List E → E → Bool
  too_long added e = nat_lt SCHEDULE_BYTES (length (text (added ++ e ∷ [])))

  pub recorded_as_calm : (added : List E) (x : X) (es : List E) → TakesNothing (recorded_as t text name added x es)
  unfolding too_long
  recorded_as_calm added x [] = tt
  recorded_as_calm added x (e ∷ es) = either_holds TakesNothing (λ fault. tt) (too_long added e) LongSchedule _
      (recorded_as_calm (added ++ e ∷ []) (t.behind x e) es)

  pub recorded_as_spares : (courses : Task → Course → Type 0) (other : List ℕ) → other ≢ name → (added : List E)
      (x : X) (es : List E) → Spares courses other (follows (recorded_as t text name added x es))
  unfolding too_long
  recorded_as_spares courses other apart added x [] = (apart, tt)
  recorded_as_spares courses other apart added x (e ∷ es) =
      either_holds (λ c. Spares courses other (follows c)) (λ fault. tt) (too_long added e) LongSchedule _
      (recorded_as_spares courses other apart (added ++ e ∷ []) (t.behind x e) es)

  within_more : (added : List E) (e : E) (es : List E) (long : Bool) (rest : Course) → too_long added e ≡ long →
      course_end (if long then Fails LongSchedule else rest) ≡ None →
      (length (text (added ++ e ∷ [])) ≤ SCHEDULE_BYTES → course_end rest ≡ None →
      length (text ((added ++ e ∷ []) ++ es)) ≤ SCHEDULE_BYTES) → length (text (added ++ e ∷ es)) ≤ SCHEDULE_BYTES
  unfolding too_long
  within_more added e es true rest is ends more = absurd (cc)
  within_more added e es false rest is ends more = subst (λ (xs : List E). length (text xs) ≤ SCHEDULE_BYTES)
      (append_assoc added (e ∷ []) es) (more (ltb-false _ _ is) ends)

  -- a recording that comes to its end is within its limit
  pub recorded_within : (added : List E) (x : X) (es : List E) → length (text added) ≤ SCHEDULE_BYTES →
      course_end (recorded_as t text name added x es) ≡ None → length (text (added ++ es)) ≤ SCHEDULE_BYTES
  unfolding too_long
  recorded_within added x [] fits ends = subst (λ (xs : List E). length (text xs) ≤ SCHEDULE_BYTES)
      (sym (append-nil added)) fits
  recorded_within added x (e ∷ es) fits ends = within_more added e es (too_long added e)
      (told_event t x e (recorded_as t text name (added ++ e ∷ []) (t.behind x e) es)) refl ends
      (λ short well. recorded_within (added ++ e ∷ []) (t.behind x e) es short well)

module _ {X E : Type 0} (t : Telling X E) where
  pub followed_as_calm : (x : X) (ls : List (Listed E)) → TakesNothing (followed_as t x ls)
  followed_as_calm x [] = lacking_holds TakesNothing (λ fault. tt) (t.lacks x) (told_end t x) tt
  followed_as_calm x (l ∷ ls) = refused_holds TakesNothing (λ fault. tt) (t.refusal x l.event) _ _
      (followed_as_calm (t.behind x l.event) ls)

  pub followed_as_spares : (courses : Task → Course → Type 0) (other : List ℕ) (x : X) (ls : List (Listed E)) →
      Spares courses other (follows (followed_as t x ls))
  followed_as_spares courses other x [] =
      lacking_holds (λ c. Spares courses other (follows c)) (λ fault. tt) (t.lacks x) (told_end t x) tt
  followed_as_spares courses other x (l ∷ ls) =
      refused_holds (λ c. Spares courses other (follows c)) (λ fault. tt) (t.refusal x l.event) _ _
      (followed_as_spares courses other (t.behind x l.event) ls)

  pub followed_as_quiet : (courses : Task → Course → Type 0) (x : X) (ls : List (Listed E)) →
      IsQuiet courses (follows (followed_as t x ls))
  followed_as_quiet courses x [] =
      lacking_holds (λ c. IsQuiet courses (follows c)) (λ fault. tt) (t.lacks x) (told_end t x) tt
  followed_as_quiet courses x (l ∷ ls) =
      refused_holds (λ c. IsQuiet courses (follows c)) (λ fault. tt) (t.refusal x l.event) _ _
      (followed_as_quiet courses (t.behind x l.event) ls)

-- ---- texts of form 2
module _ {X : Type 0} (t : Telling X Event) (name : List ℕ) (machines : ℕ) where
  pub recorded_calm : (added : List Event) (x : X) (es : List Event) →
      TakesNothing (recorded t name machines added x es)
  recorded_calm added x es = recorded_as_calm t (schedule_text Roundless machines) name added x es

  pub recorded_spares : (courses : Task → Course → Type 0) (other : List ℕ) → other ≢ name → (added : List Event)
      (x : X) (es : List Event) → Spares courses other (follows (recorded t name machines added x es))
  recorded_spares courses other apart added x es =
      recorded_as_spares t (schedule_text Roundless machines) name courses other apart added x es

module _ (target : List ℕ) (machines : ℕ) (events : List Event) where
  pub renewed_calm : TakesNothing (renewed target machines events)
  renewed_calm = either_holds TakesNothing (λ fault. tt)
      (nat_lt SCHEDULE_BYTES (length (schedule_text Roundless machines events))) LongSchedule _ tt

  pub renewed_spares : (courses : Task → Course → Type 0) (other : List ℕ) → other ≢ target →
      Spares courses other (follows (renewed target machines events))
  renewed_spares courses other apart = either_holds (λ c. Spares courses other (follows c)) (λ fault. tt)
      (nat_lt SCHEDULE_BYTES (length (schedule_text Roundless machines events))) LongSchedule _ (apart, tt)
