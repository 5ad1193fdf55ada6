-- Two tellings that go alike make one course.
use Rattle.std.proofs.Common.{◌≡◌, ◌++◌, ℕ, List, [], ◌∷◌, Option, None, Some, length, refl, ap, ◌∙◌}
use Rattle.std.specs.Prelude.{if◌then◌else◌, nat_lt}
use Rattle.command_steps.specs.declared.impossible.Impossible.{Impossible}
use Rattle.command_steps.specs.Notes.{Fault, LongSchedule}
use Rattle.command_steps.specs.Orders.{Fails, IsOver, Keeps, Prints}
use Rattle.machine_runs.specs.Tellings.{Listed, Telling, followed_as, recorded_as, told_end, told_event, unless_lacking, unless_refused}
use Rattle.vert_base.specs.declared.limits.TheConstants.{SCHEDULE_BYTES}

module _ {X Y E : Type 0} (t : Telling X E) (u : Telling Y E) (R : X → Y → Type 0) where
  -- an event that isn't refused is told alike
  pub record GoesAlike (x : X) (y : Y) (e : E) : Type 0 where
    pub own : t.own x e ≡ u.own y e
    pub ended : t.ended x e ≡ u.ended y e
    pub behind : R (t.behind x e) (u.behind y e)

  pub record AreAlike : Type 0 where
    pub refusal : (x : X) (y : Y) → R x y → (e : E) → t.refusal x e ≡ u.refusal y e
    pub goes : (x : X) (y : Y) → R x y → (e : E) → t.refusal x e ≡ None → GoesAlike x y e
    pub lacks : (x : X) (y : Y) → R x y → t.lacks x ≡ u.lacks y
    pub table : (x : X) (y : Y) → R x y → t.lacks x ≡ None → t.table x ≡ u.table y

  -- no event is refused, and at the end nothing is lacking
  abbrev pub GoesWell : X → List E → Type 0
  GoesWell x [] = t.lacks x ≡ None
  GoesWell x (e ∷ es) = (t.refusal x e ≡ None) × GoesWell (t.behind x e) es

  module _ (alike : AreAlike) where
    pub followed_alike : (x : X) (y : Y) → R x y → (ls : List (Listed E)) → followed_as t x ls ≡ followed_as u y ls
    followed_alike x y r [] =
        by (t.lacks x) refl ∙ ap (λ (o : Option Fault). unless_lacking o (told_end u y)) (alike.lacks x y r)
      where
        by : (o : Option Fault) → t.lacks x ≡ o → unless_lacking o (told_end t x) ≡ unless_lacking o (told_end u y)
        by None none = ap (λ (text : List ℕ). Prints text IsOver) (alike.table x y r none)
        by (Some fault) is = refl
    followed_alike x y r (l ∷ ls) =
        by (λ r. followed_alike (t.behind x l.event) (u.behind y l.event) r ls) (t.refusal x l.event) refl
        ∙ ap (λ (o : Option Impossible). unless_refused o l.line (told_event u y l.event
        (followed_as u (u.behind y l.event) ls))) (alike.refusal x y r l.event)
      where
        by : (R (t.behind x l.event) (u.behind y l.event) →
            followed_as t (t.behind x l.event) ls ≡ followed_as u (u.behind y l.event) ls) →
            (o : Option Impossible) → t.refusal x l.event ≡ o →
            unless_refused o l.line (told_event t x l.event (followed_as t (t.behind x l.event) ls))
            ≡ unless_refused o l.line (told_event u y l.event (followed_as u (u.behind y l.event) ls))
        by more None none =
            let g = alike.goes x y r l.event none in
            let rest = more g.behind in
            (λ i. Prints (g.own i) (Prints (g.ended i) (rest i)))
        by more (Some why) is = refl

    pub recorded_alike : (text : List E → List ℕ) (name : List ℕ) (added : List E) (x : X) (y : Y) → R x y →
        (es : List E) → GoesWell x es → recorded_as t text name added x es ≡ recorded_as u text name added y es
    recorded_alike text name added x y r [] well =
        ap (λ (table : List ℕ). Keeps name (text added) (Prints table IsOver)) (alike.table x y r well)
    recorded_alike text name added x y r (e ∷ es) well =
        let g = alike.goes x y r e well.0 in
        let rest = recorded_alike text name (added ++ e ∷ []) (t.behind x e) (u.behind y e) g.behind es well.1 in
        (λ i. if nat_lt SCHEDULE_BYTES (length (text (added ++ e ∷ [])))
        then Fails LongSchedule
        else Prints (g.own i) (Prints (g.ended i) (rest i)))
