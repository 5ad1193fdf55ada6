-- Which of the possible events is played next.
use Rattle.std.specs.Prelude.{◌≡◌, ◌<◌, ℕ, ◌%◌, ◌^◌, true, false, Option, Some, List, [], ◌∷◌, length, slice_get}
use Rattle.rand_pcg.specs.Lcg.{Lcg, increment_of, started}
use Rattle.rand_pcg.specs.Pcg.{multiplier_64, pcg32}
use Rattle.vert_base.specs.declared.message.Event.{Event}
use Rattle.vert_base.specs.declared.message.Event.TheVariants.{Go, Take}
use Rattle.vert_base.specs.declared.message.Name.{Name}
use Rattle.symple_face.specs.Cluster.{IsPlainRun, World, choices_of, finished, is_complete, step}
use Rattle.symple_face.specs.State.{State}
use Rattle.symple_face.specs.Work.{Work}
use Rattle.cluster_run.specs.Driven.{IsReached}

-- the generator of a seed
abbrev pub generator_of : ℕ → Lcg
generator_of seed = started 64 multiplier_64 seed (increment_of 64 1)

-- the next word of a generator, and the generator behind it
abbrev pub word_of : Lcg → ℕ
word_of g = (pcg32 g).0

abbrev pub behind_word : Lcg → Lcg
behind_word g = (pcg32 g).1

-- the choice that the next word draws
abbrev pub drawn_of : Lcg → World → Option Event
drawn_of g w = slice_get (choices_of w) (word_of g % length (choices_of w))

-- the events are the drawn ones from here on, up to the end
abbrev pub IsDrawnRun : Work → World → Lcg → List Event → Type 0
IsDrawnRun work w g [] = finished w ≡ true
IsDrawnRun work w g (e ∷ es) =
    (finished w ≡ false) × (drawn_of g w ≡ Some e) × IsDrawnRun work (step work w e) (behind_word g) es

-- from each world that possible events leave the drawn events lead to the end
abbrev pub DrawnEventsEnd : Work → (State → Type 0) → Type 0
DrawnEventsEnd work sound =
    (w : World) (g : Lcg) → IsReached work sound w → (es : List Event) × IsDrawnRun work w g es

-- they are one list
abbrev pub DrawnEventsAreOne : Work → Type 0
DrawnEventsAreOne work =
    (w : World) (g : Lcg) (es fs : List Event) → IsDrawnRun work w g es → IsDrawnRun work w g fs → es ≡ fs

-- each is possible in its turn, and the run is finished after the last; and so the plain ones
abbrev pub DrawnRunsAreComplete : Work → (State → Type 0) → Type 0
DrawnRunsAreComplete work sound =
    (w : World) (g : Lcg) (es : List Event) → IsReached work sound w → IsDrawnRun work w g es →
    is_complete work w es ≡ true

abbrev pub PlainRunsAreComplete : Work → (State → Type 0) → Type 0
PlainRunsAreComplete work sound =
    (w : World) (es : List Event) → IsReached work sound w → IsPlainRun work w es → is_complete work w es ≡ true

-- the numbers of an event have the sizes of their types
pub record NameFits (x : Name) : Type 0 where
  pub round : x.round < 2 ^ 32
  pub step : x.step < 256
  pub half : x.half < 256
  pub from : x.from < 256
  pub to : x.to < 256

abbrev pub NumbersFit : Event → Type 0
NumbersFit (Go machine) = machine < 256
NumbersFit (Take x) = NameFits x
