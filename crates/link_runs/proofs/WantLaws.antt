-- Memory may be wanting before the first event of a recording.
use Rattle.std.proofs.Common.{ℕ, Bool, true, false, List, [], ◌∷◌, ◌++◌, length, Some, refl}
use Rattle.std.specs.Prelude.{if◌then◌else◌, nat_lt}
use Rattle.command_steps.specs.Leaves.{Leaves, WantsAtPut, WantsAtRefusal, WantsAtStore}
use Rattle.command_steps.specs.Notes.{LongSchedule, NoMemory}
use Rattle.command_steps.specs.Orders.{Course, Fails, NoTask, follows}
use Rattle.command_steps.specs.States.{Outside}
use Rattle.machine_runs.specs.RecordWalks.{RecordsOn}
use Rattle.machine_runs.specs.Tellings.{Telling, recorded_as, told_event}
use Rattle.rand_pcg.specs.Lcg.{Lcg}
use Rattle.vert_base.specs.declared.limits.TheConstants.{SCHEDULE_BYTES}

module _ {X E : Type 0} (t : Telling X E) (text : List E → List ℕ) (IsDrawn : List E → X → Lcg → List E → Type 0)
    (name : List ℕ) where
  wants_by : (b : Bool) (x : X) (e : E) (rest : Course) (w : Outside) →
      Leaves NoTask (follows (if b then Fails LongSchedule else told_event t x e rest)) w w (Some NoMemory)
  wants_by true x e rest w = WantsAtRefusal (record { same = refl; memory = refl })
  wants_by false x e rest w = WantsAtPut (record { same = refl; memory = refl })

  wants_first : (added : List E) (x : X) (es : List E) (w : Outside) →
      Leaves NoTask (follows (recorded_as t text name added x es)) w w (Some NoMemory)
  wants_first added x [] w = WantsAtStore (record { same = refl; memory = refl })
  wants_first added x (e ∷ es) w = wants_by (nat_lt SCHEDULE_BYTES (length (text (added ++ e ∷ [])))) x e
      (recorded_as t text name (added ++ e ∷ []) (t.behind x e) es) w

  -- memory was wanting before the first event
  pub record_wants : (added : List E) (x : X) (g : Lcg) → (es : List E) × IsDrawn added x g es → (w : Outside) →
      RecordsOn t text IsDrawn name added x g w w (Some NoMemory)
  record_wants added x g drawn w =
      record { events = drawn.0; drawn = drawn.1; leaves = wants_first added x drawn.0 w }
