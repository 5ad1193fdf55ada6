-- A recorded run and the replay of what it kept.
use Rattle.std.specs.Prelude.{◌≡◌, ℕ, List, Option, Some, None}
use Rattle.command_steps.specs.Courses.{course_end, course_text}
use Rattle.command_steps.specs.Orders.{Course, Fails, IsOver, Keeps, Play, Prints, Takes}
use Rattle.link_runs.specs.LinkedPlays.{IsLossyPlay}
use Rattle.symple_face.specs.Work.{Work}
use Rattle.symple_run.specs.Followed.{IsFollowed}
use Rattle.symple_run.specs.Recorded.{IsDrawnPlay}

-- the bytes that a course keeps first, where it keeps some
abbrev pub kept_bytes : Course → Option (List ℕ)
kept_bytes IsOver = None
kept_bytes (Fails fault) = None
kept_bytes (Prints text rest) = kept_bytes rest
kept_bytes (Keeps name bytes rest) = Some bytes
kept_bytes (Takes used text rest) = None

-- the same bytes are put, and all is done
pub record GainsTheSame (course other : Course) : Type 0 where
  pub text : course_text other ≡ course_text course
  pub ends : course_end other ≡ None

-- what a recorded run kept is replayed to the same bytes
abbrev pub ReplaysGainTheSame : Work → Type 0
ReplaysGainTheSame work =
    (play : Play) (seed : ℕ) (name bytes : List ℕ) (course other : Course) → IsDrawnPlay work play seed name course →
    kept_bytes course ≡ Some bytes → IsFollowed work (λ machines. record play { machines = machines }) bytes other →
    GainsTheSame course other

-- and so is what a recorded run over links kept
abbrev pub LinkReplaysGainTheSame : Work → Type 0
LinkReplaysGainTheSame work =
    (play : Play) (seed : ℕ) (name bytes : List ℕ) (course other : Course) → IsLossyPlay work play seed name course →
    kept_bytes course ≡ Some bytes → IsFollowed work (λ machines. record play { machines = machines }) bytes other →
    GainsTheSame course other
