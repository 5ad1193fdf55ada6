-- How each task may go, by machines of a kind.
use Rattle.command_steps.specs.Orders.{Course, Drawn, DrawnLossy, Followed, Imaged, Parted, Plain, Renewed, Resumed, Served, Shown, Task}
use Rattle.link_runs.specs.LinkedPlays.{IsLossyPlay}
use Rattle.part_runs.specs.Parting.{IsParted}
use Rattle.part_runs.specs.Serving.{IsServing}
use Rattle.symple_face.specs.Work.{Work}
use Rattle.symple_run.specs.Followed.{IsFollowed, IsRenewed}
use Rattle.symple_run.specs.Recorded.{IsDrawnPlay}
use Rattle.symple_run.specs.Shows.{IsShow}
use Rattle.symple_run.specs.KeptImages.{IsImagedPlay}
use Rattle.symple_run.specs.Resumes.{IsResumedPlay}
pub use Rattle.machine_runs.specs.PlainPlays.{GoesOn, IsFirstWorld, IsPlainPlay, LeadsOn, course_from, ends_round, first_report, is_late_judge, judges_late, line_of, line_with, lines_behind, lines_to, log_line, report_with, rows_of, rows_with}

-- the task may go so, where machines are of this kind
abbrev pub IsPlayed : Work → Task → Course → Type 0
IsPlayed work (Plain play) course = IsPlainPlay work play course
IsPlayed work (Imaged play origin image) course = IsImagedPlay work play origin image course
IsPlayed work (Resumed play origin even odd) course = IsResumedPlay work play origin even odd course
IsPlayed work (Drawn play seed schedule) course = IsDrawnPlay work play seed schedule course
IsPlayed work (DrawnLossy play seed schedule) course = IsLossyPlay work play seed schedule course
IsPlayed work (Followed play schedule) course = IsFollowed work play schedule course
IsPlayed work (Shown seed machines) course = IsShow work seed machines course
IsPlayed work (Renewed schedule target) course = IsRenewed schedule target course
IsPlayed work (Parted play program prefix) course = IsParted play program prefix course
IsPlayed work (Served part rows) course = IsServing work part rows course
