-- The rounds that the events of a run end, as machines of any kind tell them.
use Rattle.std.specs.Prelude.{nat_le, ◌==◌, Bool, List, [], ◌∷◌, ◌++◌, Option, None, Some, if◌then◌else◌, slice_get}
use Rattle.plain_run.specs.Told.{Told}
use Rattle.vert_base.specs.declared.message.Event.{Event}
use Rattle.vert_base.specs.declared.message.Event.TheVariants.{Go, Take}
use Rattle.circulant_plan.specs.declared.spot.Spot.{Spot}
use Rattle.circulant_plan.specs.declared.spot.Spot.TheVariants.{Tell, Judge, Begin, Scan, Close, Over}
use Rattle.symple_face.specs.Cluster.{World, step}
use Rattle.symple_face.specs.State.{State}
use Rattle.symple_face.specs.Work.{Work}
use Rattle.schedule_laws.specs.Layout.{told_in}

-- the round of a judge's go: none for round 0
abbrev pub judged_round : Bool → Work → World → State → Spot → List Told
judged_round kept work w s Tell = []
judged_round kept work w s (Judge r) =
    if nat_le 1 r then told_in kept work (step work w (Go 0)) (work.report (work.go s)) ∷ [] else []
judged_round kept work w s (Begin r) = []
judged_round kept work w s (Scan r step h) = []
judged_round kept work w s (Close r dense) = []
judged_round kept work w s Over = []

abbrev pub gone_round : Bool → Work → World → Option State → List Told
gone_round kept work w None = []
gone_round kept work w (Some s) = judged_round kept work w s s.at.spot

-- the round that an event ends, where it ends one
abbrev pub round_ended : Bool → Work → World → Event → List Told
round_ended kept work w (Go m) = if m == 0 then gone_round kept work w (slice_get w.sites 0) else []
round_ended kept work w (Take x) = []

-- the rounds that a list of events ends
abbrev pub rounds_ended : Bool → Work → World → List Event → List Told
rounds_ended kept work w [] = []
rounds_ended kept work w (e ∷ es) = round_ended kept work w e ++ rounds_ended kept work (step work w e) es
