-- What a body without bytes is read as: it stands for a message that was dropped or never came.
use Rattle.std.specs.Prelude.{◌≡◌, ℕ, pos, Bool, false, None, [], replicate}
use Rattle.vert_base.specs.declared.value.Ruling.TheVariants.{Stop}
use Rattle.body_shape.specs.Refresh.{PlainRow, rows_read, SuitsRefresh}
use Rattle.body_shape.specs.Update.{Sent, sents_read, SuitsUpdate}
use Rattle.body_shape.specs.Push.{sends_read, SuitsPush}
use Rattle.body_shape.specs.Tally.{counted_read, SuitsTally}
use Rattle.body_shape.specs.Verdict.{judged_read, SuitsVerdict}

abbrev pub still_row : ℕ → PlainRow
still_row width = record { fields = replicate width (pos 0); active = false }

abbrev pub nothing_sent : ℕ → ℕ → Sent
nothing_sent slots reduced = record { values = replicate slots None; operands = replicate reduced None }

-- rows of zeros that aren't active
abbrev pub RefreshMissing : Type 0
RefreshMissing = (count width bools : ℕ) → (rows_read width count [] ≡ replicate count (still_row width)) ×
    SuitsRefresh count width bools (rows_read width count [])

-- nothing sent of any vertex
abbrev pub UpdateMissing : Type 0
UpdateMissing = (count slots reduced : ℕ) →
    (sents_read slots reduced count [] ≡ replicate count (nothing_sent slots reduced)) ×
    SuitsUpdate count slots reduced (sents_read slots reduced count [])

-- no vertex that sends
abbrev pub PushMissing : Type 0
PushMissing = (count words bools : ℕ) → (sends_read words count [] ≡ replicate count None) ×
    SuitsPush count words bools (sends_read words count [])

-- counts of 0, and zeros for totals
abbrev pub TallyMissing : Type 0
TallyMissing = (totals : ℕ) → (counted_read totals []
    ≡ record { active = 0; edges = 0; reads = 0; totals = replicate totals (pos 0) }) ×
    SuitsTally totals (counted_read totals [])

-- Stop, and zeros for totals
abbrev pub VerdictMissing : Type 0
VerdictMissing = (dense sparse : Bool) (totals : ℕ) →
    (judged_read totals [] ≡ record { ruling = Stop; totals = replicate totals (pos 0) }) ×
    SuitsVerdict dense sparse totals (judged_read totals [])
